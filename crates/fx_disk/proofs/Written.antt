-- A block's cell has the bytes of every write of the block, and its bytes at entry.
use Rattle.std.proofs.Common.{◌≡◌, ℕ, zero, suc, ◌+◌, ◌≤◌, ◌<◌, ◌&&◌, not, if◌then◌else◌, List, [], ◌∷◌, ◌++◌, length, take, get_or, map, refl, subst, sym, ◌∙◌, ap, arith, ⊎_elim, Bool, true, false, Contains}
use Rattle.std.proofs.lemmas.List.{map-append}
use Rattle.std.proofs.lemmas.List.Elements.{Contains-get_or, Contains-append_left, Contains-push, Contains-push_cases}
use Rattle.std.proofs.lemmas.List.Quantifiers.{all_pairs_push}
use Rattle.std.proofs.lemmas.Bool.{cases_lt}
use Rattle.std.proofs.lemmas.Bool.Decides.{eqb_tells}
use Rattle.fx_disk.specs.Record.{DiskRecord, Call, Write, Flush, Cell, call_at, candidates, cell_first, cell_after, cell_at, settled_cell, written_cell, flushed_cell, after_call, within_call}
use Rattle.fx_disk.specs.Loose.{IsWriteOf, payload, AreWrites}
use Rattle.fx_disk.proofs.Cells.{by_calls, Contains-one, one-is}
use Rattle.fx_disk.proofs.Loose.{cell_after-more}

module _ (calls : List Call) (b n : ℕ) where
  -- a call that is no write of the block
  same-writes : (written : List (List ℕ)) → (IsWriteOf b (call_at calls n) → ⊥) → AreWrites calls b n written → AreWrites calls b (n + 1) written
  same-writes written nope h = record {
    places = h.places;
    in_order = h.in_order;
    exact = λ k. (
      (λ held. let at : (k < n) × IsWriteOf b (call_at calls k) = (h.exact k).0 held in (omega arith, at.1)),
      (λ w. (h.exact k).1 (⊎_elim (λ below. below) (λ top. let e : k ≡ n = omega arith in absurd (nope (subst (λ (k : ℕ). IsWriteOf b (call_at calls k)) e w.1))) (cases_lt k n), w.1)),
    );
    bytes = h.bytes;
  }

  -- a write of the block
  one-more : (written : List (List ℕ)) (bytes : List ℕ) → IsWriteOf b (call_at calls n) → payload (call_at calls n) ≡ bytes → AreWrites calls b n written → AreWrites calls b (n + 1) (written ++ bytes ∷ [])
  one-more written bytes writes is h = record {
    places = h.places ++ n ∷ [];
    in_order = all_pairs_push (λ j k. j < k) h.places n h.in_order (λ k d lt. ((h.exact (get_or h.places k d)).0 (Contains-get_or h.places k d lt)).0);
    exact = λ k. (
      (λ held. ⊎_elim
          (λ old. let at : (k < n) × IsWriteOf b (call_at calls k) = (h.exact k).0 old in (omega arith, at.1))
          (λ e. (omega arith, subst (λ (k : ℕ). IsWriteOf b (call_at calls k)) e writes))
          (Contains-push_cases h.places n k held)),
      (λ w. ⊎_elim
          (λ below. Contains-append_left h.places (n ∷ []) k ((h.exact k).1 (below, w.1)))
          (λ top. let e : n ≡ k = omega arith in subst (λ (j : ℕ). Contains (h.places ++ n ∷ []) j) e (Contains-push h.places n))
          (cases_lt k n)),
    );
    bytes = ap (λ (ws : List (List ℕ)). ws ++ bytes ∷ []) h.bytes
        ∙ ap (λ (x : List ℕ). map (λ (k : ℕ). payload (call_at calls k)) h.places ++ x ∷ []) (sym is)
        ∙ sym (map-append (λ (k : ℕ). payload (call_at calls k)) h.places (n ∷ []));
  }

  flushed-written : (ok : Bool) (cell : Cell) → (flushed_cell ok cell).written ≡ cell.written
  flushed-written ok cell = elim (ok && not cell.failed) as (λ t. (if t then settled_cell cell else cell).written ≡ cell.written) [ true ↦ refl | false ↦ refl ]

  writes-step : (call : Call) (cell : Cell) → call_at calls n ≡ call → AreWrites calls b n cell.written → AreWrites calls b (n + 1) (after_call b call cell).written
  writes-step (Write at bytes ok) cell is h = ⊎_elim
      (λ y. subst (λ (t : Bool). AreWrites calls b (n + 1) (if t then written_cell bytes ok cell else cell).written) (sym y.0)
      (one-more cell.written bytes (subst (λ (c : Call). IsWriteOf b c) (sym is) y.1) (ap payload is) h))
      (λ other. subst (λ (t : Bool). AreWrites calls b (n + 1) (if t then written_cell bytes ok cell else cell).written) (sym other.0)
      (same-writes cell.written (λ w. other.1 (subst (λ (c : Call). IsWriteOf b c) is w)) h))
      (eqb_tells at b)
  writes-step (Flush ok) cell is h = subst (λ (ws : List (List ℕ)). AreWrites calls b (n + 1) ws) (sym (flushed-written ok cell)) (same-writes cell.written (λ w. subst (λ (c : Call). IsWriteOf b c) is w) h)

  writes-within : (call : Call) (cell : Cell) → call_at calls n ≡ call → AreWrites calls b n cell.written → AreWrites calls b (n + 1) (within_call b call cell).written
  writes-within (Write at bytes ok) cell is h = writes-step (Write at bytes ok) cell is h
  writes-within (Flush ok) cell is h = same-writes cell.written (λ w. subst (λ (c : Call). IsWriteOf b c) is w) h

pub writes-after : (r : DiskRecord) (b n : ℕ) → n ≤ length r.calls → AreWrites r.calls b n (cell_after r n b).written
writes-after r b zero le = record {
  places = [];
  in_order = λ i j d lt below. absurd (omega arith);
  exact = λ k. ((λ held. absurd (omega arith)), (λ w. absurd (omega arith)));
  bytes = refl;
}
writes-after r b (suc n) le =
    let lt : n < length r.calls = omega arith in
    let one : n + 1 ≡ suc n = omega arith in
    subst (λ (k : ℕ). AreWrites r.calls b k (cell_after r k b).written) one
    (subst (λ (c : Cell). AreWrites r.calls b (n + 1) c.written) (sym (cell_after-more r n b lt)) (writes-step r.calls b n (call_at r.calls n) _ refl (writes-after r b n (omega arith))))

pub writes-at : (r : DiskRecord) (b m : ℕ) → m ≤ length r.calls → AreWrites r.calls b (m + 1) (cell_at r m b).written
writes-at r b m le = writes-within r.calls b m (call_at r.calls m) (cell_after r m b) refl (writes-after r b m le)

-- what every call keeps of a cell holds of the cell at each moment
pub by_calls-at : (P : Cell → Type 0) (r : DiskRecord) (b m : ℕ) → ((cell : Cell) (bytes : List ℕ) (ok : Bool) → P cell → P (written_cell bytes ok cell)) → ((cell : Cell) → cell.failed ≡ false → P cell → P (settled_cell cell))
    → P (cell_first r b) → P (cell_at r m b)
by_calls-at P r b m write flush first = within (call_at r.calls m) (cell_after r m b) (by_calls P b write flush (take m r.calls) (cell_first r b) first)
  where
    within : (call : Call) (cell : Cell) → P cell → P (within_call b call cell)
    within (Write at bytes ok) cell h = by_calls P b write flush (Write at bytes ok ∷ []) cell h
    within (Flush ok) cell h = h

pub entry-at : (r : DiskRecord) (b m : ℕ) → (cell_at r m b).entry ≡ get_or r.entry b []
entry-at r b m = by_calls-at (λ cell. cell.entry ≡ get_or r.entry b []) r b m (λ cell bytes ok h. h) (λ cell good h. h) refl

-- the candidates, and the bytes of the last write among them, are the bytes at entry or of a write
record IsKnown (cell : Cell) : Type 0 where
  last : Contains (candidates cell) cell.bytes
  each : (value : List ℕ) → Contains (candidates cell) value → Contains (cell.entry ∷ cell.written) value

known-at : (r : DiskRecord) (b m : ℕ) → IsKnown (cell_at r m b)
known-at r b m = by_calls-at IsKnown r b m
    (λ cell bytes ok h. record {
      last = Contains-push (candidates cell) bytes;
      each = λ value held. ⊎_elim
          (λ old. Contains-append_left (cell.entry ∷ cell.written) (bytes ∷ []) value (h.each value old))
          (λ e. subst (λ (x : List ℕ). Contains ((cell.entry ∷ cell.written) ++ bytes ∷ []) x) e (Contains-push (cell.entry ∷ cell.written) bytes))
          (Contains-push_cases (candidates cell) bytes value held);
    })
    (λ cell good h. record {
      last = Contains-one cell.bytes;
      each = λ value held. subst (λ (x : List ℕ). Contains (cell.entry ∷ cell.written) x) (one-is cell.bytes value held) (h.each cell.bytes h.last);
    })
    (record { last = Contains-one _; each = λ value held. held })

pub candidate-at : (r : DiskRecord) (b m : ℕ) (value : List ℕ) → Contains (candidates (cell_at r m b)) value → Contains ((cell_at r m b).entry ∷ (cell_at r m b).written) value
candidate-at r b m value held = let h : IsKnown (cell_at r m b) = known-at r b m in h.each value held

pub last-at : (r : DiskRecord) (b m : ℕ) → Contains (candidates (cell_at r m b)) (cell_at r m b).bytes
last-at r b m = let h : IsKnown (cell_at r m b) = known-at r b m in h.last
