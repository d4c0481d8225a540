-- A fact on all images stays true over a further call.
use Rattle.std.proofs.Common.{◌≡◌, ℕ, ◌+◌, ◌≤◌, ◌<◌, List, length, subst, sym, ◌∙◌, arith, ◌⊎◌, inl, inr, ⊎_elim, Bool}
use Rattle.std.proofs.lemmas.Bool.{cases_lt}
use Rattle.fx_disk.specs.Record.{Call, Write, Flush, DiskRecord, Cell, Left, cell_at, cell_now}
use Rattle.fx_disk.specs.Steps.{with_call}
use Rattle.fx_disk.specs.Always.{Always, HoldsNow, Implies}
use Rattle.fx_disk.proofs.Left.{Left-earlier, Left-now, Left-at_now, Left-within_write, Left-within_flush, Left-after, cells-earlier, cells-now, cells-after, cells-within_write, cells-within_flush, length-with_call}

le-cases : (m n : ℕ) → m ≤ n + 1 → (m < n) ⊎ ((m ≡ n) ⊎ (m ≡ n + 1))
le-cases m n h = ⊎_elim (λ lt. inl lt) (λ ge. inr (⊎_elim (λ lt. inl (omega arith)) (λ ge. inr (omega arith)) (cases_lt m (n + 1)))) (cases_lt m n)

-- by the three moments: an earlier one, that within the call, that after it
by_moment : (Q : (ℕ → Cell) → ℕ → List (List ℕ) → Type 0) (from : ℕ) (s : DiskRecord) (n : ℕ) → length s.calls ≡ n + 1 → from ≤ n
    → ((m : ℕ) (image : List (List ℕ)) → from ≤ m → m < n → Left s m image → Q (cell_at s m) m image)
    → ((image : List (List ℕ)) → Left s n image → Q (cell_at s n) n image)
    → ((image : List (List ℕ)) → Left s (n + 1) image → Q (cell_at s (n + 1)) (n + 1) image)
    → Always Q from s
by_moment Q from s n len since earlier within after = record {
  since = omega arith;
  each = λ m image ge le left. ⊎_elim
      (λ lt. earlier m image ge lt left)
      (⊎_elim
      (λ e. subst (λ (k : ℕ). Left s k image → Q (cell_at s k) k image) (sym e) (within image) left)
      (λ e. subst (λ (k : ℕ). Left s k image → Q (cell_at s k) k image) (sym e) (after image) left))
      (le-cases m n (omega arith));
}

module _ (P Q : (ℕ → Cell) → ℕ → List (List ℕ) → Type 0) (from : ℕ) (r : DiskRecord) (contents : List (List ℕ)) (call : Call) where
  -- `P` at the moments before the last call gives `Q` at them over one more call
  old-moments : Always P from r → Implies P Q from r → (m : ℕ) (image : List (List ℕ)) → from ≤ m → m < length r.calls → Left (with_call r call contents) m image → Q (cell_at (with_call r call contents) m) m image
  old-moments always old m image ge lt left =
      let left' : Left r m image = Left-earlier r call contents m image lt left in
      subst (λ (cells : ℕ → Cell). Q cells m image) (sym (cells-earlier r call contents m lt))
      (old m image ge (omega arith) left' (always.each m image ge (omega arith) left'))

  -- `Q` of what is left after the call is `Q` at the moment after it
  new-moment : HoldsNow Q (with_call r call contents) → (image : List (List ℕ)) → Left (with_call r call contents) (length r.calls + 1) image → Q (cell_at (with_call r call contents) (length r.calls + 1)) (length r.calls + 1) image
  new-moment after image left =
      subst (λ (cells : ℕ → Cell). Q cells (length r.calls + 1) image) (sym (cells-after r call contents))
      (subst (λ (n : ℕ). Q (cell_now (with_call r call contents)) n image) (length-with_call r call contents)
      (after image (Left-after r call contents image left)))

-- within a write may be left what is left after it, and within a flush what was left before
module _ (P Q : (ℕ → Cell) → ℕ → List (List ℕ) → Type 0) (from : ℕ) (r : DiskRecord) (contents : List (List ℕ)) where
  pub Always-write : (at : ℕ) (bytes : List ℕ) (ok : Bool) → Always P from r → Implies P Q from r
      → ((cells : ℕ → Cell) (m : ℕ) (image : List (List ℕ)) → Q cells (m + 1) image → Q cells m image)
      → HoldsNow Q (with_call r (Write at bytes ok) contents)
      → Always Q from (with_call r (Write at bytes ok) contents)
  Always-write at bytes ok always old within after = by_moment Q from (with_call r (Write at bytes ok) contents) (length r.calls)
      (length-with_call r (Write at bytes ok) contents) always.since
      (old-moments P Q from r contents (Write at bytes ok) always old)
      (λ image left. subst (λ (cells : ℕ → Cell). Q cells (length r.calls) image) (sym (cells-within_write r at bytes ok contents))
      (within _ _ image (subst (λ (n : ℕ). Q (cell_now (with_call r (Write at bytes ok) contents)) n image) (length-with_call r (Write at bytes ok) contents)
      (after image (Left-within_write r at bytes ok contents image left)))))
      (new-moment P Q from r contents (Write at bytes ok) after)

  pub Always-flush : (ok : Bool) → Always P from r → Implies P Q from r → HoldsNow Q (with_call r (Flush ok) contents) → Always Q from (with_call r (Flush ok) contents)
  Always-flush ok always old after = by_moment Q from (with_call r (Flush ok) contents) (length r.calls)
      (length-with_call r (Flush ok) contents) always.since
      (old-moments P Q from r contents (Flush ok) always old)
      (λ image left.
      let left' : Left r (length r.calls) image = Left-at_now r image (Left-within_flush r ok contents image left) in
      subst (λ (cells : ℕ → Cell). Q cells (length r.calls) image) (cells-now r ∙ sym (cells-within_flush r ok contents))
      (old _ image always.since (omega arith) left' (always.each _ image always.since (omega arith) left')))
      (new-moment P Q from r contents (Flush ok) after)

-- what holds of the images left now holds from now on
pub Always-start : (P : (ℕ → Cell) → ℕ → List (List ℕ) → Type 0) (r : DiskRecord) → HoldsNow P r → Always P (length r.calls) r
Always-start P r here = record {
  since = omega arith;
  each = λ m image ge le left.
      let e : length r.calls ≡ m = omega arith in
      subst (λ (k : ℕ). Left r k image → P (cell_at r k) k image) e
      (λ left. subst (λ (cells : ℕ → Cell). P cells (length r.calls) image) (sym (cells-now r)) (here image (Left-now r image left))) left;
}

-- at the moment now
pub Always-now : (P : (ℕ → Cell) → ℕ → List (List ℕ) → Type 0) (from : ℕ) (r : DiskRecord) → Always P from r → HoldsNow P r
Always-now P from r always image left =
    subst (λ (cells : ℕ → Cell). P cells (length r.calls) image) (cells-now r)
    (always.each _ image always.since (omega arith) (Left-at_now r image left))

-- what follows from it at each moment
pub Always-map : (P Q : (ℕ → Cell) → ℕ → List (List ℕ) → Type 0) (from : ℕ) (r : DiskRecord) → Implies P Q from r → Always P from r → Always Q from r
Always-map P Q from r old always = record {
  since = always.since;
  each = λ m image ge le left. old m image ge le left (always.each m image ge le left);
}
