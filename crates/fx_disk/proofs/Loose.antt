-- A block is loose, and holds the bytes of its last write, exactly where the places of the calls say so.
use Rattle.std.proofs.Common.{◌≡◌, ◌↔◌, ℕ, zero, suc, ◌+◌, ◌≤◌, ◌<◌, not, if◌then◌else◌, List, [], ◌∷◌, length, take, refl, subst, sym, ◌∙◌, ap, arith, ⊎_elim, ◌⊎◌, inl, inr, Bool, true, false}
use Rattle.std.proofs.lemmas.Bool.{cases_lt, cases_Bool}
use Rattle.std.proofs.lemmas.Bool.Decides.{eqb_tells}
use Rattle.std.proofs.Math.Seq.{take-suc}
use Rattle.fx_disk.specs.Record.{DiskRecord, Call, Write, Flush, Cell, Left, call_at, cell_first, cell_after, cell_at, settled_cell, written_cell, flushed_cell, after_call, after_calls, within_call}
use Rattle.fx_disk.specs.Loose.{IsGoodFlush, IsWriteOf, HasFailed, payload, IsLastFlush, IsLastWrite, IsWrittenFrom, LastFailed, IsLoose, IsLooseAt, IsLastBytes, IsLeft}
use Rattle.fx_disk.proofs.Left.{after_calls-append}

not-true : (ok : Bool) → not ok ≡ true → ok ≡ false
not-true true e = absurd (cc)
not-true false e = refl

both-not : (ok : Bool) → ok ≡ false → not ok ≡ false → ⊥
both-not true e f = absurd (cc)
both-not false e f = absurd (cc)

-- what the block's cell says after the first n calls
record Says (r : DiskRecord) (b n : ℕ) (cell : Cell) : Type 0 where
  loose : cell.loose ≡ true → IsLoose r.calls b n n
  fixed : cell.loose ≡ false → (f : ℕ) → IsLastFlush r.calls n f → (IsWrittenFrom r.calls b f n → ⊥) × (LastFailed r.calls b f → ⊥)
  failed : cell.failed ≡ true → LastFailed r.calls b n × (cell.loose ≡ true)
  good : cell.failed ≡ false → LastFailed r.calls b n → ⊥
  flushes : ℕ
  last : IsLastFlush r.calls n flushes
  bytes : IsLastBytes r b n cell.bytes

Says-begin : (r : DiskRecord) (b : ℕ) → Says r b 0 (cell_first r b)
Says-begin r b = record {
  loose = λ e. absurd (cc);
  fixed = λ _ f last. ((λ w. absurd (omega arith)), (λ h. absurd (omega (arith, h.1.below, last.within))));
  failed = λ e. absurd (cc);
  good = λ _ h. absurd (omega (arith, h.1.below));
  flushes = 0;
  last = record { within = omega arith; flush = λ k e. absurd (omega arith); none_later = λ k ge lt. absurd (omega arith) };
  bytes = inr ((λ k lt. absurd (omega arith)), refl);
}

module _ (r : DiskRecord) (b n : ℕ) where
  -- a call that is no good flush leaves the last one
  same-flush : (f : ℕ) → (IsGoodFlush (call_at r.calls n) → ⊥) → IsLastFlush r.calls n f → IsLastFlush r.calls (n + 1) f
  same-flush f nope h = record {
    within = omega (arith, h.within);
    flush = h.flush;
    none_later = λ k ge lt good. ⊎_elim (λ below. h.none_later k ge below good) (λ top. let e : k ≡ n = omega arith in nope (subst (λ (k : ℕ). IsGoodFlush (call_at r.calls k)) e good)) (cases_lt k n);
  }

  back-flush : (f : ℕ) → (IsGoodFlush (call_at r.calls n) → ⊥) → IsLastFlush r.calls (n + 1) f → IsLastFlush r.calls n f
  back-flush f nope h = record {
    within = ⊎_elim (λ below. omega arith) (λ top. let e : f ≡ n + 1 = omega (arith, h.within) in absurd (nope (h.flush n e))) (cases_lt f (n + 1));
    flush = h.flush;
    none_later = λ k ge lt good. h.none_later k ge (omega arith) good;
  }

  -- a call that is no write of the block
  same-written : (f : ℕ) → (IsWriteOf b (call_at r.calls n) → ⊥) → IsWrittenFrom r.calls b f (n + 1) → IsWrittenFrom r.calls b f n
  same-written f nope w = ⊎_elim (λ below. (w.0, w.1, below, w.3)) (λ top. let e : w.0 ≡ n = omega arith in absurd (nope (subst (λ (k : ℕ). IsWriteOf b (call_at r.calls k)) e w.3))) (cases_lt w.0 n)

  more-written : (f : ℕ) → IsWrittenFrom r.calls b f n → IsWrittenFrom r.calls b f (n + 1)
  more-written f w = (w.0, w.1, omega arith, w.3)

  same-last : (k : ℕ) → (IsWriteOf b (call_at r.calls n) → ⊥) → IsLastWrite r.calls b n k → IsLastWrite r.calls b (n + 1) k
  same-last k nope h = record {
    below = omega (arith, h.below);
    writes = h.writes;
    none_later = λ j gt lt w. ⊎_elim (λ below. h.none_later j gt below w) (λ top. let e : j ≡ n = omega arith in nope (subst (λ (j : ℕ). IsWriteOf b (call_at r.calls j)) e w)) (cases_lt j n);
  }

  back-last : (k : ℕ) → (IsWriteOf b (call_at r.calls n) → ⊥) → IsLastWrite r.calls b (n + 1) k → IsLastWrite r.calls b n k
  back-last k nope h = record {
    below = ⊎_elim (λ lt. lt) (λ top. let e : k ≡ n = omega (arith, h.below) in absurd (nope (subst (λ (k : ℕ). IsWriteOf b (call_at r.calls k)) e h.writes))) (cases_lt k n);
    writes = h.writes;
    none_later = λ j gt lt w. h.none_later j gt (omega arith) w;
  }

  same-failed : (IsWriteOf b (call_at r.calls n) → ⊥) → LastFailed r.calls b n → LastFailed r.calls b (n + 1)
  same-failed nope h = (h.0, same-last h.0 nope h.1, h.2)

  back-failed : (IsWriteOf b (call_at r.calls n) → ⊥) → LastFailed r.calls b (n + 1) → LastFailed r.calls b n
  back-failed nope h = (h.0, back-last h.0 nope h.1, h.2)

  pub same-bytes : (bytes : List ℕ) → (IsWriteOf b (call_at r.calls n) → ⊥) → IsLastBytes r b n bytes → IsLastBytes r b (n + 1) bytes
  same-bytes bytes nope h = ⊎_elim
      (λ w. inl (w.0, same-last w.0 nope w.1, w.2))
      (λ never. inr ((λ k lt w. ⊎_elim (λ below. never.0 k below w) (λ top. let e : k ≡ n = omega arith in nope (subst (λ (k : ℕ). IsWriteOf b (call_at r.calls k)) e w)) (cases_lt k n)), never.1))
      h

  pub back-bytes : (bytes : List ℕ) → (IsWriteOf b (call_at r.calls n) → ⊥) → IsLastBytes r b (n + 1) bytes → IsLastBytes r b n bytes
  back-bytes bytes nope h = ⊎_elim
      (λ w. inl (w.0, back-last w.0 nope w.1, w.2))
      (λ never. inr ((λ k lt w. never.0 k (omega arith) w), never.1))
      h

  -- a call that is neither
  Says-idle : (cell : Cell) → (IsGoodFlush (call_at r.calls n) → ⊥) → (IsWriteOf b (call_at r.calls n) → ⊥) → Says r b n cell → Says r b (n + 1) cell
  Says-idle cell nope none h = record {
    loose = λ e. let l : IsLoose r.calls b n n = h.loose e in record {
      flushes = l.flushes;
      last = same-flush l.flushes nope l.last;
      cause = ⊎_elim (λ w. inl (more-written l.flushes w)) (λ f. inr f) l.cause;
    };
    fixed = λ e f last. let old : (IsWrittenFrom r.calls b f n → ⊥) × (LastFailed r.calls b f → ⊥) = h.fixed e f (back-flush f nope last) in
        ((λ w. old.0 (same-written f none w)), old.1);
    failed = λ e. (same-failed none (h.failed e).0, (h.failed e).1);
    good = λ e f. h.good e (back-failed none f);
    flushes = h.flushes;
    last = same-flush h.flushes nope h.last;
    bytes = same-bytes cell.bytes none h.bytes;
  }

  -- the write at the place n is the last one below n + 1
  last-here : IsWriteOf b (call_at r.calls n) → IsLastWrite r.calls b (n + 1) n
  last-here writes = record { below = omega arith; writes = writes; none_later = λ j gt lt. absurd (omega arith) }

  -- a write of the block
  Says-write : (cell : Cell) (at : ℕ) (bytes : List ℕ) (ok : Bool) → call_at r.calls n ≡ Write at bytes ok → at ≡ b → Says r b n cell → Says r b (n + 1) (written_cell bytes ok cell)
  Says-write cell at bytes ok is same h =
      let writes : IsWriteOf b (call_at r.calls n) = subst (λ (c : Call). IsWriteOf b c) (sym is) same in
      let nope : IsGoodFlush (call_at r.calls n) → ⊥ = λ good. subst IsGoodFlush is good in
      record {
        loose = λ _. record {
          flushes = h.flushes;
          last = same-flush h.flushes nope h.last;
          cause = inl (n, h.last.within, omega arith, writes);
        };
        fixed = λ e. absurd (cc);
        failed = λ e. ((n, last-here writes, subst (λ (c : Call). HasFailed c) (sym is) (not-true ok e)), refl);
        good = λ e f. ⊎_elim (λ below. f.1.none_later n below (omega arith) writes)
            (λ top. let e' : f.0 ≡ n = omega (arith, f.1.below) in
            let fails : HasFailed (Write at bytes ok) = subst (λ (c : Call). HasFailed c) (ap (call_at r.calls) e' ∙ is) f.2 in
            both-not ok fails e)
            (cases_lt f.0 n);
        flushes = h.flushes;
        last = same-flush h.flushes nope h.last;
        bytes = inl (n, last-here writes, sym (ap payload is));
      }

  -- a successful flush
  now-flush : call_at r.calls n ≡ Flush true → IsLastFlush r.calls (n + 1) (n + 1)
  now-flush is = record {
    within = omega arith;
    flush = λ k e. let e' : n ≡ k = omega arith in subst (λ (k : ℕ). IsGoodFlush (call_at r.calls k)) e' (subst IsGoodFlush (sym is) refl);
    none_later = λ k ge lt. absurd (omega arith);
  }

  only-flush : (f : ℕ) → call_at r.calls n ≡ Flush true → IsLastFlush r.calls (n + 1) f → f ≡ n + 1
  only-flush f is h = ⊎_elim (λ below. absurd (h.none_later n (omega arith) (omega arith) (subst IsGoodFlush (sym is) refl))) (λ top. omega (arith, h.within)) (cases_lt f (n + 1))

  Says-flush : (cell : Cell) → call_at r.calls n ≡ Flush true → Says r b n cell → (cell.failed ≡ true) ⊎ (cell.failed ≡ false) → Says r b (n + 1) (flushed_cell true cell)
  Says-flush cell is h (inl failed) =
      let none : IsWriteOf b (call_at r.calls n) → ⊥ = λ w. subst (IsWriteOf b) is w in
      let e : cell ≡ flushed_cell true cell = ap (λ (t : Bool). if not t then settled_cell cell else cell) (sym failed) in
      subst (λ (c : Cell). Says r b (n + 1) c) e (record {
        loose = λ _. record { flushes = n + 1; last = now-flush is; cause = inr (same-failed none (h.failed failed).0) };
        fixed = λ fixed. absurd (cc (h.failed failed).1);
        failed = λ e. (same-failed none (h.failed failed).0, (h.failed failed).1);
        good = λ good. absurd (cc);
        flushes = n + 1;
        last = now-flush is;
        bytes = same-bytes cell.bytes none h.bytes;
      })
  Says-flush cell is h (inr good) =
      let none : IsWriteOf b (call_at r.calls n) → ⊥ = λ w. subst (IsWriteOf b) is w in
      let e : settled_cell cell ≡ flushed_cell true cell = ap (λ (t : Bool). if not t then settled_cell cell else cell) (sym good) in
      subst (λ (c : Cell). Says r b (n + 1) c) e (record {
        loose = λ e. absurd (cc);
        fixed = λ _ f last. let all : f ≡ n + 1 = only-flush f is last in
            ((λ w. absurd (omega arith)), (λ fails. h.good good (back-failed none (subst (λ (k : ℕ). LastFailed r.calls b k) all fails))));
        failed = λ e. absurd (cc);
        good = λ _ fails. h.good good (back-failed none fails);
        flushes = n + 1;
        last = now-flush is;
        bytes = same-bytes cell.bytes none h.bytes;
      })

  Says-step : (call : Call) (cell : Cell) → call_at r.calls n ≡ call → Says r b n cell → Says r b (n + 1) (after_call b call cell)
  Says-step (Write at bytes ok) cell is h = ⊎_elim
      (λ y. subst (λ (t : Bool). Says r b (n + 1) (if t then written_cell bytes ok cell else cell)) (sym y.0) (Says-write cell at bytes ok is y.1 h))
      (λ n'. subst (λ (t : Bool). Says r b (n + 1) (if t then written_cell bytes ok cell else cell)) (sym n'.0)
      (Says-idle cell (λ good. subst IsGoodFlush is good) (λ w. n'.1 (subst (IsWriteOf b) is w)) h))
      (eqb_tells at b)
  Says-step (Flush true) cell is h = Says-flush cell is h (cases_Bool cell.failed)
  Says-step (Flush false) cell is h = Says-idle cell (λ good. let e : false ≡ true = subst IsGoodFlush is good in absurd (cc)) (λ w. subst (IsWriteOf b) is w) h

-- one more call
pub cell_after-more : (r : DiskRecord) (m b : ℕ) → m < length r.calls → cell_after r (m + 1) b ≡ after_call b (call_at r.calls m) (cell_after r m b)
cell_after-more r m b lt =
    let one : m + 1 ≡ suc m = omega arith in
    ap (λ (k : ℕ). cell_after r k b) one ∙ ap (λ (cs : List Call). after_calls b cs (cell_first r b)) (take-suc r.calls m (Flush false) lt) ∙ after_calls-append b (take m r.calls) (call_at r.calls m ∷ []) (cell_first r b)

Says-all : (r : DiskRecord) (b n : ℕ) → n ≤ length r.calls → Says r b n (cell_after r n b)
Says-all r b zero le = Says-begin r b
Says-all r b (suc n) le =
    let lt : n < length r.calls = omega arith in
    let one : n + 1 ≡ suc n = omega arith in
    subst (λ (k : ℕ). Says r b k (cell_after r k b)) one
    (subst (λ (c : Cell). Says r b (n + 1) c) (sym (cell_after-more r n b lt)) (Says-step r b n (call_at r.calls n) _ refl (Says-all r b n (omega arith))))

-- what the cell says at the moment m, where the next call counts if it is a write
record SaysAt (r : DiskRecord) (b m : ℕ) (cell : Cell) : Type 0 where
  loose : cell.loose ≡ true → IsLooseAt r.calls b m
  fixed : cell.loose ≡ false → IsLooseAt r.calls b m → ⊥
  bytes : IsLastBytes r b (m + 1) cell.bytes

SaysAt-idle : (r : DiskRecord) (b m : ℕ) (cell : Cell) → (IsWriteOf b (call_at r.calls m) → ⊥) → Says r b m cell → SaysAt r b m cell
SaysAt-idle r b m cell none h = record {
  loose = λ e. let l : IsLoose r.calls b m m = h.loose e in record {
    flushes = l.flushes;
    last = l.last;
    cause = ⊎_elim (λ w. inl (more-written r b m l.flushes w)) (λ f. inr f) l.cause;
  };
  fixed = λ e l. let old : (IsWrittenFrom r.calls b l.flushes m → ⊥) × (LastFailed r.calls b l.flushes → ⊥) = h.fixed e l.flushes l.last in
      ⊎_elim (λ w. old.0 (same-written r b m l.flushes none w)) old.1 l.cause;
  bytes = same-bytes r b m cell.bytes none h.bytes;
}

SaysAt-write : (r : DiskRecord) (b m : ℕ) (cell : Cell) (at : ℕ) (bytes : List ℕ) (ok : Bool) → call_at r.calls m ≡ Write at bytes ok → at ≡ b → Says r b m cell → SaysAt r b m (written_cell bytes ok cell)
SaysAt-write r b m cell at bytes ok is same h =
    let writes : IsWriteOf b (call_at r.calls m) = subst (λ (c : Call). IsWriteOf b c) (sym is) same in
    record {
      loose = λ _. record { flushes = h.flushes; last = h.last; cause = inl (m, h.last.within, omega arith, writes) };
      fixed = λ e. absurd (cc);
      bytes = inl (m, last-here r b m writes, sym (ap payload is));
    }

SaysAt-step : (r : DiskRecord) (b m : ℕ) (call : Call) (cell : Cell) → call_at r.calls m ≡ call → Says r b m cell → SaysAt r b m (within_call b call cell)
SaysAt-step r b m (Write at bytes ok) cell is h = ⊎_elim
    (λ y. subst (λ (t : Bool). SaysAt r b m (if t then written_cell bytes ok cell else cell)) (sym y.0) (SaysAt-write r b m cell at bytes ok is y.1 h))
    (λ n'. subst (λ (t : Bool). SaysAt r b m (if t then written_cell bytes ok cell else cell)) (sym n'.0) (SaysAt-idle r b m cell (λ w. n'.1 (subst (IsWriteOf b) is w)) h))
    (eqb_tells at b)
SaysAt-step r b m (Flush ok) cell is h = SaysAt-idle r b m cell (λ w. subst (IsWriteOf b) is w) h

says-at : (r : DiskRecord) (b m : ℕ) → m ≤ length r.calls → SaysAt r b m (cell_at r m b)
says-at r b m le = SaysAt-step r b m (call_at r.calls m) (cell_after r m b) refl (Says-all r b m le)

-- a block's cell is loose exactly where the block is
pub loose-where : (r : DiskRecord) (b m : ℕ) → m ≤ length r.calls → (cell_at r m b).loose ≡ true ↔ IsLooseAt r.calls b m
loose-where r b m le =
    let says : SaysAt r b m (cell_at r m b) = says-at r b m le in
    (says.loose, λ h. ⊎_elim (λ y. y) (λ fixed. absurd (says.fixed fixed h)) (cases_Bool (cell_at r m b).loose))

-- the bytes of a block's cell are those of its last write
pub bytes-last : (r : DiskRecord) (b m : ℕ) → m ≤ length r.calls → IsLastBytes r b (m + 1) (cell_at r m b).bytes
bytes-last r b m le = let says : SaysAt r b m (cell_at r m b) = says-at r b m le in says.bytes

-- a block has one last write
same-place : (calls : List Call) (b n j k : ℕ) → IsLastWrite calls b n j → IsLastWrite calls b n k → j ≡ k
same-place calls b n j k h l = ⊎_elim
    (λ lt. absurd (h.none_later k lt l.below l.writes))
    (λ ge. ⊎_elim (λ lt. absurd (l.none_later j lt h.below h.writes)) (λ ge'. omega arith) (cases_lt k j))
    (cases_lt j k)

pub last_bytes-unique : (r : DiskRecord) (b n : ℕ) (xs ys : List ℕ) → IsLastBytes r b n xs → IsLastBytes r b n ys → xs ≡ ys
last_bytes-unique r b n xs ys h l = ⊎_elim
    (λ w. ⊎_elim
    (λ v. w.2 ∙ ap (λ (k : ℕ). payload (call_at r.calls k)) (same-place r.calls b n w.0 v.0 w.1 v.1) ∙ sym v.2)
    (λ never. absurd (never.0 w.0 w.1.below w.1.writes))
    l)
    (λ never. ⊎_elim
    (λ v. absurd (never.0 v.0 v.1.below v.1.writes))
    (λ never'. never.1 ∙ sym never'.1)
    l)
    h

-- an image may be left exactly where the places of the calls say so
pub left-where : (r : DiskRecord) (m : ℕ) (image : List (List ℕ)) → m ≤ length r.calls → Left r m image ↔ IsLeft r m image
left-where r m image le = (
  (λ left. record {
    size = left.size;
    blocks = left.blocks;
    kept = λ b lt fixed. ⊎_elim
        (λ loose. absurd (fixed ((loose-where r b m le).0 loose)))
        (λ still. subst (λ (xs : List ℕ). IsLastBytes r b (m + 1) xs) (sym (left.kept b lt still)) (bytes-last r b m le))
        (cases_Bool (cell_at r m b).loose);
  }),
  (λ left. record {
    size = left.size;
    blocks = left.blocks;
    kept = λ b lt still. last_bytes-unique r b (m + 1) _ _
        (left.kept b lt (λ loose. let e : (cell_at r m b).loose ≡ true = (loose-where r b m le).1 loose in absurd (cc)))
        (bytes-last r b m le);
  }),
)
