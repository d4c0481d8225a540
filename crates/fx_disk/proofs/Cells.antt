-- What a block's cell keeps.
use Rattle.std.proofs.Common.{◌≡◌, ℕ, ◌<◌, ◌==◌, ◌&&◌, not, if◌then◌else◌, List, [], ◌∷◌, length, get_or, refl, subst, sym, ◌∙◌, ap, arith, ⊎_elim, ◌⊎◌, inl, inr, eq-eqb, Bool, true, false, Contains}
use Rattle.std.proofs.lemmas.List.Elements.{Contains-append_cases, Contains-append_right}
use Rattle.std.proofs.lemmas.Bool.{cases_Bool}
use Rattle.std.proofs.lemmas.Bool.Decides.{eqb_tells}
use Rattle.fx_disk.specs.Record.{Call, Write, Flush, DiskRecord, Cell, LeftNow, cell_first, cell_now, candidates, settled_cell, written_cell, flushed_cell, after_call, after_calls}
use Rattle.fx_disk.specs.Steps.{with_call}
use Rattle.fx_disk.proofs.Left.{cell_now-with_call}

-- what every call keeps of a cell holds of the cell after all of them
pub by_calls : (P : Cell → Type 0) (b : ℕ) → ((cell : Cell) (bytes : List ℕ) (ok : Bool) → P cell → P (written_cell bytes ok cell)) → ((cell : Cell) → cell.failed ≡ false → P cell → P (settled_cell cell))
    → (calls : List Call) (cell : Cell) → P cell → P (after_calls b calls cell)
by_calls P b write flush [] cell h = h
by_calls P b write flush (Write at bytes ok ∷ calls) cell h =
    by_calls P b write flush calls (after_call b (Write at bytes ok) cell) (elim (at == b) as (λ t. P (if t then written_cell bytes ok cell else cell)) [ true ↦ write cell bytes ok h | false ↦ h ])
by_calls P b write flush (Flush true ∷ calls) cell h =
    by_calls P b write flush calls (after_call b (Flush true) cell)
    (⊎_elim
    (λ failed. subst (λ (t : Bool). P (if not t then settled_cell cell else cell)) (sym failed) h)
    (λ good. subst (λ (t : Bool). P (if not t then settled_cell cell else cell)) (sym good) (flush cell good h))
    (cases_Bool cell.failed))
by_calls P b write flush (Flush false ∷ calls) cell h = by_calls P b write flush calls cell h

pub Contains-one : (x : List ℕ) → Contains (x ∷ []) x
Contains-one x = (0, omega arith, refl)

pub one-is : (x y : List ℕ) → Contains (x ∷ []) y → x ≡ y
one-is x y held =
    let e : held.0 ≡ 0 = omega arith in
    subst (λ (k : ℕ). get_or (x ∷ []) k y ≡ y) e held.2

-- the bytes of the last write are a candidate
pub last-is_candidate : (r : DiskRecord) (b : ℕ) (calls : List Call) → Contains (candidates (after_calls b calls (cell_first r b))) (after_calls b calls (cell_first r b)).bytes
last-is_candidate r b calls = by_calls (λ cell. Contains (candidates cell) cell.bytes) b
    (λ cell bytes ok h. Contains-append_right (candidates cell) (bytes ∷ []) bytes (Contains-one bytes))
    (λ cell good h. Contains-one cell.bytes)
    calls (cell_first r b) (Contains-one _)

-- a block that is not loose has one candidate, and its last write was good
pub record IsFixed (cell : Cell) : Type 0 where
  pub good : cell.failed ≡ false
  pub settled : cell.settled ≡ cell.bytes
  pub since : cell.since ≡ []

pub fixed-after : (r : DiskRecord) (b : ℕ) (calls : List Call) → (after_calls b calls (cell_first r b)).loose ≡ false → IsFixed (after_calls b calls (cell_first r b))
fixed-after r b calls = by_calls (λ cell. cell.loose ≡ false → IsFixed cell) b
    (λ cell bytes ok h e. absurd (cc))
    (λ cell good h e. record { good = refl; settled = refl; since = refl })
    calls (cell_first r b) (λ _. record { good = refl; settled = refl; since = refl })

pub candidates-fixed : (r : DiskRecord) (b : ℕ) → (cell_now r b).loose ≡ false → candidates (cell_now r b) ≡ (cell_now r b).bytes ∷ []
candidates-fixed r b e = let h : IsFixed (cell_now r b) = fixed-after r b r.calls e in rw (h.settled, h.since) refl

-- an image holds a candidate in each block that is not torn
pub image-candidate : (r : DiskRecord) (b : ℕ) (image : List (List ℕ)) → b < length r.entry → LeftNow r image → ((cell_now r b).loose ≡ true → Contains (candidates (cell_now r b)) (get_or image b []))
    → Contains (candidates (cell_now r b)) (get_or image b [])
image-candidate r b image lt left whole = ⊎_elim whole
    (λ fixed. subst (λ (x : List ℕ). Contains (candidates (cell_now r b)) x) (sym (left.kept b lt fixed)) (last-is_candidate r b r.calls))
    (cases_Bool (cell_now r b).loose)

-- a block after a write of it
pub after-write : (r : DiskRecord) (b : ℕ) (bytes : List ℕ) (ok : Bool) (contents : List (List ℕ)) → cell_now (with_call r (Write b bytes ok) contents) b ≡ written_cell bytes ok (cell_now r b)
after-write r b bytes ok contents = cell_now-with_call r (Write b bytes ok) contents b ∙ ap (λ (t : Bool). if t then written_cell bytes ok (cell_now r b) else cell_now r b) (eq-eqb b b refl)

-- the other blocks stay
pub other-block : (r : DiskRecord) (b at : ℕ) (bytes : List ℕ) (ok : Bool) (contents : List (List ℕ)) → (at ≡ b → ⊥) → cell_now (with_call r (Write at bytes ok) contents) b ≡ cell_now r b
other-block r b at bytes ok contents other =
    let differs : (at == b) ≡ false = ⊎_elim (λ y. absurd (other y.1)) (λ n. n.0) (eqb_tells at b) in
    cell_now-with_call r (Write at bytes ok) contents b ∙ ap (λ (t : Bool). if t then written_cell bytes ok (cell_now r b) else cell_now r b) differs

-- a write adds its bytes to the candidates
pub candidates-write : (r : DiskRecord) (b : ℕ) (bytes : List ℕ) (ok : Bool) (contents : List (List ℕ)) (value : List ℕ)
    → Contains (candidates (cell_now (with_call r (Write b bytes ok) contents) b)) value → Contains (candidates (cell_now r b)) value ⊎ (bytes ≡ value)
candidates-write r b bytes ok contents value held = ⊎_elim (λ old. inl old) (λ new. inr (one-is bytes value new))
    (Contains-append_cases (candidates (cell_now r b)) (bytes ∷ []) value (subst (λ (c : Cell). Contains (candidates c) value) (after-write r b bytes ok contents) held))

flush-step : (ok : Bool) (cell : Cell) (value : List ℕ) → Contains (candidates cell) cell.bytes → Contains (candidates (flushed_cell ok cell)) value → Contains (candidates cell) value
flush-step ok cell value last = elim (ok && not cell.failed) as (λ t. Contains (candidates (if t then settled_cell cell else cell)) value → Contains (candidates cell) value)
    [ true ↦ (λ held. subst (λ (x : List ℕ). Contains (candidates cell) x) (one-is cell.bytes value held) last) | false ↦ (λ held. held) ]

-- a flush brings no candidate
pub candidates-flush : (r : DiskRecord) (b : ℕ) (ok : Bool) (contents : List (List ℕ)) (value : List ℕ) → Contains (candidates (cell_now (with_call r (Flush ok) contents) b)) value → Contains (candidates (cell_now r b)) value
candidates-flush r b ok contents value held = flush-step ok (cell_now r b) value (last-is_candidate r b r.calls)
    (subst (λ (c : Cell). Contains (candidates c) value) (cell_now-with_call r (Flush ok) contents b) held)

-- a failed flush settles nothing
pub after-failed_flush : (r : DiskRecord) (b : ℕ) (contents : List (List ℕ)) → cell_now (with_call r (Flush false) contents) b ≡ cell_now r b
after-failed_flush r b contents = cell_now-with_call r (Flush false) contents b

-- a good flush settles each block whose last write was good
pub after-good_flush : (r : DiskRecord) (b : ℕ) (contents : List (List ℕ)) → (cell_now r b).failed ≡ false → cell_now (with_call r (Flush true) contents) b ≡ settled_cell (cell_now r b)
after-good_flush r b contents good = cell_now-with_call r (Flush true) contents b ∙ ap (λ (t : Bool). if not t then settled_cell (cell_now r b) else cell_now r b) good

-- a block whose last write failed stays loose over a flush
pub after-flush_failed : (r : DiskRecord) (b : ℕ) (ok : Bool) (contents : List (List ℕ)) → (cell_now r b).failed ≡ true → cell_now (with_call r (Flush ok) contents) b ≡ cell_now r b
after-flush_failed r b true contents failed = cell_now-with_call r (Flush true) contents b ∙ ap (λ (t : Bool). if not t then settled_cell (cell_now r b) else cell_now r b) failed
after-flush_failed r b false contents failed = cell_now-with_call r (Flush false) contents b

-- a good write and then a good flush settle
pub after-write_flush : (r : DiskRecord) (b : ℕ) (bytes : List ℕ) (contents later : List (List ℕ)) → cell_now (with_call (with_call r (Write b bytes true) contents) (Flush true) later) b ≡ settled_cell (written_cell bytes true (cell_now r b))
after-write_flush r b bytes contents later = cell_now-with_call (with_call r (Write b bytes true) contents) (Flush true) later b ∙ ap (λ (c : Cell). flushed_cell true c) (after-write r b bytes true contents)
