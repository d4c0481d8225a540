-- The blocks that a session closes, and their places.
use Rattle.std.proofs.Common.{◌≡◌, ℕ, zero, suc, ◌+◌, ◌-◌, ◌%◌, ◌^◌, ◌≤◌, ◌<◌, List, [], ◌∷◌, length, drop, refl, sym, subst, ◌∙◌, ap, arith}
use Rattle.std.specs.Prelude.{Some, slice_get, All}
use Rattle.std.proofs.lemmas.Option.{slice_get_within, get_or_from_slice_get}
use Rattle.fx_jblock.specs.declared.Start.{Start}
use Rattle.fx_journal.specs.Ring.{Queued, IsLinked}
use Rattle.fx_log.specs.Ring.{HasRecords, place_in}
use Rattle.fx_log.proofs.RingPlaces.{same_place, sequence-linked}
use Rattle.fx_supers.specs.Cells.{AreClosedBlocks}

-- the records of one block
pub one-records : (blocks : List Queued) (i : ℕ) (q : Queued) → All HasRecords blocks → slice_get blocks i ≡ Some q → HasRecords q
one-records blocks i q h e = subst HasRecords (get_or_from_slice_get blocks i q q e) (h i q (slice_get_within blocks i q e))

-- the first blocks left out
pub records-drop : (n : ℕ) (blocks : List Queued) → All HasRecords blocks → All HasRecords (drop n blocks)
records-drop zero blocks h = h
records-drop (suc n) [] h = h
records-drop (suc n) (q ∷ qs) h = records-drop n qs (λ k d lt. h (suc k) d (omega arith))

pub linked-drop : (n epoch at : ℕ) (blocks : List Queued) (chain : ℕ) → n ≤ length blocks → IsLinked epoch at blocks chain → IsLinked epoch (at + n) (drop n blocks) chain
linked-drop zero epoch at blocks chain le h = subst (λ (k : ℕ). IsLinked epoch k blocks chain) (omega arith) h
linked-drop (suc n) epoch at [] chain le h = absurd (omega arith)
linked-drop (suc n) epoch at (q ∷ qs) chain le h = subst (λ (k : ℕ). IsLinked epoch k (drop n qs) chain) (omega arith) (linked-drop n epoch (at + 1) qs chain (omega arith) h.2)

pub get-of_drop : {X : Type 0} → (n : ℕ) (xs : List X) (i : ℕ) → slice_get (drop n xs) i ≡ slice_get xs (n + i)
get-of_drop zero xs i = ap (λ (k : ℕ). slice_get xs k) (omega arith)
get-of_drop (suc n) [] i = refl
get-of_drop (suc n) (x ∷ xs) i = let e : suc (n + i) ≡ suc n + i = omega arith in subst (λ (k : ℕ). slice_get (drop n xs) i ≡ slice_get (x ∷ xs) k) e (get-of_drop n xs i)

module _ (ring epoch : ℕ) (place : Start) (blocks : List Queued) (chain : ℕ) (made : AreClosedBlocks ring epoch place blocks chain) where
  pub made-sequence : (i : ℕ) (q : Queued) → slice_get blocks i ≡ Some q → q.sequence ≡ place.sequence + i
  made-sequence i q e =
      let within : i < length blocks = slice_get_within blocks i q e in
      let below : place.sequence + i < 2 ^ 64 = omega (arith, within, made.low) in
      sequence-linked epoch place.sequence blocks chain i q made.linked e ∙ omega (arith, below)

  -- two blocks of a ring's length that belong in one place are one
  pub made-apart : (live i k : ℕ) (p q : Queued) → slice_get blocks i ≡ Some p → slice_get blocks k ≡ Some q → place_in ring p ≡ place_in ring q
      → live ≤ i → live ≤ k → i < live + ring → k < live + ring → i ≡ k
  made-apart live i k p q here there e low low' lt lt' =
      let mods : p.sequence % ring ≡ q.sequence % ring = omega (arith, e) in
      let one : place.sequence + live + (i - live) ≡ p.sequence = omega (arith, low, made-sequence i p here) in
      let two : place.sequence + live + (k - live) ≡ q.sequence = omega (arith, low', made-sequence k q there) in
      let same : i - live ≡ k - live = same_place ring (place.sequence + live) (i - live) (k - live) (omega (arith, low, lt)) (omega (arith, low', lt'))
      (ap (λ (n : ℕ). n % ring) one ∙ mods ∙ ap (λ (n : ℕ). n % ring) (sym two)) in
      omega (arith, same, low, low')
