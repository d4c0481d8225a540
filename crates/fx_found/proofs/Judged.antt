-- What is judged of what was read, as facts on the image.
use Rattle.std.proofs.Common.{◌≡◌, ℕ, ◌+◌, ◌-◌, ◌≤◌, Bool, true, false, List, refl, sym, subst, ◌∙◌, arith}
use Rattle.std.specs.Prelude.{Err, nat_lt}
use Rattle.std.proofs.lemmas.Bool.{ltb-true, lt-ltb}
use Rattle.fx_item.specs.Item.{PlainItem}
use Rattle.fx_sound.specs.Image.{PlainImage}
use Rattle.fx_found.specs.Image.{ImageParts, HasImageParts, StandInLevels, levels_of_parts, judged_image}
use Rattle.fx_found.specs.Faults.{IsFindFault}
use Rattle.fx_found.specs.Found.{IsCheckOf, Judges}
use Rattle.fx_found.specs.declared.fault.FindFault.{FindFault}
use Rattle.fx_found.specs.declared.fault.FindFault.TheVariants as faults

module _ (size : ℕ) (p : ImageParts) where
  pub fails_first : (items : List PlainItem) (image : PlainImage) → StandInLevels (levels_of_parts p) items → image ≡ judged_image size p items → (e : FindFault) → IsCheckOf image (Err e) → Judges size p (Err e)
  fails_first items image are same (faults.BadTree s i) k = record { items = items; items_are = are; first = subst (λ m. IsCheckOf m (Err (faults.BadTree s i))) same k }
  fails_first items image are same (faults.Unsound b) k = record { items = items; items_are = are; first = subst (λ m. IsCheckOf m (Err (faults.Unsound b))) same k }
  fails_first items image are same (faults.Cramped n) k = record { items = items; items_are = are; first = subst (λ m. IsCheckOf m (Err (faults.Cramped n))) same k }
  fails_first items image are same faults.OutOfMemory k = tt
  fails_first items image are same faults.Device k = absurd k
  fails_first items image are same faults.NoSuper k = absurd k
  fails_first items image are same (faults.Version v) k = absurd k
  fails_first items image are same (faults.DiskSize n) k = absurd k
  fails_first items image are same (faults.BadLayer b) k = absurd k
  fails_first items image are same (faults.BadRecord i) k = absurd k

  module _ (image : List (List ℕ)) (is : HasImageParts size image p) where
    pub judged_fault : (e : FindFault) → Judges size p (Err e) → IsFindFault size image e
    judged_fault (faults.BadTree s i) k = record { parts = p; image_is = is; fails = k }
    judged_fault (faults.Unsound b) k = record { parts = p; image_is = is; fails = k }
    judged_fault (faults.Cramped n) k = record { parts = p; image_is = is; fails = k }
    judged_fault faults.OutOfMemory k = tt
    judged_fault faults.Device k = absurd k
    judged_fault faults.NoSuper k = absurd k
    judged_fault (faults.Version v) k = absurd k
    judged_fault (faults.DiskSize n) k = absurd k
    judged_fault (faults.BadLayer b) k = absurd k
    judged_fault (faults.BadRecord i) k = absurd k

-- only some are dropped
pub drops_same : (base kept count : ℕ) → base ≤ kept → nat_lt (kept - base) count ≡ nat_lt kept (base + count)
drops_same base kept count le = by_tests (nat_lt (kept - base) count) (nat_lt kept (base + count)) refl refl
  where
    by_tests : (s t : Bool) → nat_lt (kept - base) count ≡ s → nat_lt kept (base + count) ≡ t → nat_lt (kept - base) count ≡ nat_lt kept (base + count)
    by_tests true true e f = e ∙ sym f
    by_tests false false e f = e ∙ sym f
    by_tests true false e f = let g = lt-ltb kept (base + count) (let a = ltb-true (kept - base) count e in omega (arith, a, le)) in absurd (let z : true ≡ false = sym g ∙ f in cc)
    by_tests false true e f = let g = lt-ltb (kept - base) count (let b = ltb-true kept (base + count) f in omega (arith, b, le)) in absurd (let z : true ≡ false = sym g ∙ e in cc)
