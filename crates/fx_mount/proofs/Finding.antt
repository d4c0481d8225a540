-- What was found in the two places of superblocks.
use Rattle.std.proofs.Common.{◌≡◌, ℕ, ◌≤◌, ◌<◌, List, [], ◌∷◌, ◌++◌, length, get_or, Bool, true, false, refl, subst, arith}
use Rattle.std.specs.Prelude.{Result, Ok, Err, Option, Some, None, IfSome, nat_le, if◌then◌else◌}
use Rattle.std.proofs.lemmas.Bool.{leb-true, leb-false}
use Rattle.fx_super.specs.Super.{Fields, IsSuper, Decoded, fields_of}
use Rattle.fx_super.specs.Chosen.{IsChosen, HasNoChosen, choice}
use Rattle.fx_super.specs.declared.superblock.Super.{Super}
use Rattle.fx_super.specs.declared.decode.SuperFault.{SuperFault}
use Rattle.fx_super.specs.declared.decode.SuperFault.TheVariants.{Bad, Version}
use Rattle.fx_super.specs.declared.choice.Which.TheVariants.{A, B}
use Rattle.fx_disk.specs.Record.{DiskRecord}
use Rattle.fx_disk.specs.Seen.{DiskSeen, HasOnlyRead}
use Rattle.fx_mount.specs.declared.fault.MountFault.{MountFault}
use Rattle.fx_mount.specs.declared.fault.MountFault.TheVariants as faults
use Rattle.fx_super.proofs.Chosen.{one_fields, no_other_version}
use Rattle.fx_store.specs.Opening.{TellsChosen}
use Rattle.fx_store.specs.declared.opening.Found.{Found}
use Rattle.fx_store.proofs.Keeps.{if-more}
use Rattle.fx_mount.specs.Found.{AreSlots, CanGoOn, HasReadWell, IsMountCause, IsRefused, IsTold, TellsSlot, first_slot, second_slot}

-- a block that was refused is no superblock
pub refused-none : (block : List ℕ) (fault : SuperFault) → Decoded block (Err fault) → (f : Fields) → IsSuper block f → ⊥
refused-none block Bad d f is = d.0 f is
refused-none block (Version v) d f is = no_other_version block f v is d

pub neither : (image : List (List ℕ)) (a b : SuperFault) → Decoded (first_slot image) (Err a) → Decoded (second_slot image) (Err b) → HasNoChosen image
neither image a b d e A = refused-none (first_slot image) a d
neither image a b d e B = refused-none (second_slot image) b e

pub first-alone : (image : List (List ℕ)) (a : Super) (b : SuperFault) → AreSlots image (Ok a) (Err b) → IsChosen image A (fields_of a)
first-alone image a b s = record { is_super = s.first_is; goes_before = λ g is. absurd (refused-none (second_slot image) b s.second_is g is) }

pub second-alone : (image : List (List ℕ)) (a : SuperFault) (b : Super) → AreSlots image (Err a) (Ok b) → IsChosen image B (fields_of b)
second-alone image a b s = record { is_super = s.second_is; goes_before = λ g is. absurd (refused-none (first_slot image) a s.first_is g is) }

pub first-newer : (image : List (List ℕ)) (a b : Super) → AreSlots image (Ok a) (Ok b) → b.generation ≤ a.generation → IsChosen image A (fields_of a)
first-newer image a b s le = record {
  is_super = s.first_is;
  goes_before = λ g is. subst (λ (x : Fields). x.generation ≤ a.generation) (one_fields (second_slot image) (fields_of b) g s.second_is is) le;
}

pub second-newer : (image : List (List ℕ)) (a b : Super) → AreSlots image (Ok a) (Ok b) → a.generation < b.generation → IsChosen image B (fields_of b)
second-newer image a b s lt = record {
  is_super = s.second_is;
  goes_before = λ g is. subst (λ (x : Fields). x.generation < b.generation) (one_fields (first_slot image) (fields_of a) g s.first_is is) lt;
}

-- what `choose` tells of two generations
module _ (a b : ℕ) where
  first-by : (t : Bool) → nat_le b a ≡ t → (if t then Some A else Some B) ≡ Some A → b ≤ a
  first-by true e k = leb-true b a e
  first-by false e k = absurd (cc)

  second-by : (t : Bool) → nat_le b a ≡ t → (if t then Some A else Some B) ≡ Some B → a < b
  second-by true e k = absurd (cc)
  second-by false e k = leb-false b a e

  none-by : (t : Bool) → (if t then Some A else Some B) ≡ None → ⊥
  none-by true k = cc
  none-by false k = cc

  pub first-chosen : choice (Some a) (Some b) ≡ Some A → b ≤ a
  first-chosen = first-by (nat_le b a) refl

  pub second-chosen : choice (Some a) (Some b) ≡ Some B → a < b
  second-chosen = second-by (nat_le b a) refl

  pub none-chosen : choice (Some a) (Some b) ≡ None → ⊥
  none-chosen = none-by (nat_le b a)

-- the first of two lists, the first of which is not empty
pub first-of : (xs ys : List ℕ) → 0 < length xs → (rest : List ℕ) × (xs ++ ys ≡ get_or xs 0 0 ∷ rest)
first-of [] ys lt = absurd (omega arith)
first-of (x ∷ xs) ys lt = (xs ++ ys, refl)

pub empty-is : (xs : List ℕ) → length xs ≤ 0 → xs ≡ []
empty-is [] le = refl
empty-is (x ∷ xs) le = absurd (omega arith)

pub first-of-second : (xs ys : List ℕ) → length xs ≤ 0 → 0 < length ys → (rest : List ℕ) × (xs ++ ys ≡ get_or ys 0 0 ∷ rest)
first-of-second [] ys le lt = first-alone-of ys lt
  where
    first-alone-of : (zs : List ℕ) → 0 < length zs → (rest : List ℕ) × (zs ≡ get_or zs 0 0 ∷ rest)
    first-alone-of [] lt = absurd (omega arith)
    first-alone-of (z ∷ zs) lt = (zs, refl)
first-of-second (x ∷ xs) ys le lt = absurd (omega arith)

-- a fault that some image shows is a cause
pub cause-of : (before after : DiskSeen) (fault : MountFault) (image : List (List ℕ)) → IsRefused before.size image fault → HasReadWell before after → IsTold before fault
    → IsMountCause before after fault
cause-of before after faults.NoSuper image h well k = (well, k)
cause-of before after (faults.Version v) image h well k = (well, k)
cause-of before after (faults.DiskSize n) image h well k = (well, k)
cause-of before after (faults.BadLayer b) image h well k = (well, k)
cause-of before after (faults.BadRecord place) image h well k = (well, k)
cause-of before after (faults.BadTree store id) image h well k = (well, k)
cause-of before after (faults.Cramped n) image h well k = (well, k)
cause-of before after faults.Device image h well k = absurd h
cause-of before after faults.OutOfMemory image h well k = absurd h

-- what was read of two blocks stands in the image of the two, and in that of the disk where it tells it
slots-told : (told : Option DiskRecord) (a b : List ℕ) (first second : Result Super SuperFault) → Decoded a first → Decoded b second
    → IfSome told (λ r. a ≡ get_or r.contents 0 []) → IfSome told (λ r. b ≡ get_or r.contents 1 []) → IfSome told (λ r. AreSlots r.contents first second)
slots-told None a b first second d e p q = tt
slots-told (Some r) a b first second d e p q = record { first_is = subst (λ (x : List ℕ). Decoded x first) p d; second_is = subst (λ (x : List ℕ). Decoded x second) q e }

-- the two places of a disk that was read, one after the other
module _ (before mid : DiskSeen) (only : HasOnlyRead before mid) (first second : Result Super SuperFault) (a : TellsSlot before 0 first) (b : TellsSlot mid 1 second) where
  -- an image that has them, whatever the disk tells
  abbrev two : List (List ℕ)
  two = a.0 ∷ b.0 ∷ []

  pub slots-two : AreSlots two first second
  slots-two = record { first_is = a.1; second_is = b.1 }

  slots-there : IfSome before.told (λ r. AreSlots r.contents first second)
  slots-there = slots-told before.told a.0 b.0 first second a.1 b.1 a.2
      (subst (λ (o : Option DiskRecord). IfSome o (λ r. b.0 ≡ get_or r.contents 1 [])) only.told b.2)

  module _ (blocks : ℕ) (same : blocks ≡ before.size) where
    module _ (it : Found) where
      pub chosen-there : ((image : List (List ℕ)) → AreSlots image first second → IsChosen image it.chosen (fields_of it.sup)) → TellsChosen before it.chosen (fields_of it.sup)
      chosen-there h = if-more before.told (λ r. AreSlots r.contents first second) (λ r. IsChosen r.contents it.chosen (fields_of it.sup)) (λ r s. h r.contents s) slots-there

      pub goes-on-there : ((image : List (List ℕ)) → AreSlots image first second → CanGoOn blocks (fields_of it.sup)) → CanGoOn before.size (fields_of it.sup)
      goes-on-there h = subst (λ (n : ℕ). CanGoOn n (fields_of it.sup)) same (h two slots-two)

    pub refused-there : (after : DiskSeen) (fault : MountFault) → ((image : List (List ℕ)) → AreSlots image first second → IsRefused blocks image fault) → HasReadWell before after
        → IsMountCause before after fault
    refused-there after fault h well =
        let h' : (image : List (List ℕ)) → AreSlots image first second → IsRefused before.size image fault = λ image s. subst (λ (n : ℕ). IsRefused n image fault) same (h image s) in
        cause-of before after fault two (h' two slots-two) well
        (if-more before.told (λ r. AreSlots r.contents first second) (λ r. IsRefused before.size r.contents fault) (λ r s. h' r.contents s) slots-there)
