-- What was found in the two places of superblocks.
use Rattle.std.proofs.Common.{◌≡◌, ℕ, ◌≤◌, ◌<◌, List, Bool, true, false, refl, subst}
use Rattle.std.specs.Prelude.{Result, Ok, Err, Some, nat_le, if◌then◌else◌}
use Rattle.std.proofs.lemmas.Bool.{leb-true, leb-false}
use Rattle.fx_super.specs.Super.{Fields, IsSuper, Decoded, fields_of}
use Rattle.fx_super.specs.Chosen.{IsChosen, HasNoChosen, block_of, choice}
use Rattle.fx_super.specs.declared.superblock.Super.{Super}
use Rattle.fx_super.specs.declared.decode.SuperFault.{SuperFault}
use Rattle.fx_super.specs.declared.decode.SuperFault.TheVariants.{Bad, Version}
use Rattle.fx_super.specs.declared.choice.Which.TheVariants.{A, B}
use Rattle.fx_super.proofs.Chosen.{one_fields, no_other_version}
use Rattle.fx_found.specs.Image.{NamesDisk}
use Rattle.fx_found.specs.Reading.{AreSupers, IsOfDisk}
use Rattle.fx_super.specs.declared.choice.Which.{Which}

-- a block that was refused is no superblock
none-of : (block : List ℕ) (fault : SuperFault) → Decoded block (Err fault) → (f : Fields) → IsSuper block f → ⊥
none-of block Bad d f is = d.0 f is
none-of block (Version v) d f is = no_other_version block f v is d

pub neither : (image : List (List ℕ)) (a b : SuperFault) → AreSupers image (Err a) (Err b) → HasNoChosen image
neither image a b s A = none-of (block_of image A) a s.first_is
neither image a b s B = none-of (block_of image B) b s.second_is

pub first-alone : (image : List (List ℕ)) (a : Super) (b : SuperFault) → AreSupers image (Ok a) (Err b) → IsChosen image A (fields_of a)
first-alone image a b s = record { is_super = s.first_is; goes_before = λ g is. absurd (none-of (block_of image B) b s.second_is g is) }

pub second-alone : (image : List (List ℕ)) (a : SuperFault) (b : Super) → AreSupers image (Err a) (Ok b) → IsChosen image B (fields_of b)
second-alone image a b s = record { is_super = s.second_is; goes_before = λ g is. absurd (none-of (block_of image A) a s.first_is g is) }

module _ (a b : ℕ) where
  first-by : (t : Bool) → nat_le b a ≡ t → (if t then Some A else Some B) ≡ Some A → b ≤ a
  first-by true e k = leb-true b a e
  first-by false e k = absurd (cc)

  second-by : (t : Bool) → nat_le b a ≡ t → (if t then Some A else Some B) ≡ Some B → a < b
  second-by true e k = absurd (cc)
  second-by false e k = leb-false b a e

pub first-newer : (image : List (List ℕ)) (a b : Super) → AreSupers image (Ok a) (Ok b) → choice (Some a.generation) (Some b.generation) ≡ Some A → IsChosen image A (fields_of a)
first-newer image a b s e = record {
  is_super = s.first_is;
  goes_before = λ g is. subst (λ (x : Fields). x.generation ≤ a.generation) (one_fields (block_of image B) (fields_of b) g s.second_is is) (first-by a.generation b.generation (nat_le b.generation a.generation) refl e);
}

pub second-newer : (image : List (List ℕ)) (a b : Super) → AreSupers image (Ok a) (Ok b) → choice (Some a.generation) (Some b.generation) ≡ Some B → IsChosen image B (fields_of b)
second-newer image a b s e = record {
  is_super = s.second_is;
  goes_before = λ g is. subst (λ (x : Fields). x.generation < b.generation) (one_fields (block_of image A) (fields_of a) g s.first_is is) (second-by a.generation b.generation (nat_le b.generation a.generation) refl e);
}

pub of_disk : (size : ℕ) (image : List (List ℕ)) (slot : Which) (f : Fields) → NamesDisk size image slot f → IsOfDisk size f
of_disk size image slot f h = record { slots = h.slots; rules = h.chosen.is_super.rules; blocks = h.blocks }

pub supers_at : (image : List (List ℕ)) (x y : Result Super SuperFault) (a b : Result Super SuperFault) → x ≡ a → y ≡ b → AreSupers image x y → AreSupers image a b
supers_at image x y a b e f s = record { first_is = subst (Decoded (block_of image A)) e s.first_is; second_is = subst (Decoded (block_of image B)) f s.second_is }
