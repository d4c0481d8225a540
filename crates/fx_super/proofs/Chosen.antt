-- One spelling, and the chosen superblock.
use Rattle.std.proofs.Common.{◌≡◌, ℕ, ◌<◌, ◌≤◌, List, [], ◌⊎◌, inl, inr, Option, Some, None, Bool, true, false, length, get_or, drop, take, replicate, refl, sym, ap, subst, ◌∙◌, arith, get_or-set_same, get_or-set_other}
use Rattle.std.specs.Prelude.{MatchOption, nat_le, if◌then◌else◌}
use Rattle.std.proofs.Math.ListN.{set}
use Rattle.std.proofs.lemmas.Bool.{leb-true, leb-false}
use Rattle.byteorder.specs.Endian.{little_number}
use Rattle.fx_super.specs.declared.superblock.TheConstants.{MAGIC}
use Rattle.fx_super.specs.declared.choice.Which.{Which}
use Rattle.fx_super.specs.declared.choice.Which.TheVariants.{A, B}
use Rattle.fx_super.specs.Super.{Fields, IsSuper, IsVersion}
use Rattle.fx_super.specs.Chosen.{IsChosen, HasNoChosen, HasGeneration, block_of, block_number, other, choice}
use Rattle.fx_base.proofs.Lists.{zero_at}
use Rattle.fx_super.proofs.Blocks.{stands, after_parts, same_after}

pub one_fields : (block : List ℕ) (f g : Fields) → IsSuper block f → IsSuper block g → f ≡ g
one_fields block f g h k =
    let bytes = drop 12 (take 4088 block) in
    same_after bytes f g (h.rules.version_is ∙ sym k.rules.version_is) (after_parts bytes f h.rules (stands block f h).after_is) (after_parts bytes g k.rules (stands block g k).after_is)

pub no_other_version : (block : List ℕ) (f : Fields) (v : ℕ) → IsSuper block f → IsVersion block v → ⊥
no_other_version block f v h k = k.is_other (sym k.version_is ∙ (stands block f h).version_is ∙ h.rules.version_is)

pub zeros_have_no_magic : (n : ℕ) → little_number 8 (replicate n 0) ≡ MAGIC → ⊥
zeros_have_no_magic n h = omega (arith, h, zero_at n 0, zero_at n 1, zero_at n 2, zero_at n 3, zero_at n 4, zero_at n 5, zero_at n 6, zero_at n 7)

pub one_chosen : (image : List (List ℕ)) (v w : Which) (f g : Fields) → IsChosen image v f → IsChosen image w g → (v ≡ w) × (f ≡ g)
one_chosen image A A f g h k = (refl, one_fields (block_of image A) f g h.is_super k.is_super)
one_chosen image A B f g h k =
    let before : g.generation ≤ f.generation = h.goes_before g k.is_super in
    let after : f.generation < g.generation = k.goes_before f h.is_super in
    absurd (omega arith)
one_chosen image B A f g h k =
    let before : g.generation < f.generation = h.goes_before g k.is_super in
    let after : f.generation ≤ g.generation = k.goes_before f h.is_super in
    absurd (omega arith)
one_chosen image B B f g h k = (refl, one_fields (block_of image B) f g h.is_super k.is_super)

leb_cases : (a b : ℕ) → (nat_le a b ≡ true) ⊎ (nat_le a b ≡ false)
leb_cases a b = elim (nat_le a b) as (λ t. (t ≡ true) ⊎ (t ≡ false)) [ true ↦ inl refl | false ↦ inr refl ]

neither : (image : List (List ℕ)) → HasGeneration (block_of image A) None → HasGeneration (block_of image B) None → HasNoChosen image
neither image p q A = p
neither image p q B = q

-- a superblock's generation is the one that the block has
its_generation : (block : List ℕ) (f g : Fields) (n : ℕ) → IsSuper block f → f.generation ≡ n → IsSuper block g → g.generation ≡ n
its_generation block f g n h e k = ap (λ (x : Fields). x.generation) (one_fields block g f k h) ∙ e

abbrev Chooses : List (List ℕ) → Option Which → Type 0
Chooses image which = MatchOption which (HasNoChosen image) (λ w. (f : Fields) × IsChosen image w f)

pub chosen_by : (image : List (List ℕ)) (a b : Option ℕ) → HasGeneration (block_of image A) a → HasGeneration (block_of image B) b → Chooses image (choice a b)
chosen_by image None None p q = neither image p q
chosen_by image (Some a) None p q = (p.0, record { is_super = p.1.0; goes_before = λ g k. absurd (q g k) })
chosen_by image None (Some b) p q = (q.0, record { is_super = q.1.0; goes_before = λ g k. absurd (p g k) })
chosen_by image (Some a) (Some b) p q =
    elim (leb_cases b a) [
      | inl le ↦ subst (λ (t : Bool). Chooses image (if t then Some A else Some B)) (sym le) (p.0, record { is_super = p.1.0; goes_before = λ g k. (let e = its_generation (block_of image B) q.0 g b q.1.0 q.1.1 k in let own = p.1.1 in let le' = leb-true b a le in omega arith) })
      | inr gt ↦ subst (λ (t : Bool). Chooses image (if t then Some A else Some B)) (sym gt) (q.0, record { is_super = q.1.0; goes_before = λ g k. (let e = its_generation (block_of image A) p.0 g a p.1.0 p.1.1 k in let own = q.1.1 in let lt' = leb-false b a gt in omega arith) })
    ]

pub newer_chosen : (image : List (List ℕ)) (w : Which) (f g : Fields) (block : List ℕ) → 2 ≤ length image → IsChosen image w f → IsSuper block g → f.generation < g.generation → IsChosen (set image (block_number (other w)) block) (other w) g
newer_chosen image A f g block le h k lt =
    let there : get_or (set image 1 block) 1 [] ≡ block = get_or-set_same image 1 block [] (omega arith) in
    let kept : get_or (set image 1 block) 0 [] ≡ get_or image 0 [] = get_or-set_other image 1 0 block [] (λ e. omega (arith, e)) in
    record {
      is_super = subst (λ (b : List ℕ). IsSuper b g) (sym there) k;
      goes_before = λ x s. (let e = its_generation (get_or image 0 []) f x f.generation h.is_super refl (subst (λ (b : List ℕ). IsSuper b x) kept s) in omega arith);
    }
newer_chosen image B f g block le h k lt =
    let there : get_or (set image 0 block) 0 [] ≡ block = get_or-set_same image 0 block [] (omega arith) in
    let kept : get_or (set image 0 block) 1 [] ≡ get_or image 1 [] = get_or-set_other image 0 1 block [] (λ e. omega (arith, e)) in
    record {
      is_super = subst (λ (b : List ℕ). IsSuper b g) (sym there) k;
      goes_before = λ x s. (let e = its_generation (get_or image 1 []) f x f.generation h.is_super refl (subst (λ (b : List ℕ). IsSuper b x) kept s) in omega arith);
    }
