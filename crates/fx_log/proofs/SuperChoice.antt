-- Which superblock an image chooses, by what stands in its two places.
use Rattle.std.proofs.Common.{◌≡◌, ℕ, zero, suc, ◌+◌, ◌⊎◌, inl, inr, ⊎_elim, List, [], ◌∷◌, refl, sym, subst, arith, Contains}
use Rattle.std.specs.Str.{bytes_eq}
use Rattle.std.proofs.lemmas.Slice.Eq.{bytes_eq-Decides}
use Rattle.std.proofs.lemmas.Bool.{cases_Bool}
use Rattle.std.proofs.lemmas.Bool.Decides.{not_from_Decides}
use Rattle.fx_disk.proofs.Cells.{one-is}
use Rattle.fx_super.specs.Super.{Fields, IsSuper, KeepsRules}
use Rattle.fx_super.specs.Chosen.{GoesBefore, block_of, other}
use Rattle.fx_super.specs.declared.choice.Which.{Which}
use Rattle.fx_super.specs.declared.choice.Which.TheVariants.{A, B}
use Rattle.fx_super.proofs.Chosen.{one_fields, one_chosen}
use Rattle.fx_log.specs.Chance.{PassesForSuper}
use Rattle.fx_log.specs.Chosen.{next_generation, ChoosesSuper, ChoosesEither, start_of}
use Rattle.fx_jblock.specs.declared.Start.{Start}
use Rattle.fx_journal.specs.declared.stream.StreamBlock.{StreamBlock}
use Rattle.fx_journal.specs.Stream.{IsStream}
use Rattle.fx_journal.proofs.Runs.{one_stream}

pub other-twice : (which : Which) → other (other which) ≡ which
other-twice A = refl
other-twice B = refl

-- the next generation goes before
after-before : (which : Which) (n : ℕ) → GoesBefore which (n + 1) n
after-before A n = omega arith
after-before B n = omega arith

pub same-list : (xs ys : List ℕ) → (xs ≡ ys) ⊎ (xs ≡ ys → ⊥)
same-list xs ys = ⊎_elim (λ t. inl ((bytes_eq-Decides xs ys).0 t)) (λ f. inr (not_from_Decides (bytes_eq xs ys) (bytes_eq-Decides xs ys) f)) (cases_Bool (bytes_eq xs ys))

-- one of two
pub two-is : (x y z : List ℕ) → Contains (x ∷ y ∷ []) z → (x ≡ z) ⊎ (y ≡ z)
two-is x y z (zero, lt, e) = inl e
two-is x y z (suc k, lt, e) = inr (one-is y z (k, omega arith, e))

-- In the place that is not chosen stands what was there before, the next generation, or no superblock.
module _ (which : Which) (f : Fields) (image : List (List ℕ)) (before bytes : List ℕ)
    (super : IsSuper (block_of image which) f)
    (goes : (g : Fields) → IsSuper before g → GoesBefore which f.generation g.generation)
    (next : IsSuper bytes (next_generation f)) where
  -- the next generation stands there
  pub chooses_next : bytes ≡ block_of image (other which) → ChoosesSuper (next_generation f) image
  chooses_next e = (
    other which,
    record {
      is_super = subst (λ (x : List ℕ). IsSuper x (next_generation f)) e next;
      goes_before = λ g is.
          let here : IsSuper (block_of image which) g = subst (λ (w : Which). IsSuper (block_of image w) g) (other-twice which) is in
          let same : f ≡ g = one_fields (block_of image which) f g super here in
          subst (λ (x : Fields). GoesBefore (other which) (f.generation + 1) x.generation) same (after-before (other which) f.generation);
    },
  )

  -- what was there before, or no superblock
  stays_chosen : ((g : Fields) → IsSuper (block_of image (other which)) g → before ≡ block_of image (other which)) → ChoosesSuper f image
  stays_chosen old = (
    which,
    record {
      is_super = super;
      goes_before = λ g is. goes g (subst (λ (x : List ℕ). IsSuper x g) (sym (old g is)) is);
    },
  )

  pub chooses_either : (PassesForSuper (block_of image (other which)) → Contains (before ∷ bytes ∷ []) (block_of image (other which))) → ChoosesEither f image
  chooses_either held = ⊎_elim
      (λ e. inr (chooses_next e))
      (λ ne. inl (stays_chosen (λ g is. ⊎_elim (λ e. e) (λ e. absurd (ne e)) (two-is before bytes (block_of image (other which)) (held (inl (g, is)))))))
      (same-list bytes (block_of image (other which)))

-- one superblock is chosen, and one stream is its
pub one_super : (image : List (List ℕ)) (f g : Fields) → ChoosesSuper f image → ChoosesSuper g image → f ≡ g
one_super image f g a b = (one_chosen image a.0 b.0 f g a.1 b.1).1

pub rules_chosen : (image : List (List ℕ)) (f : Fields) → ChoosesSuper f image → KeepsRules f
rules_chosen image f h = h.1.is_super.rules

pub stream_chosen : (image : List (List ℕ)) (f : Fields) (p q : Start) (xs ys : List StreamBlock) → KeepsRules f
    → IsStream image f.ring f.generation (start_of f) xs p → IsStream image f.ring f.generation (start_of f) ys q → (xs ≡ ys) × (p ≡ q)
stream_chosen image f p q xs ys rules a b =
    one_stream image f.ring f.generation (start_of f) p q xs ys (omega (arith, rules.generation_most)) (omega (arith, rules.sequence_below, rules.ring_most)) a b
