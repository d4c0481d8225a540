-- The parts of a new allocator fit one another.
use Rattle.std.proofs.Common.{◌≡◌, ℕ, ◌+◌, ◌-◌, ◌<◌, ◌≤◌, ◌^◌, Bool, true, false, List, [], ◌++◌, length, get_or, replicate, count_by, All, None, refl, sym, ◌∙◌, ap, subst, arith, inl, inr}
use Rattle.std.proofs.lemmas.List.{get_or-replicate, length-replicate}
use Rattle.std.proofs.Math.ListN.{get_or-eq_default}
use Rattle.std.proofs.lemmas.List.Folds.{sum_by-replicate}
use Rattle.std.proofs.lemmas.Bool.{cases_lt, true≢false}
use Rattle.fx_alloc.specs.declared.uses.Use.{Use}
use Rattle.fx_alloc.specs.declared.uses.Use.TheVariants.{System, Free, Drawn, Live, Freed, Layer, Laid}
use Rattle.fx_alloc.specs.declared.holders.Holder.{Holder}
use Rattle.fx_alloc.specs.declared.holders.TheConstants.{VACANT}
use Rattle.fx_alloc.specs.declared.chain.Chain.{Chain}
use Rattle.fx_alloc.specs.Uses.{is_system, is_free, is_drawn_by, is_live, is_freed, is_layer, is_laid, is_pinned, put_all, blocks_from, blank, StandOnce}
use Rattle.fx_alloc.specs.Space.{holder_at}
use Rattle.fx_alloc.specs.Space.{AreRising}
use Rattle.fx_alloc.specs.Inside.{IsDrawn, IsSpace}
use Rattle.fx_alloc.specs.Uses.{AreUsed}
use Rattle.fx_alloc.proofs.UseLists.{length-put_all, count-put_all, AreUsed-left, AreUsed-front, AreUsed-none, AreUsed-zero, AreUsed-blank, blank-count, length-blank}

all_vacant : (i : ℕ) → holder_at (replicate 32 VACANT) i ≡ VACANT
all_vacant i = elim (cases_lt i 32) [
  | inl l ↦ get_or-replicate 32 i VACANT VACANT l
  | inr h ↦ get_or-eq_default (replicate 32 VACANT) VACANT {n = i} (omega (arith, h, length-replicate 32 VACANT))
]

module _ (blocks ring : ℕ) (live layers : List ℕ) (fit : ring + 2 ≤ blocks) (places : All (λ b. (ring + 2 ≤ b) × (b < blocks)) (live ++ layers)) (apart : StandOnce (live ++ layers)) where
  pub free_live : AreUsed Free (blank blocks ring) live
  free_live = AreUsed-front Free (blank blocks ring) live layers (AreUsed-blank blocks ring (live ++ layers) places apart)

  pub free_layers : AreUsed Free (put_all Live live (blank blocks ring)) layers
  free_layers = AreUsed-left Free Live (blank blocks ring) live layers (AreUsed-blank blocks ring (live ++ layers) places apart)

  pub few_blocks : length live + length layers ≤ blocks - (ring + 2)
  few_blocks = omega (
    arith,
    count-put_all is_free Free Live live (blank blocks ring) true false (λ x. cc) refl refl free_live,
    count-put_all is_free Free Layer layers (put_all Live live (blank blocks ring)) true false (λ x. cc) refl refl free_layers,
    blank-count is_free blocks ring false true refl refl,
  )

  counted : (p : Use → Bool) → p System ≡ false → p Free ≡ false → p Live ≡ false → p Layer ≡ false → count_by p (put_all Layer layers (put_all Live live (blank blocks ring))) ≡ 0
  counted p s f v l = omega (
    arith,
    count-put_all p Free Live live (blank blocks ring) false false (λ x. cc) f v free_live,
    count-put_all p Free Layer layers (put_all Live live (blank blocks ring)) false false (λ x. cc) f l free_layers,
    blank-count p blocks ring false false s f,
  )

  pub IsSpace-opened : (links : List ℕ) (chain : Chain) → blocks < 2 ^ 32 → length links ≡ blocks → chain.len ≡ length layers
      → AreUsed Layer (put_all Layer layers (put_all Live live (blank blocks ring))) (blocks_from links chain.head chain.len)
      → IsSpace (put_all Layer layers (put_all Live live (blank blocks ring))) links ring 0 (blocks - (ring + 2) - length live - chain.len) (length live) 0 (replicate 32 VACANT) (replicate 32 0) chain (record { head = 0; len = 0 }) [] None
  unfolding AreRising
  IsSpace-opened links chain small linked len chained = record {
    small = omega (arith, size, small);
    linked = linked ∙ sym size;
    ids = omega arith;
    counts = record {
      of_system = omega (
        arith,
        count-put_all is_system Free Live live (blank blocks ring) false false (λ x. cc) refl refl free_live,
        count-put_all is_system Free Layer layers (put_all Live live (blank blocks ring)) false false (λ x. cc) refl refl free_layers,
        blank-count is_system blocks ring true false refl refl,
      );
      of_free = omega (
        arith,
        count-put_all is_free Free Live live (blank blocks ring) true false (λ x. cc) refl refl free_live,
        count-put_all is_free Free Layer layers (put_all Live live (blank blocks ring)) true false (λ x. cc) refl refl free_layers,
        blank-count is_free blocks ring false true refl refl,
        len,
      );
      of_live = omega (
        arith,
        count-put_all is_live Free Live live (blank blocks ring) false true (λ x. cc) refl refl free_live,
        count-put_all is_live Free Layer layers (put_all Live live (blank blocks ring)) false false (λ x. cc) refl refl free_layers,
        blank-count is_live blocks ring false false refl refl,
      );
      of_freed = counted is_freed refl refl refl refl;
      of_layers = omega (
        arith,
        count-put_all is_layer Free Live live (blank blocks ring) false false (λ x. cc) refl refl free_live,
        count-put_all is_layer Free Layer layers (put_all Live live (blank blocks ring)) false true (λ x. cc) refl refl free_layers,
        blank-count is_layer blocks ring false false refl refl,
        len,
      );
      of_laid = counted is_laid refl refl refl refl;
      of_pinned = counted is_pinned refl refl refl refl;
      of_all = omega (arith, few_blocks, len, fit, size, sum_by-replicate (λ (h : Holder). h.drawn) 32 VACANT);
    };
    seats = record {
      seats = length-replicate 32 VACANT;
      heads_len = length-replicate {A = ℕ} 32 0;
      apart = λ i j li lj si sj w. absurd (true≢false (sym si ∙ ap (λ (h : Holder). h.sits) (all_vacant i)));
      vacant = λ i e. all_vacant i;
      nodes = omega (arith, sum_by-replicate (λ (h : Holder). h.nodes) 32 VACANT);
      attributes = omega (arith, sum_by-replicate (λ (h : Holder). h.attributes) 32 VACANT);
    };
    of_seats = λ t. subst (λ (h : Holder). IsDrawn (put_all Layer layers (put_all Live live (blank blocks ring))) links (get_or (replicate 32 0) t 0) h.drawn t) (sym (all_vacant t)) (record {
      chain = AreUsed-zero (Drawn t) (put_all Layer layers (put_all Live live (blank blocks ring))) links (get_or (replicate 32 0) t 0);
      counted = counted (is_drawn_by t) refl refl refl refl;
    });
    of_layers = chained;
    of_laid = AreUsed-zero Laid (put_all Layer layers (put_all Live live (blank blocks ring))) links 0;
    of_freed = AreUsed-none Freed (put_all Layer layers (put_all Live live (blank blocks ring)));
    rising = tt;
    few_laid = omega arith;
    fits = omega (arith, sum_by-replicate (λ (h : Holder). h.held) 32 VACANT);
  }
    where
      size : length (put_all Layer layers (put_all Live live (blank blocks ring))) ≡ blocks
      size = length-put_all Layer layers (put_all Live live (blank blocks ring)) ∙ length-put_all Live live (blank blocks ring) ∙ length-blank blocks ring fit
