-- The allocator's table when a mount makes it, and when a number is given a seat.
use Rattle.std.proofs.Common.{◌≡◌, ℕ, ◌+◌, ◌-◌, ◌<◌, ◌≤◌, ◌==◌, ◌&&◌, not, Bool, true, false, List, length, refl, sym, ap, subst, ◌∙◌, arith, inl, inr, Option, Some, None}
use Rattle.std.specs.Prelude.{replicate}
use Rattle.std.proofs.lemmas.Bool.{cases_Bool, cases_lt, eqb-true}
use Rattle.std.proofs.lemmas.List.{get_or_append_left, get_or-replicate, length-replicate}
use Rattle.fx_item.specs.declared.Sizes.{Sizes}
use Rattle.fx_alloc.specs.declared.uses.Use.TheVariants as called
use Rattle.fx_alloc.specs.Uses.{use_at, put_all, blank}
use Rattle.fx_alloc.specs.Pins.{is_among}
use Rattle.fx_alloc.specs.Holders.{held_seat, vacant_seat, sits_on}
use Rattle.fx_alloc.specs.Space.{Space, holder_at, opened, seat_given, sitting}
use Rattle.fx_alloc.proofs.Positions.{position-some}
use Rattle.fx_alloc.proofs.UseLists.{length-put_all, length-blank, blank-free}
use Rattle.fx_uses.specs.Live.{Txn, live_after}
use Rattle.fx_uses.specs.Uses.{Use, Free, Live, System, Layer}
use Rattle.fx_kept.specs.Opened.{AreOthers, use_since, last_writer, opened_use}
use Rattle.fx_space_uses.specs.TableUses.{IsCalled, IsTableOf, AreListed}
use Rattle.fx_space_uses.proofs.Table.{empty_seat, put_apart, put_among, seat_alike, still_called}

-- ---- the table of a mount

blank_system : (blocks ring b : ℕ) → b < ring + 2 → use_at (blank blocks ring) b ≡ called.System
blank_system blocks ring b lt =
    get_or_append_left (replicate (ring + 2) called.System) (replicate (blocks - (ring + 2)) called.Free) called.System b (omega (arith, lt, length-replicate (ring + 2) called.System))
    ∙ get_or-replicate (ring + 2) b called.System called.System lt

not_among : (b : ℕ) (bs : List ℕ) → (is_among b bs ≡ true → ⊥) → is_among b bs ≡ false
not_among b bs ne = elim (cases_Bool (is_among b bs)) [ inl is ↦ absurd (ne is) | inr not' ↦ not' ]

module _ (blocks ring : ℕ) (uses : ℕ → Use) (live layers : List ℕ) (sizes : Sizes) (fits : ring + 2 ≤ blocks) (listed : AreListed blocks uses live layers) where
  abbrev made : Space
  made = opened blocks ring live layers sizes

  size : length (put_all called.Layer layers (put_all called.Live live (blank blocks ring))) ≡ blocks
  size = length-put_all called.Layer layers (put_all called.Live live (blank blocks ring)) ∙ length-put_all called.Live live (blank blocks ring) ∙ length-blank blocks ring fits

  -- in neither list
  at_blank : (b : ℕ) → b < blocks → ((since : ℕ) → uses b ≡ Live since → ⊥) → (uses b ≡ Layer → ⊥) → use_at (put_all called.Layer layers (put_all called.Live live (blank blocks ring))) b ≡ use_at (blank blocks ring) b
  at_blank b lt live' layer' =
      put_apart called.Layer layers (put_all called.Live live (blank blocks ring)) b (not_among b layers (λ is. layer' ((listed.layers_are b lt).0 is)))
      ∙ put_apart called.Live live (blank blocks ring) b (not_among b live (λ is. let at : (since : ℕ) × (uses b ≡ Live since) = (listed.live_are b lt).0 is in live' at.0 at.1))

  at_live : (b since : ℕ) → b < blocks → uses b ≡ Live since → use_at (put_all called.Layer layers (put_all called.Live live (blank blocks ring))) b ≡ called.Live
  at_live b since lt e =
      put_apart called.Layer layers (put_all called.Live live (blank blocks ring)) b (not_among b layers (λ is. let z : Live since ≡ Layer = sym e ∙ (listed.layers_are b lt).0 is in absurd (cc)))
      ∙ put_among called.Live live (blank blocks ring) b (omega (arith, lt, length-blank blocks ring fits)) ((listed.live_are b lt).1 (since, e))

  at_layer : (b : ℕ) → b < blocks → uses b ≡ Layer → use_at (put_all called.Layer layers (put_all called.Live live (blank blocks ring))) b ≡ called.Layer
  at_layer b lt e = put_among called.Layer layers (put_all called.Live live (blank blocks ring)) b (omega (arith, lt, length-put_all called.Live live (blank blocks ring), length-blank blocks ring fits)) ((listed.layers_are b lt).1 e)

  at_free : (b : ℕ) → b < blocks → ring + 2 ≤ b → uses b ≡ Free → use_at (put_all called.Layer layers (put_all called.Live live (blank blocks ring))) b ≡ called.Free
  at_free b lt above e = at_blank b lt (λ since q. let z : Free ≡ Live since = sym e ∙ q in absurd (cc)) (λ q. let z : Free ≡ Layer = sym e ∙ q in absurd (cc)) ∙ blank-free blocks ring b above lt

  at_system : (b : ℕ) → b < blocks → b < ring + 2 → uses b ≡ System → use_at (put_all called.Layer layers (put_all called.Live live (blank blocks ring))) b ≡ called.System
  at_system b lt below e = at_blank b lt (λ since q. let z : System ≡ Live since = sym e ∙ q in absurd (cc)) (λ q. let z : System ≡ Layer = sym e ∙ q in absurd (cc)) ∙ blank_system blocks ring b below

  is_called : (b : ℕ) (u : Use) → uses b ≡ u → IsCalled made b u (use_at made.uses b) → IsCalled made b (uses b) (use_at made.uses b)
  is_called b u e c = subst (λ (v : Use). IsCalled made b v (use_at made.uses b)) (sym e) c

pub called_opened : (blocks ring base : ℕ) (first : ℕ → Option ℕ) (txns : List Txn) (others : ℕ → Use) (live layers : List ℕ) (sizes : Sizes) → ring + 2 ≤ blocks → AreOthers (ring + 2) others → AreListed blocks (opened_use first base txns others) live layers
    → IsTableOf (opened_use first base txns others) (opened blocks ring live layers sizes)
called_opened blocks ring base first txns others live layers sizes fits are listed = record {
  each = λ b below. one b (omega (arith, below, size blocks ring (opened_use first base txns others) live layers sizes fits listed)) (live_after first txns (base + length txns) b) refl;
}
  where
    one : (b : ℕ) → b < blocks → (o : Option ℕ) → live_after first txns (base + length txns) b ≡ o → IsCalled (opened blocks ring live layers sizes) b (opened_use first base txns others b) (use_at (opened blocks ring live layers sizes).uses b)
    one b lt (Some x) e =
        let u : opened_use first base txns others b ≡ Live (last_writer b txns base) = ap (λ (o : Option ℕ). use_since o (last_writer b txns base) (others b)) e in
        is_called blocks ring (opened_use first base txns others) live layers sizes fits listed b (Live (last_writer b txns base)) u (at_live blocks ring (opened_use first base txns others) live layers sizes fits listed b (last_writer b txns base) lt u)
    one b lt None e = elim (cases_lt b (ring + 2)) [
      | inl below ↦ let u : opened_use first base txns others b ≡ System = same ∙ are.system b below in is_called blocks ring (opened_use first base txns others) live layers sizes fits listed b System u (at_system blocks ring (opened_use first base txns others) live layers sizes fits listed b lt below u)
      | inr above ↦ elim (are.unused b above) [
        | inl free ↦ let u : opened_use first base txns others b ≡ Free = same ∙ free in is_called blocks ring (opened_use first base txns others) live layers sizes fits listed b Free u (at_free blocks ring (opened_use first base txns others) live layers sizes fits listed b lt above u)
        | inr layer ↦ let u : opened_use first base txns others b ≡ Layer = same ∙ layer in is_called blocks ring (opened_use first base txns others) live layers sizes fits listed b Layer u (at_layer blocks ring (opened_use first base txns others) live layers sizes fits listed b lt u)
      ]
    ]
      where
        same : opened_use first base txns others b ≡ others b
        same = ap (λ (o : Option ℕ). use_since o (last_writer b txns base) (others b)) e

-- ---- a seat is given

module _ (s : Space) (who seat : ℕ) (none : held_seat s.holders who ≡ None) (vacant : vacant_seat s.holders ≡ Some seat) where
  nobody : (holder_at s.holders seat).sits ≡ false
  nobody = elim (cases_Bool (holder_at s.holders seat).sits) [
    | inl sits' ↦ let z : false ≡ true = sym (ap not sits') ∙ (position-some (λ h. not h.sits) s.holders seat empty_seat vacant).1 in absurd (cc)
    | inr not' ↦ not'
  ]

  sits_alike : (w k : ℕ) → held_seat s.holders w ≡ Some k → sits_on w (sitting who) ≡ sits_on w (holder_at s.holders seat)
  sits_alike w k q = elim (cases_Bool (who == w)) [
    | inl same ↦ let z : None ≡ Some k = sym none ∙ ap (held_seat s.holders) (eqb-true who w same) ∙ q in absurd (cc)
    | inr other ↦ other ∙ sym (ap (λ (t : Bool). t && ((holder_at s.holders seat).who == w)) nobody)
  ]

  pub called_seated : (uses : ℕ → Use) → IsTableOf uses s → IsTableOf uses (seat_given s who seat)
  called_seated uses h = record {
    each = λ b lt. still_called s (seat_given s who seat) b (uses b) (use_at s.uses b)
        (record { seats = λ w k q. seat_alike s.holders seat w k (sitting who) (sits_alike w k q) q; waits = λ c n x. x })
        (h.each b lt);
  }
