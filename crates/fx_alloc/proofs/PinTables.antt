-- The counts of pins fit the pins after one was made, and after one ended.
use Rattle.std.proofs.Common.{◌≡◌, ◌≢◌, ℕ, ◌+◌, ◌<◌, Bool, true, false, cond, ◌==◌, ◌&&◌, ◌||◌, List, get_or, set, Option, Some, None, IfSome, IsSome, refl, sym, ◌∙◌, ap, subst, arith, inl, inr}
use Rattle.std.specs.Prelude.{unwrap_or}
use Rattle.std.proofs.lemmas.Bool.{cases_eq, true≢false, eqb-false}
use Rattle.slab.specs.Slab.{Slab, get}
use Rattle.fx_alloc.specs.declared.pins.Kept.{Kept}
use Rattle.fx_alloc.specs.Pins.{PinTable, is_same_set, pin_at, pins_of, set_has, in_set, other_sets, other_pins, unpinned, KeepsSet, Standing, Added}
use Rattle.fx_alloc.specs.PinCounts.{pins_counted, ArePins, CountsUp, CountsDown, SameCounts, HaveSet}
use Rattle.fx_alloc.proofs.PinLists.{count-put, pins_of-removed, one_here, none_there, set_has-append, set_has-in_other, set_has-left, set_has-gone}

pub counted-there : (o : Option ℕ) → 0 < unwrap_or o 0 → IsSome o
counted-there None h = absurd (omega (arith, h))
counted-there (Some n) h = refl

pub set-there : (pins : List (Option ℕ)) (counts : Slab ℕ) (kept : List Kept) (present : Option ℕ) → ArePins pins counts kept present → IfSome present (λ own. IsSome (get counts own))
set-there pins counts kept None a = tt
set-there pins counts kept (Some own) a = counted-there (get counts own) (omega (arith, a.counted own, a.now))

pub ArePins-same : {pins : List (Option ℕ)} {counts later : Slab ℕ} {kept : List Kept} {present : Option ℕ} → ArePins pins counts kept present → SameCounts counts later → ArePins pins later kept present
ArePins-same a s = record { counted = λ own. s own ∙ a.counted own; owned = a.owned; now = a.now }

-- ---- a pin ends

module _ (pins : List (Option ℕ)) (counts less later : Slab ℕ) (kept : List Kept) (present : Option ℕ) (pin own left : ℕ)
    (a : ArePins pins counts kept present) (here : get_or pins pin None ≡ Some own) (down : CountsDown counts less own) (same : SameCounts less later) (left-is : left ≡ pins_counted less own) where
  own-left : left + 1 ≡ pins_of pins own
  own-left = omega (arith, left-is, down.changed, a.counted own, pins_of-removed pins pin own own here, one_here own)

  pub other_pins-left : pins_of (set pins pin None) own ≡ left
  other_pins-left = omega (arith, own-left, pins_of-removed pins pin own own here, one_here own)

  others-left : (other : ℕ) → other ≢ own → pins_of (set pins pin None) other ≡ pins_of pins other
  others-left other n = omega (arith, pins_of-removed pins pin own other here, none_there own other (λ e. n (sym e)))

  counted-left : (other : ℕ) → pins_counted later other ≡ pins_of (set pins pin None) other
  counted-left other = elim (cases_eq other own) [
    | inl e ↦ subst (λ (k : ℕ). pins_counted later k ≡ pins_of (set pins pin None) k) (sym e) (omega (arith, same own, left-is, other_pins-left))
    | inr n ↦ omega (arith, same other, down.others other n, a.counted other, others-left other n)
  ]

  owned-left : (x : Bool) → (left == 0) ≡ x → (other b : ℕ) → set_has (cond x (other_sets own kept) kept) other b ≡ true → 0 < pins_of (set pins pin None) other
  owned-left true e other b h = elim (cases_eq other own) [
    | inl q ↦ absurd (true≢false (sym h ∙ ap (λ (k : ℕ). set_has (other_sets own kept) k b) q ∙ set_has-gone own b kept))
    | inr n ↦ omega (arith, a.owned other b (sym (set_has-left own other b kept n) ∙ h), others-left other n)
  ]
  owned-left false e other b h = elim (cases_eq other own) [
    | inl q ↦ subst (λ (k : ℕ). 0 < pins_of (set pins pin None) k) (sym q) (omega (arith, other_pins-left, eqb-false left 0 e))
    | inr n ↦ omega (arith, a.owned other b h, others-left other n)
  ]

  standing-left : (x : Bool) → (left == 0) ≡ x → (o : Option ℕ) → IfSome o (λ s. 0 < pins_of pins s) → IfSome (cond (x && is_same_set own o) None o) (λ s. 0 < pins_of (set pins pin None) s)
  standing-left true e None h = tt
  standing-left false e None h = tt
  standing-left true e (Some s) h = told (s == own) refl
    where
      told : (y : Bool) → (s == own) ≡ y → IfSome (cond y None (Some s)) (λ t. 0 < pins_of (set pins pin None) t)
      told true q = tt
      told false q = omega (arith, h, others-left s (eqb-false s own q))
  standing-left false e (Some s) h = elim (cases_eq s own) [
    | inl q ↦ subst (λ (k : ℕ). 0 < pins_of (set pins pin None) k) (sym q) (omega (arith, other_pins-left, eqb-false left 0 e))
    | inr n ↦ omega (arith, h, others-left s n)
  ]

  pub ArePins-unpinned : ArePins (set pins pin None) later (cond (left == 0) (other_sets own kept) kept) (cond ((left == 0) && is_same_set own present) None present)
  ArePins-unpinned = record {
    counted = counted-left;
    owned = owned-left (left == 0) refl;
    now = standing-left (left == 0) refl present a.now;
  }

pub unpinned-is : (t : PinTable) (pin own left : ℕ) (ps : List (Option ℕ)) (ks : List Kept) (now : Option ℕ) → pin_at t.pins pin ≡ Some own → other_pins t pin own ≡ left
    → ps ≡ set t.pins pin None → ks ≡ cond (left == 0) (other_sets own t.kept) t.kept → now ≡ cond ((left == 0) && is_same_set own t.present) None t.present
    → IfSome (pin_at t.pins pin) (λ s. record { pins = ps; kept = ks; present = now } ≡ unpinned t pin s)
unpinned-is t pin own left ps ks now here e f g h = rw (here, f, g, h, e) refl

-- ---- a pin is made

module _ (pins later : List (Option ℕ)) (counts more last : Slab ℕ) (kept ks : List Kept) (present : Option ℕ) (blocks : List ℕ) (pin own : ℕ)
    (a : ArePins pins counts kept present) (have : HaveSet blocks present counts more kept ks own) (up : CountsUp more last own)
    (vacant : get_or pins pin None ≡ None) (changed : get_or later pin None ≡ Some own) (others : (i : ℕ) → i ≢ pin → get_or later i None ≡ get_or pins i None) where
  pins-now : (other : ℕ) → pins_of later other ≡ pins_of pins other + cond (own == other) 1 0
  pins-now other = count-put (is_same_set other) pins later pin (Some own) refl vacant changed others

  counted-now : (other : ℕ) → pins_counted last other ≡ pins_of later other
  counted-now other = elim (cases_eq other own) [
    | inl e ↦ subst (λ (k : ℕ). pins_counted last k ≡ pins_of later k) (sym e) (omega (arith, up.changed, have.same own, a.counted own, pins-now own, one_here own))
    | inr n ↦ omega (arith, up.others other n, have.same other, a.counted other, pins-now other, none_there own other (λ e. n (sym e)))
  ]

  owned-now : KeepsSet blocks present kept ks own (pins_counted counts own) → (other b : ℕ) → other ≢ own → set_has ks other b ≡ true → 0 < pins_of pins other
  owned-now (Standing p e) other b n h = a.owned other b (sym (ap (λ (l : List Kept). set_has l other b) e) ∙ h)
  owned-now (Added p z e) other b n h =
      a.owned other b (or_first (set_has kept other b) (set_has (in_set own blocks) other b) (sym (set_has-append kept (in_set own blocks) other b) ∙ sym (ap (λ (l : List Kept). set_has l other b) e) ∙ h) (set_has-in_other own other b blocks (λ q. n (sym q))))
    where
      or_first : (x y : Bool) → (x || y) ≡ true → y ≡ false → x ≡ true
      or_first true y g f = refl
      or_first false y g f = absurd (true≢false (sym g ∙ f))

  pub ArePins-pinned : ArePins later last ks (Some own)
  ArePins-pinned = record {
    counted = counted-now;
    owned = λ other b h. elim (cases_eq other own) [
      | inl e ↦ subst (λ (k : ℕ). 0 < pins_of later k) (sym e) (omega (arith, pins-now own, one_here own))
      | inr n ↦ omega (arith, pins-now other, owned-now have.keeps other b n h)
    ];
    now = omega (arith, pins-now own, one_here own);
  }

pub KeepsSet-count : {blocks : List ℕ} {present : Option ℕ} {kept ks : List Kept} {own n m : ℕ} → n ≡ m → KeepsSet blocks present kept ks own n → KeepsSet blocks present kept ks own m
KeepsSet-count {blocks} {present} {kept} {ks} {own} e k = subst (λ (i : ℕ). KeepsSet blocks present kept ks own i) e k
