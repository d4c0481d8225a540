-- The order of places: it is total, and what lies at or before what.
use Rattle.std.proofs.Common.{◌≡◌, Bool, true, false, refl, sym, ◌∙◌, ap, ◌⊎◌, inl, inr}
use Rattle.std.specs.Ordering.{is_gt, is_le, is_lt, ordering_reverse}
use Rattle.std.specs.Cmp.{IsTotalOrder}
use Rattle.std.proofs.lemmas.Cmp.{then_total, on_total, nat_cmp_total, nat_list_cmp_total, upto}
use Rattle.std.specs.declared.cmp.Ordering.{Ordering}
use Rattle.std.specs.declared.cmp.Ordering.TheVariants.{Less, Equal, Greater}
use Rattle.fx_item.specs.Place.{Place, place_cmp, Upto, Below}

pub place_total : IsTotalOrder place_cmp
place_total = then_total (on_total (λ p. p.tree) nat_cmp_total) (then_total (on_total (λ p. p.store) nat_cmp_total)
    (then_total (on_total (λ p. p.id) nat_cmp_total) (then_total (on_total (λ p. p.kind) nat_cmp_total)
    (then_total (on_total (λ p. p.number) nat_cmp_total) (then_total (on_total (λ p. p.name) nat_list_cmp_total) (on_total (λ p. p.past) nat_cmp_total))))))

pub upto_upto : {a b c : Place} → Upto a b → Upto b c → Upto a c
upto_upto {a} {b} {c} h k = record { holds = upto place_total a b c h.holds k.holds }

pub below_upto : {a b : Place} → Below a b → Upto a b
below_upto h = record { holds = ap is_gt h.holds }

back_less : (a b : Place) → place_cmp a b ≡ Greater → place_cmp b a ≡ Less
back_less a b e = place_total.antisymm b a ∙ ap ordering_reverse e

back_greater : (a b : Place) → place_cmp a b ≡ Less → place_cmp b a ≡ Greater
back_greater a b e = place_total.antisymm b a ∙ ap ordering_reverse e

pub not_both : {a b : Place} → Below a b → Upto b a → ⊥
not_both {a} {b} h k = let e : true ≡ false = sym (ap is_gt (back_greater a b h.holds)) ∙ k.holds in cc

pub below_then : {a b c : Place} → Below a b → Upto b c → Below a c
below_then {a} {b} {c} h k = by_case (place_cmp a c) refl where
  by_case : (r : Ordering) → place_cmp a c ≡ r → Below a c
  by_case Less e = record { holds = e }
  by_case Equal e = absurd (not_both (record { holds = sym (place_total.congr a c b e) ∙ h.holds }) k)
  by_case Greater e = absurd (not_both (record { holds = place_total.trans c a b (back_less a c e) h.holds }) k)

pub upto_then : {a b c : Place} → Upto a b → Below b c → Below a c
upto_then {a} {b} {c} h k = by_case (place_cmp a c) refl where
  by_case : (r : Ordering) → place_cmp a c ≡ r → Below a c
  by_case Less e = record { holds = e }
  by_case Equal e = absurd (let g : place_cmp a b ≡ Greater = place_total.congr a c b e ∙ back_greater b c k.holds in let f : true ≡ false = sym (ap is_gt g) ∙ h.holds in cc)
  by_case Greater e = absurd (not_both (record { holds = place_total.trans b c a k.holds (back_less a c e) }) h)

pub below_below : {a b c : Place} → Below a b → Below b c → Below a c
below_below h k = below_then h (below_upto k)

pub either : (a b : Place) → Upto a b ⊎ Below b a
either a b = by_case (place_cmp a b) refl where
  by_case : (r : Ordering) → place_cmp a b ≡ r → Upto a b ⊎ Below b a
  by_case Less e = inl (record { holds = ap is_gt e })
  by_case Equal e = inl (record { holds = ap is_gt e })
  by_case Greater e = inr (record { holds = back_less a b e })

pub upto_itself : (a : Place) → Upto a a
upto_itself a = elim (either a a) [ inl h ↦ h | inr h ↦ below_upto h ]

-- ---- by the tests that the code makes
pub le_upto : {a b : Place} → is_le (place_cmp a b) ≡ true → Upto a b
le_upto {a} {b} h = by_case (place_cmp a b) refl where
  by_case : (r : Ordering) → place_cmp a b ≡ r → Upto a b
  by_case Less e = record { holds = ap is_gt e }
  by_case Equal e = record { holds = ap is_gt e }
  by_case Greater e = absurd (let f : true ≡ false = sym h ∙ ap is_le e in cc)

pub upto_le : {a b : Place} → Upto a b → is_le (place_cmp a b) ≡ true
upto_le {a} {b} h = by_case (place_cmp a b) refl where
  by_case : (r : Ordering) → place_cmp a b ≡ r → is_le (place_cmp a b) ≡ true
  by_case Less e = ap is_le e
  by_case Equal e = ap is_le e
  by_case Greater e = absurd (let f : true ≡ false = sym (ap is_gt e) ∙ h.holds in cc)

pub lt_below : {a b : Place} → is_lt (place_cmp a b) ≡ true → Below a b
lt_below {a} {b} h = by_case (place_cmp a b) refl where
  by_case : (r : Ordering) → place_cmp a b ≡ r → Below a b
  by_case Less e = record { holds = e }
  by_case Equal e = absurd (let f : true ≡ false = sym h ∙ ap is_lt e in cc)
  by_case Greater e = absurd (let f : true ≡ false = sym h ∙ ap is_lt e in cc)

pub not_le_below : {a b : Place} → is_le (place_cmp a b) ≡ false → Below b a
not_le_below {a} {b} h = elim (either a b) [ inl k ↦ absurd (let f : true ≡ false = sym (upto_le k) ∙ h in cc) | inr k ↦ k ]

pub not_lt_upto : {a b : Place} → is_lt (place_cmp a b) ≡ false → Upto b a
not_lt_upto {a} {b} h = elim (either b a) [ inl k ↦ k | inr k ↦ absurd (let f : true ≡ false = sym (ap is_lt k.holds) ∙ h in cc) ]

-- a test on two places that stand for these
pub tested_above : (a b p q : Place) (o : Ordering) (t : Bool) → t ≡ false → t ≡ is_le o → o ≡ place_cmp p q → p ≡ a → q ≡ b → Below b a
tested_above a b p q o t f e c h k = not_le_below {a = a} {b = b} (ap is_le (sym (ap (λ x. place_cmp x b) h)) ∙ ap (λ x. is_le (place_cmp p x)) (sym k) ∙ ap is_le (sym c) ∙ sym e ∙ f)

pub tested_upto : (a b p q : Place) (o : Ordering) (t : Bool) → t ≡ true → t ≡ is_le o → o ≡ place_cmp p q → p ≡ a → q ≡ b → Upto a b
tested_upto a b p q o t f e c h k = le_upto {a = a} {b = b} (ap is_le (sym (ap (λ x. place_cmp x b) h)) ∙ ap (λ x. is_le (place_cmp p x)) (sym k) ∙ ap is_le (sym c) ∙ sym e ∙ f)
