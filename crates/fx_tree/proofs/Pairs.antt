-- Two items in either order, and what they say.
use Rattle.std.proofs.Common.{◌≡◌, ◌≢◌, ℕ, [], ◌∷◌, refl, sym, ap, ◌∙◌, Bool, true, false, cond}
use Rattle.std.specs.Prelude.{Some, None, Result, Ok, Err, IfOk, All, ◌&&◌}
use Rattle.std.proofs.lemmas.List.Elements.{All-cons, All-nil}
use Rattle.std.specs.Ordering.{is_lt, ordering_reverse}
use Rattle.std.specs.declared.cmp.Ordering.{Ordering}
use Rattle.std.specs.declared.cmp.Ordering.TheVariants.{Less, Equal, Greater}
use Rattle.fx_item.specs.Item.{PlainKey, ObjectKey, AttributeKey, ExtentKey, ChildKey, GraveKey, AllocationKey, PlainItem, IsItem}
use Rattle.fx_item.specs.Look.{is_point_key}
use Rattle.fx_item.specs.Order.{is_apart, is_ascending, key_cmp, may_follow}
use Rattle.fx_item.specs.Overlay.{Point, AtKey, AtFileBlock, AtDeviceBlock, covers, entry_in, says}
use Rattle.fx_item.proofs.KeyOrder.{keys_exact, keys_total}
use Rattle.fx_namespace.proofs.Items.{child_itself, covers_key, not_covers, object_itself, same_key_is}
use Rattle.fx_tree.specs.Planned.{AreInKeyOrder}

pub turn : {A E : Type 0} {P Q : A → Type 0} (r : Result A E) → ((x : A) → P x → Q x) → IfOk r P → IfOk r Q
turn (Ok x) f h = f x h
turn (Err e) f h = h

-- a key of a single point covers itself, and no block
pub covers_point : (key : PlainKey) → is_point_key key ≡ true → covers key (AtKey key) ≡ true
covers_point (ObjectKey s i) e = object_itself s i
covers_point (AttributeKey s i x) e = child_itself s i x
covers_point (ExtentKey s i start stop) e = absurd (cc e)
covers_point (ChildKey s i x) e = child_itself s i x
covers_point (GraveKey s i) e = object_itself s i
covers_point (AllocationKey start stop) e = absurd (cc e)

no_file_block : (key : PlainKey) (s i k : ℕ) → is_point_key key ≡ true → covers key (AtFileBlock s i k) ≡ false
no_file_block (ObjectKey s i) t j k e = refl
no_file_block (AttributeKey s i x) t j k e = refl
no_file_block (ExtentKey s i start stop) t j k e = absurd (cc e)
no_file_block (ChildKey s i x) t j k e = refl
no_file_block (GraveKey s i) t j k e = refl
no_file_block (AllocationKey start stop) t j k e = absurd (cc e)

no_device_block : (key : PlainKey) (b : ℕ) → is_point_key key ≡ true → covers key (AtDeviceBlock b) ≡ false
no_device_block (ObjectKey s i) b e = refl
no_device_block (AttributeKey s i x) b e = refl
no_device_block (ExtentKey s i start stop) b e = absurd (cc e)
no_device_block (ChildKey s i x) b e = refl
no_device_block (GraveKey s i) b e = refl
no_device_block (AllocationKey start stop) b e = absurd (cc e)

-- it covers no other point
pub covers_only : (key : PlainKey) (p : Point) → is_point_key key ≡ true → p ≢ AtKey key → covers key p ≡ false
covers_only key (AtKey other) e ne = not_covers key other (λ q. ne (ap AtKey (sym q)))
covers_only key (AtFileBlock s i k) e ne = no_file_block key s i k e
covers_only key (AtDeviceBlock b) e ne = no_device_block key b e

covers_is : (key : PlainKey) (p : Point) → is_point_key key ≡ true → covers key p ≡ true → p ≡ AtKey key
covers_is key (AtKey other) e c = ap AtKey (sym (same_key_is key other (sym (covers_key key other) ∙ c)))
covers_is key (AtFileBlock s i k) e c = absurd (let q : false ≡ true = sym (no_file_block key s i k e) ∙ c in cc q)
covers_is key (AtDeviceBlock b) e c = absurd (let q : false ≡ true = sym (no_device_block key b e) ∙ c in cc q)

-- ---- what one or two items say

pub one_here : (a : PlainItem) → is_point_key a.key ≡ true → says (a ∷ []) (AtKey a.key) ≡ Some (entry_in a.key a.value (AtKey a.key))
one_here a e = ap (λ b. cond b (Some (entry_in a.key a.value (AtKey a.key))) None) (covers_point a.key e)

pub one_other : (a : PlainItem) (p : Point) → is_point_key a.key ≡ true → p ≢ AtKey a.key → says (a ∷ []) p ≡ None
one_other a p e ne = ap (λ b. cond b (Some (entry_in a.key a.value p)) None) (covers_only a.key p e ne)

pub first_here : (a b : PlainItem) → is_point_key a.key ≡ true → says (a ∷ b ∷ []) (AtKey a.key) ≡ Some (entry_in a.key a.value (AtKey a.key))
first_here a b e = ap (λ c. cond c (Some (entry_in a.key a.value (AtKey a.key))) (says (b ∷ []) (AtKey a.key))) (covers_point a.key e)

pub second_here : (a b : PlainItem) → is_point_key a.key ≡ true → is_point_key b.key ≡ true → a.key ≢ b.key → says (a ∷ b ∷ []) (AtKey b.key) ≡ Some (entry_in b.key b.value (AtKey b.key))
second_here a b e f ne = ap (λ c. cond c (Some (entry_in a.key a.value (AtKey b.key))) (says (b ∷ []) (AtKey b.key))) (not_covers a.key b.key ne) ∙ one_here b f

pub neither : (a b : PlainItem) (p : Point) → is_point_key a.key ≡ true → is_point_key b.key ≡ true → p ≢ AtKey a.key → p ≢ AtKey b.key → says (a ∷ b ∷ []) p ≡ None
neither a b p e f n m = ap (λ c. cond c (Some (entry_in a.key a.value p)) (says (b ∷ []) p)) (covers_only a.key p e n) ∙ one_other b p f m

-- ---- in either order

module _ (a b : PlainItem) (pa : is_point_key a.key ≡ true) (pb : is_point_key b.key ≡ true) (ne : a.key ≢ b.key) where
  key_at : Point → PlainKey
  key_at (AtKey key) = key
  key_at (AtFileBlock s i k) = a.key
  key_at (AtDeviceBlock k) = a.key

  by_tests : (p : Point) (c d : Bool) → covers a.key p ≡ c → covers b.key p ≡ d
      → cond d (Some (entry_in b.key b.value p)) (cond c (Some (entry_in a.key a.value p)) None) ≡ cond c (Some (entry_in a.key a.value p)) (cond d (Some (entry_in b.key b.value p)) None)
  by_tests p true true e f =
      let q : AtKey a.key ≡ AtKey b.key = sym (covers_is a.key p pa e) ∙ covers_is b.key p pb f in
      absurd (ne (cc q))
  by_tests p true false e f = refl
  by_tests p false d e f = refl

  pub swapped : says (b ∷ a ∷ []) ≡ says (a ∷ b ∷ [])
  swapped = λ i p. by_tests p (covers a.key p) (covers b.key p) refl refl i

  apart_points : (x y : PlainKey) → is_point_key x ≡ true → is_apart x y ≡ true
  apart_points (ObjectKey s i) y e = refl
  apart_points (AttributeKey s i x) y e = refl
  apart_points (ExtentKey s i start stop) y e = absurd (cc e)
  apart_points (ChildKey s i x) y e = refl
  apart_points (GraveKey s i) y e = refl
  apart_points (AllocationKey start stop) y e = absurd (cc e)

  turned : (o : Ordering) → key_cmp a.key b.key ≡ o → is_lt o ≡ false → is_lt (key_cmp b.key a.key) ≡ true
  turned Less e f = absurd (cc f)
  turned Equal e f = absurd (ne (keys_exact a.key b.key e))
  turned Greater e f = ap is_lt (keys_total.antisymm b.key a.key ∙ ap ordering_reverse e)

  not_less : (c d : Bool) → d ≡ true → (c && d) ≡ false → c ≡ false
  not_less true d e f = absurd (let q : true ≡ false = sym e ∙ f in cc q)
  not_less false d e f = refl

  -- where the one may not come first, the other may
  other_first : may_follow a.key b.key ≡ false → may_follow b.key a.key ≡ true
  other_first e =
      let low : is_lt (key_cmp a.key b.key) ≡ false = not_less (is_lt (key_cmp a.key b.key)) (is_apart a.key b.key) (apart_points a.key b.key pa) e in
      ap (λ c. c && is_apart b.key a.key) (turned (key_cmp a.key b.key) refl low) ∙ apart_points b.key a.key pb

  both_items : (x y : PlainItem) → IsItem x → IsItem y → All IsItem (x ∷ y ∷ [])
  both_items x y i j = All-cons IsItem x (y ∷ []) i (All-cons IsItem y [] j (All-nil IsItem))

  pub ordered : (x y : PlainItem) → IsItem x → IsItem y → may_follow x.key y.key ≡ true → AreInKeyOrder (x ∷ y ∷ [])
  ordered x y i j e = (ap (λ c. c && is_ascending (y ∷ [])) e, both_items x y i j)

  pub ordered_back : IsItem a → IsItem b → may_follow a.key b.key ≡ false → AreInKeyOrder (b ∷ a ∷ [])
  ordered_back i j e = ordered b a j i (other_first e)
