-- Point keys: what a look finds first stands under its key, and the order of keys is that of places.
use Rattle.std.proofs.Common.{◌≡◌, ℕ, Bool, true, false, List, [], ◌∷◌, Some, None, refl, sym, ◌∙◌, ap, subst, cond, inl, inr}
use Rattle.std.specs.Ordering.{nat_cmp, ordering_then}
use Rattle.std.specs.Cmp.Lexicographic.{slice_cmp}
use Rattle.std.specs.declared.cmp.Ordering.{Ordering}
use Rattle.std.specs.declared.cmp.Ordering.TheVariants.{Less, Equal, Greater}
use Rattle.fx_item.specs.Item.{PlainKey, ObjectKey, AttributeKey, ExtentKey, ChildKey, GraveKey, AllocationKey, PlainItem, Suits}
use Rattle.fx_item.specs.Item.{PlainValue, GoneValue, DirectoryValue, FileValue, AttributeValue, ChildValue, WaitingValue, ExtentValue, TakenValue}
use Rattle.fx_item.specs.Place.{place_cmp, Upto, Below, begins, ends, key_place}
use Rattle.fx_item.specs.Overlay.{Point, AtKey, ValueEntry, Said, at, covers, entry_in, live_in}
use Rattle.fx_item.specs.Look.{IsFirstFrom, FindsFrom, IsFirstLive, FindsLive, is_gone, is_point_key, map_of, spoken, value_of_entry}
use Rattle.fx_item.specs.Meeting.{KeyLaw, OrderLaw}
use Rattle.fx_item.proofs.PlaceOrder.{either, upto_itself}
use Rattle.fx_item.proofs.Between.{Inside, inside, not_empty}
use Rattle.fx_item.proofs.Covered.{lies_covers}

-- ---- where a point key lies as a point

pub point_at : (key : PlainKey) → is_point_key key ≡ true → at (AtKey key) ≡ begins key
point_at (ObjectKey s i) h = refl
point_at (AttributeKey s i name) h = refl
point_at (ExtentKey s i a b) h = absurd (cc h)
point_at (ChildKey s i name) h = refl
point_at (GraveKey s i) h = refl
point_at (AllocationKey a b) h = absurd (cc h)

-- ---- what stands under a key

pub map_some : (said : Said) (key : PlainKey) → is_point_key key ≡ true → map_of said key ≡ value_of_entry (live_in said (AtKey key))
map_some said key h = ap (λ b. cond b (value_of_entry (live_in said (AtKey key))) None) h

pub map_range : (said : Said) (key : PlainKey) → is_point_key key ≡ false → map_of said key ≡ None
map_range said key h = ap (λ b. cond b (value_of_entry (live_in said (AtKey key))) None) h

pub map_none : (said : Said) (key : PlainKey) → (is_point_key key ≡ true → live_in said (AtKey key) ≡ None) → map_of said key ≡ None
map_none said key h = by_kind (is_point_key key) refl where
  by_kind : (b : Bool) → is_point_key key ≡ b → map_of said key ≡ None
  by_kind true e = map_some said key e ∙ ap value_of_entry (h e)
  by_kind false e = map_range said key e

-- what a value says of a point key is the value itself
value_said : (k : PlainKey) (v : PlainValue) (p : Point) → is_point_key k ≡ true → Suits k v → is_gone v ≡ false → entry_in k v p ≡ Some (ValueEntry v)
value_said k GoneValue p h s g = absurd (cc g)
value_said k DirectoryValue p h s g = refl
value_said k (FileValue len) p h s g = refl
value_said k (AttributeValue text) p h s g = refl
value_said k (ChildValue t j) p h s g = refl
value_said k WaitingValue p h s g = refl
value_said k TakenValue p h s g = refl
value_said (ObjectKey t i) (ExtentValue b sums) p h s g = absurd s
value_said (AttributeKey t i name) (ExtentValue b sums) p h s g = absurd s
value_said (ExtentKey t i x y) (ExtentValue b sums) p h s g = absurd (cc h)
value_said (ChildKey t i name) (ExtentValue b sums) p h s g = absurd s
value_said (GraveKey t i) (ExtentValue b sums) p h s g = absurd s
value_said (AllocationKey x y) (ExtentValue b sums) p h s g = absurd (cc h)

-- tombstones included
value_spoken : (k : PlainKey) (v : PlainValue) (p : Point) → is_point_key k ≡ true → Suits k v → spoken (Some v) ≡ Some (entry_in k v p)
value_spoken k GoneValue p h s = refl
value_spoken k DirectoryValue p h s = ap Some (sym (value_said k DirectoryValue p h s refl))
value_spoken k (FileValue len) p h s = ap Some (sym (value_said k (FileValue len) p h s refl))
value_spoken k (AttributeValue text) p h s = ap Some (sym (value_said k (AttributeValue text) p h s refl))
value_spoken k (ChildValue t j) p h s = ap Some (sym (value_said k (ChildValue t j) p h s refl))
value_spoken k WaitingValue p h s = ap Some (sym (value_said k WaitingValue p h s refl))
value_spoken k (ExtentValue b sums) p h s = ap Some (sym (value_said k (ExtentValue b sums) p h s refl))
value_spoken k TakenValue p h s = ap Some (sym (value_said k TakenValue p h s refl))

-- nothing begins inside a point
pub from_point : (k : PlainKey) (key : PlainKey) → is_point_key k ≡ true → Below (begins key) (ends k) → Upto (begins key) (begins k)
from_point k key h l = elim (either (begins key) (begins k)) [ inl le ↦ le | inr b ↦ absurd (no k h (inside k false key b l)) ] where
  no : (k : PlainKey) → is_point_key k ≡ true → Inside k (begins key) → ⊥
  no (ObjectKey s i) h q = q
  no (AttributeKey s i name) h q = q
  no (ExtentKey s i a b) h q = cc h
  no (ChildKey s i name) h q = q
  no (GraveKey s i) h q = q
  no (AllocationKey a b) h q = cc h

-- an item under a point key covers it
itself_covers : (k : PlainKey) → is_point_key k ≡ true → Below (begins k) (ends k) → covers k (AtKey k) ≡ true
itself_covers k h b = lies_covers k (AtKey k) (subst (Upto (begins k)) (sym (point_at k h)) (upto_itself (begins k))) (subst (λ q. Below q (ends k)) (sym (point_at k h)) b)

pub key_holds : KeyLaw
key_holds said key None f = λ other up. map_none said other (λ h. f (AtKey other) (subst (Upto (begins key)) (sym (point_at other h)) up))
key_holds said key (Some x) f = record {
  stands = λ h.
      let le : Upto (begins key) (at (AtKey x.key)) = subst (Upto (begins key)) (sym (point_at x.key h)) (from_point x.key key h f.reaches) in
      let c : covers x.key (AtKey x.key) ≡ true = itself_covers x.key h (not_empty x.key f.good.key) in
      map_some said x.key h ∙ ap value_of_entry (f.stands (AtKey x.key) le c ∙ value_said x.key x.value (AtKey x.key) h f.good.value f.alive);
  first = λ other up b. map_none said other (λ h. f.first (AtKey other) (subst (Upto (begins key)) (sym (point_at other h)) up) (subst (λ q. Below q (begins x.key)) (sym (point_at other h)) b));
}

-- ---- the order of point keys

then_equal : (o : Ordering) → ordering_then o Equal ≡ o
then_equal Less = refl
then_equal Equal = refl
then_equal Greater = refl

flat : (s i k : ℕ) (name : List ℕ) (t j l : ℕ) (other : List ℕ) → slice_cmp nat_cmp (0 ∷ s ∷ i ∷ k ∷ name) (0 ∷ t ∷ j ∷ l ∷ other) ≡ place_cmp (key_place s i k name 0) (key_place t j l other 0)
flat s i k name t j l other = ap (λ o. ordering_then (nat_cmp s t) (ordering_then (nat_cmp i j) (ordering_then (nat_cmp k l) o))) (sym (then_equal (slice_cmp nat_cmp name other)))

pub order_holds : OrderLaw
order_holds (ObjectKey s i) (ObjectKey t j) p q = flat s i 1 [] t j 1 []
order_holds (ObjectKey s i) (AttributeKey t j other) p q = flat s i 1 [] t j 2 other
order_holds (ObjectKey s i) (ExtentKey t j c d) p q = absurd (cc q)
order_holds (ObjectKey s i) (ChildKey t j other) p q = flat s i 1 [] t j 4 other
order_holds (ObjectKey s i) (GraveKey t j) p q = flat s i 1 [] t j 5 []
order_holds (ObjectKey s i) (AllocationKey c d) p q = absurd (cc q)
order_holds (AttributeKey s i name) (ObjectKey t j) p q = flat s i 2 name t j 1 []
order_holds (AttributeKey s i name) (AttributeKey t j other) p q = flat s i 2 name t j 2 other
order_holds (AttributeKey s i name) (ExtentKey t j c d) p q = absurd (cc q)
order_holds (AttributeKey s i name) (ChildKey t j other) p q = flat s i 2 name t j 4 other
order_holds (AttributeKey s i name) (GraveKey t j) p q = flat s i 2 name t j 5 []
order_holds (AttributeKey s i name) (AllocationKey c d) p q = absurd (cc q)
order_holds (ExtentKey s i a b) (ObjectKey t j) p q = absurd (cc p)
order_holds (ExtentKey s i a b) (AttributeKey t j other) p q = absurd (cc p)
order_holds (ExtentKey s i a b) (ExtentKey t j c d) p q = absurd (cc p)
order_holds (ExtentKey s i a b) (ChildKey t j other) p q = absurd (cc p)
order_holds (ExtentKey s i a b) (GraveKey t j) p q = absurd (cc p)
order_holds (ExtentKey s i a b) (AllocationKey c d) p q = absurd (cc p)
order_holds (ChildKey s i name) (ObjectKey t j) p q = flat s i 4 name t j 1 []
order_holds (ChildKey s i name) (AttributeKey t j other) p q = flat s i 4 name t j 2 other
order_holds (ChildKey s i name) (ExtentKey t j c d) p q = absurd (cc q)
order_holds (ChildKey s i name) (ChildKey t j other) p q = flat s i 4 name t j 4 other
order_holds (ChildKey s i name) (GraveKey t j) p q = flat s i 4 name t j 5 []
order_holds (ChildKey s i name) (AllocationKey c d) p q = absurd (cc q)
order_holds (GraveKey s i) (ObjectKey t j) p q = flat s i 5 [] t j 1 []
order_holds (GraveKey s i) (AttributeKey t j other) p q = flat s i 5 [] t j 2 other
order_holds (GraveKey s i) (ExtentKey t j c d) p q = absurd (cc q)
order_holds (GraveKey s i) (ChildKey t j other) p q = flat s i 5 [] t j 4 other
order_holds (GraveKey s i) (GraveKey t j) p q = flat s i 5 [] t j 5 []
order_holds (GraveKey s i) (AllocationKey c d) p q = absurd (cc q)
order_holds (AllocationKey a b) (ObjectKey t j) p q = absurd (cc p)
order_holds (AllocationKey a b) (AttributeKey t j other) p q = absurd (cc p)
order_holds (AllocationKey a b) (ExtentKey t j c d) p q = absurd (cc p)
order_holds (AllocationKey a b) (ChildKey t j other) p q = absurd (cc p)
order_holds (AllocationKey a b) (GraveKey t j) p q = absurd (cc p)
order_holds (AllocationKey a b) (AllocationKey c d) p q = absurd (cc p)

-- ---- what a look under a key finds, from what is found from it on

module _ (key : PlainKey) (h : is_point_key key ≡ true) where
  here : Upto (begins key) (at (AtKey key))
  here = subst (Upto (begins key)) (sym (point_at key h)) (upto_itself (begins key))

  module _ (k : PlainKey) (low : Upto (begins k) (begins key)) (high : Below (begins key) (ends k)) where
    covers_here : covers k (AtKey key) ≡ true
    covers_here = lies_covers k (AtKey key) (subst (Upto (begins k)) (sym (point_at key h)) low) (subst (λ q. Below q (ends k)) (sym (point_at key h)) high)

    -- what covers a point key is one
    pub is_point : is_point_key k ≡ true
    is_point = by_key k covers_here where
      by_key : (k : PlainKey) → covers k (AtKey key) ≡ true → is_point_key k ≡ true
      by_key (ObjectKey s i) c = refl
      by_key (AttributeKey s i name) c = refl
      by_key (ExtentKey s i a b) c = absurd (cc c)
      by_key (ChildKey s i name) c = refl
      by_key (GraveKey s i) c = refl
      by_key (AllocationKey a b) c = absurd (cc c)

  module _ (said : Said) where
    pub level_none : FindsFrom said (begins key) None → spoken None ≡ said (AtKey key)
    level_none f = sym (f (AtKey key) here)

    pub look_none : FindsLive said (begins key) None → None ≡ map_of said key
    look_none f = sym (map_none said key (λ _. f (AtKey key) here))

    module _ (x : PlainItem) where
      -- the item begins behind the key
      pub level_later : IsFirstFrom said (begins key) x → Below (begins key) (begins x.key) → spoken None ≡ said (AtKey key)
      level_later f b = sym (f.first (AtKey key) here (subst (λ q. Below q (begins x.key)) (sym (point_at key h)) b))

      pub look_later : IsFirstLive said (begins key) x → Below (begins key) (begins x.key) → None ≡ map_of said key
      look_later f b = sym (map_none said key (λ _. f.first (AtKey key) here (subst (λ q. Below q (begins x.key)) (sym (point_at key h)) b)))

      -- it covers the key
      pub level_here : IsFirstFrom said (begins key) x → Upto (begins x.key) (begins key) → spoken (Some x.value) ≡ said (AtKey key)
      level_here f low =
          value_spoken x.key x.value (AtKey key) (is_point x.key low f.reaches) f.good.value
          ∙ sym (f.stands (AtKey key) here (covers_here x.key low f.reaches))

      pub look_here : IsFirstLive said (begins key) x → Upto (begins x.key) (begins key) → Some x.value ≡ map_of said key
      look_here f low =
          sym (map_some said key h
          ∙ ap value_of_entry (f.stands (AtKey key) here (covers_here x.key low f.reaches) ∙ value_said x.key x.value (AtKey key) (is_point x.key low f.reaches) f.good.value f.alive))
