-- The table of the items that the names see.
use Rattle.std.proofs.Common.{◌≡◌, ◌⊎◌, inl, inr, ℕ, zero, suc, ◌+◌, ◌-◌, ◌<◌, ◌≤◌, Bool, true, false, cond, List, [], ◌∷◌, ◌++◌, take, drop, length, refl, sym, ap, subst, ◌∙◌, arith}
use Rattle.std.specs.Prelude.{Option, Some, None, All, IsTrue, is_none, Result, Ok, Err, OnOk}
use Rattle.std.specs.List.{flat_map, slice_get}
use Rattle.std.proofs.lemmas.Option.{same_Some, slice_get_within}
use Rattle.std.proofs.lemmas.List.Elements.{All-cons, All-nil}
use Rattle.fx_item.specs.declared.item.Item.{Item}
use Rattle.fx_item.specs.Item.{IsNameItem, item_of, items_of, PlainItem, PlainKey, ObjectKey, AttributeKey, ExtentKey, ChildKey, GraveKey, AllocationKey, PlainValue, is_name_key}
use Rattle.fx_item.specs.Look.{ItemMap, after, is_gone, is_point_key, value_in, value_of_entry}
use Rattle.fx_item.specs.Overlay.{AtKey, covers, entry_in, says}
use Rattle.fx_nodes.specs.Lists.{IsIn}
use Rattle.fx_nodes.proofs.Lists.{in_last, in_left, last_cases}
use Rattle.fx_nodes.proofs.Tree.{in_at}
use Rattle.fx_contents.specs.Points.{Points, named, unless_waiting, value_under}
use Rattle.fx_sound.specs.Image.{AreStanding, points_in}
use Rattle.fx_sound.proofs.Listed.{alive_in, good_in, covers_key, covers_self, key_entry, value_stands}
use Rattle.fx_sound.proofs.Named.{named_listed, named_stands, same_option}
use Rattle.fx_audit.specs.Nodes.{AreSeen, is_seen}

take_suc : {X : Type 0} (xs : List X) (i : ℕ) (x : X) → slice_get xs i ≡ Some x → take (suc i) xs ≡ take i xs ++ x ∷ []
take_suc [] i x e = absurd (cc e)
take_suc (y ∷ xs) zero x e = let same : y ≡ x = cc in ap (λ z. z ∷ []) same
take_suc (y ∷ xs) (suc i) x e = ap (λ zs. y ∷ zs) (take_suc xs i x e)

pub take_more : {X : Type 0} (xs : List X) (i : ℕ) (x : X) → slice_get xs i ≡ Some x → take (i + 1) xs ≡ take i xs ++ x ∷ []
take_more xs i x e = ap (λ n. take n xs) (let next : i + 1 ≡ suc i = omega arith in next) ∙ take_suc xs i x e

pub some_at : {X : Type 0} (xs : List X) (i : ℕ) → i < length xs → (x : X) × (slice_get xs i ≡ Some x)
some_at [] i l = absurd (omega (arith, l))
some_at (x ∷ xs) zero l = (x, refl)
some_at (x ∷ xs) (suc i) l = some_at xs i (omega (arith, l))

-- ---- one item of a list

one_at : (xs : List Item) (i : ℕ) (x : PlainItem) → slice_get (items_of xs) i ≡ Some x → items_of (take 1 (drop i xs)) ≡ x ∷ []
one_at [] i x e = absurd (cc e)
one_at (y ∷ ys) zero x e = ap (λ z. z ∷ []) (same_Some (item_of y) x e)
one_at (y ∷ ys) (suc i) x e = one_at ys i x e

pub one_taken : (xs : List Item) (i : ℕ) (x : PlainItem) → slice_get (items_of xs) i ≡ Some x → items_of (take (i + 1 - i) (drop i xs)) ≡ x ∷ []
one_taken xs i x e = ap (λ n. items_of (take n (drop i xs))) (let one : i + 1 - i ≡ 1 = omega arith in one) ∙ one_at xs i x e

pub one_name : (items : List PlainItem) (s : AreStanding items) (x : PlainItem) → IsIn items x → IsTrue (is_name_key x.key) → All IsNameItem (x ∷ [])
one_name items s x i h = All-cons IsNameItem x [] (record { item = good_in items s x i; kind = h }) (All-nil IsNameItem)

-- ---- which items the names see

pub seen_name : (m : Points) (key : PlainKey) → is_seen m key ≡ true → IsTrue (is_name_key key)
seen_name m (ObjectKey s i) e = refl
seen_name m (ChildKey s i name) e = refl
seen_name m (AttributeKey s i name) e = absurd (cc e)
seen_name m (ExtentKey s i a b) e = absurd (cc e)
seen_name m (GraveKey s i) e = absurd (cc e)
seen_name m (AllocationKey a b) e = absurd (cc e)

name_point : (key : PlainKey) → IsTrue (is_name_key key) → is_point_key key ≡ true
name_point (ObjectKey s i) h = refl
name_point (ChildKey s i name) h = refl
name_point (AttributeKey s i name) h = absurd (cc h)
name_point (ExtentKey s i a b) h = absurd (cc h)
name_point (GraveKey s i) h = absurd (cc h)
name_point (AllocationKey a b) h = absurd (cc h)

unhid : (grave value : Option PlainValue) → is_none grave ≡ true → unless_waiting grave value ≡ value
unhid None value e = refl
unhid (Some g) value e = absurd (cc e)

hid : (grave value : Option PlainValue) → is_none grave ≡ false → unless_waiting grave value ≡ None
hid None value e = absurd (cc e)
hid (Some g) value e = refl

seen_named : (m : Points) (key : PlainKey) → is_seen m key ≡ true → named m key ≡ value_under m key
seen_named m (ObjectKey s i) e = unhid (value_under m (GraveKey s i)) (value_under m (ObjectKey s i)) e
seen_named m (ChildKey s i name) e = refl
seen_named m (AttributeKey s i name) e = absurd (cc e)
seen_named m (ExtentKey s i a b) e = absurd (cc e)
seen_named m (GraveKey s i) e = absurd (cc e)
seen_named m (AllocationKey a b) e = absurd (cc e)

unseen_none : (m : Points) (key : PlainKey) → is_seen m key ≡ false → named m key ≡ None
unseen_none m (ObjectKey s i) e = hid (value_under m (GraveKey s i)) (value_under m (ObjectKey s i)) e
unseen_none m (ChildKey s i name) e = absurd (cc e)
unseen_none m (AttributeKey s i name) e = refl
unseen_none m (ExtentKey s i a b) e = refl
unseen_none m (GraveKey s i) e = refl
unseen_none m (AllocationKey a b) e = refl

-- ---- one more item

-- what stands under a key after one item: the item's value under its own key, and else what stood
after_cases : (old : ItemMap) (x : PlainItem) (key : PlainKey) → is_gone x.value ≡ false → (b : Bool) → covers x.key (AtKey key) ≡ b
    → ((x.key ≡ key) × (after old (x ∷ []) key ≡ Some x.value)) ⊎ ((covers x.key (AtKey key) ≡ false) × (after old (x ∷ []) key ≡ old key))
after_cases old x key alive true c = inl (covers_key x.key key c, after_step c ∙ ap value_of_entry (key_entry x.key x.value key alive))
  where
    after_step : covers x.key (AtKey key) ≡ true → after old (x ∷ []) key ≡ value_of_entry (entry_in x.key x.value (AtKey key))
    after_step e = ap (λ b. elim (cond b (Some (entry_in x.key x.value (AtKey key))) None) [ Some entry ↦ value_of_entry entry | None ↦ old key ]) e
after_cases old x key alive false c = inr (c, ap (λ b. elim (cond b (Some (entry_in x.key x.value (AtKey key))) None) [ Some entry ↦ value_of_entry entry | None ↦ old key ]) c)

module _ (items : List PlainItem) (s : AreStanding items) where
  pub none_seen : (m : ItemMap) → ((key : PlainKey) → m key ≡ None) → AreSeen (points_in items) [] m
  none_seen m none = record {
    sound = λ key v e. absurd (let q : None ≡ Some v = sym (none key) ∙ e in cc);
    whole = λ key v i e. absurd i;
  }

  module _ (i : ℕ) (x : PlainItem) (got : slice_get items i ≡ Some x) (old : ItemMap) (h : AreSeen (points_in items) (take i items) old) where
    listed : IsIn items x
    listed = in_at items i x got

    more : take (i + 1) items ≡ take i items ++ x ∷ []
    more = take_more items i x got

    -- an item that the names do not see is left out
    pub seen_skip : is_seen (points_in items) x.key ≡ false → AreSeen (points_in items) (take (i + 1) items) old
    seen_skip unseen = subst (λ xs. AreSeen (points_in items) xs old) (sym more) (record {
      sound = λ key v e. let k = h.sound key v e in (in_left (take i items) (x ∷ []) (record { key = key; value = v }) k.0, k.1);
      whole = λ key v j e. elim (last_cases (take i items) x (record { key = key; value = v }) j) [
        | inl k ↦ h.whole key v k e
        | inr k ↦ absurd (let q : None ≡ Some v = sym (unseen_none (points_in items) x.key unseen) ∙ ap (λ (z : PlainItem). named (points_in items) z.key) k ∙ e in cc)
      ];
    })

    -- one that they see is put
    pub seen_put : (new : ItemMap) → is_seen (points_in items) x.key ≡ true → ((key : PlainKey) → new key ≡ after old (x ∷ []) key) → AreSeen (points_in items) (take (i + 1) items) new
    seen_put new seen put = subst (λ xs. AreSeen (points_in items) xs new) (sym more) (record { sound = sound; whole = whole })
      where
        cases : (key : PlainKey) → ((x.key ≡ key) × (after old (x ∷ []) key ≡ Some x.value)) ⊎ ((covers x.key (AtKey key) ≡ false) × (after old (x ∷ []) key ≡ old key))
        cases key = after_cases old x key (alive_in items s x listed) (covers x.key (AtKey key)) refl

        is_named : named (points_in items) x.key ≡ Some x.value
        is_named = seen_named (points_in items) x.key seen ∙ value_stands items s x listed (name_point x.key (seen_name (points_in items) x.key seen))

        sound : (key : PlainKey) (v : PlainValue) → new key ≡ Some v → IsIn (take i items ++ x ∷ []) (record { key = key; value = v }) × (named (points_in items) key ≡ Some v)
        sound key v e = elim (cases key) [
          | inl a ↦
              let w : x.value ≡ v = same_Some x.value v (sym a.1 ∙ sym (put key) ∙ e) in
              let is : x ≡ record { key = key; value = v } = λ d. record { key = a.0 d; value = w d } in
              (subst (IsIn (take i items ++ x ∷ [])) is (in_last (take i items) x), ap (named (points_in items)) (sym a.0) ∙ is_named ∙ ap Some w)
          | inr a ↦ let k = h.sound key v (sym a.1 ∙ sym (put key) ∙ e) in (in_left (take i items) (x ∷ []) (record { key = key; value = v }) k.0, k.1)
        ]

        whole : (key : PlainKey) (v : PlainValue) → IsIn (take i items ++ x ∷ []) (record { key = key; value = v }) → named (points_in items) key ≡ Some v → new key ≡ Some v
        whole key v j e = put key ∙ by (cases key)
          where
            by : ((x.key ≡ key) × (after old (x ∷ []) key ≡ Some x.value)) ⊎ ((covers x.key (AtKey key) ≡ false) × (after old (x ∷ []) key ≡ old key)) → after old (x ∷ []) key ≡ Some v
            by (inl a) = a.1 ∙ sym is_named ∙ ap (named (points_in items)) a.0 ∙ e
            by (inr a) = elim (last_cases (take i items) x (record { key = key; value = v }) j) [
              | inl k ↦ a.1 ∙ h.whole key v k e
              | inr k ↦ absurd (
                  let self : covers x.key (AtKey x.key) ≡ true = covers_self x.key (name_point x.key (seen_name (points_in items) x.key seen)) in
                  let q : false ≡ true = sym a.0 ∙ ap (λ (z : PlainItem). covers x.key (AtKey z.key)) (sym k) ∙ self in cc)
            ]

  -- at the end the table is what the names see
  pub seen_all : (table : ItemMap) → AreSeen (points_in items) items table → table ≡ named (points_in items)
  seen_all table h = λ d key. same_option (table key) (named (points_in items) key) (λ v e. (h.sound key v e).1) (λ v e. h.whole key v (named_listed items s key v e) e) d

pub on_ok : {A E : Type 0} {P Q : Type 0} (r : Result A E) → (P → Q) → OnOk r P → OnOk r Q
on_ok (Ok x) f h = f h
on_ok (Err e) f h = h

pub flat_items : {Y : Type 0} (f : PlainItem → List Y) (xs : List Item) → flat_map (λ item. f (item_of item)) xs ≡ flat_map f (items_of xs)
flat_items f [] = refl
flat_items f (x ∷ xs) = ap (λ ys. f (item_of x) ++ ys) (flat_items f xs)
