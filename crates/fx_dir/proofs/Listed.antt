-- The children of a node, found one after another.
use Rattle.std.proofs.Common.{◌≡◌, ◌≢◌, inl, inr, ℕ, ◌<◌, ◌≤◌, ◌++◌, List, [], ◌∷◌, length, refl, sym, ap, subst, ◌∙◌, arith, Bool, true, false, cond, get_or, zero, suc}
use Rattle.std.specs.Prelude.{Option, Some, None, IfSome, slice_get, count_by, Contains, ◌==◌, ◌&&◌}
use Rattle.std.specs.Ordering.{is_le}
use Rattle.std.specs.declared.cmp.Ordering.TheVariants.{Less}
use Rattle.std.proofs.lemmas.Bool.{eqb-true, eq-eqb, and_parts}
use Rattle.std.proofs.lemmas.Option.{slice_get_within}
use Rattle.std.proofs.lemmas.List.Sums.{sum_by-cons}
use Rattle.fx_item.specs.Item.{PlainKey, ObjectKey, AttributeKey, ExtentKey, ChildKey, GraveKey, AllocationKey, PlainItem, PlainValue}
use Rattle.fx_item.specs.Look.{ItemMap, FindsLive, IsFirstLive, is_point_key, map_of}
use Rattle.fx_item.specs.Meeting.{IsFirstKey}
use Rattle.fx_item.specs.Overlay.{Said}
use Rattle.fx_item.specs.Place.{Place, Upto, Below, begins, ends, place_cmp}
use Rattle.fx_item.specs.Name.{name_cmp}
use Rattle.fx_item.specs.Order.{key_cmp, rank}
use Rattle.fx_item.specs.declared.lock.LockKey.{LockKey}
use Rattle.fx_dir.specs.Children.{AreChildren, IsChild, IsFirstChild, child_name_at, name_under}
use Rattle.fx_item.proofs.Between.{SameSpace, space_between}
use Rattle.fx_item.proofs.Keys.{from_point, key_holds, order_holds}
use Rattle.fx_item.proofs.PlaceOrder.{below_upto, either, le_upto, upto_le}
use Rattle.fx_base.proofs.Lists.{got_kept, got_last, got_split}
use Rattle.fx_dir.proofs.Order.{IsUpTo, below_next, below_or_up_to, children_in_order, cmp, less_up_to, not_up_to, up_to, up_to_from_next, up_to_itself, up_to_both}

-- ---- where the keys of children lie

-- where the key of a child begins
abbrev place_of : LockKey → List ℕ → Place
place_of at name = begins (ChildKey at.store at.id name)

places_in_order : (at : LockKey) (a b : List ℕ) → place_cmp (place_of at a) (place_of at b) ≡ cmp a b
places_in_order at a b =
    sym (order_holds (ChildKey at.store at.id a) (ChildKey at.store at.id b) refl refl) ∙ children_in_order at.store at.id a b

places_up_to : (at : LockKey) (a b : List ℕ) → IsUpTo a b → Upto (place_of at a) (place_of at b)
places_up_to at a b h = le_upto (ap is_le (places_in_order at a b) ∙ h)

names_up_to : (at : LockKey) (a b : List ℕ) → Upto (place_of at a) (place_of at b) → IsUpTo a b
names_up_to at a b h = ap is_le (sym (places_in_order at a b)) ∙ upto_le h

turned : {a b : Place} → SameSpace a b → SameSpace b a
turned s = record { tree = sym s.tree; store = sym s.store; id = sym s.id; kind = sym s.kind }

key_space : (k : PlainKey) → SameSpace (begins k) (ends k)
key_space (ObjectKey s i) = record { tree = refl; store = refl; id = refl; kind = refl }
key_space (AttributeKey s i name) = record { tree = refl; store = refl; id = refl; kind = refl }
key_space (ExtentKey s i start stop) = record { tree = refl; store = refl; id = refl; kind = refl }
key_space (ChildKey s i name) = record { tree = refl; store = refl; id = refl; kind = refl }
key_space (GraveKey s i) = record { tree = refl; store = refl; id = refl; kind = refl }
key_space (AllocationKey start stop) = record { tree = refl; store = refl; id = refl; kind = refl }

-- A key that ends behind where a child's begins, and begins no later than another one's, is a child's.
child_near : (k : PlainKey) (at : LockKey) (a b : List ℕ) → Below (place_of at a) (ends k) → Upto (begins k) (place_of at b) → (c : List ℕ) × (k ≡ ChildKey at.store at.id c)
child_near k at a b reaches up = by_kind k near
  where
    near : SameSpace (begins k) (place_of at a)
    near = elim (either (place_of at a) (begins k)) [
      | inl low ↦ turned (space_between (place_of at a) (begins k) (place_of at b) (record { tree = refl; store = refl; id = refl; kind = refl }) low up)
      | inr low ↦ space_between (begins k) (place_of at a) (ends k) (key_space k) (below_upto low) (below_upto reaches)
    ]

    by_kind : (k : PlainKey) → SameSpace (begins k) (place_of at a) → (c : List ℕ) × (k ≡ ChildKey at.store at.id c)
    by_kind (ObjectKey s i) e = absurd (omega (arith, e.kind))
    by_kind (AttributeKey s i name) e = absurd (omega (arith, e.kind))
    by_kind (ExtentKey s i start stop) e = absurd (omega (arith, e.kind))
    by_kind (ChildKey s i name) e = (name, ap (λ z. ChildKey z i name) e.store ∙ ap (λ z. ChildKey at.store z name) e.id)
    by_kind (GraveKey s i) e = absurd (omega (arith, e.kind))
    by_kind (AllocationKey start stop) e = absurd (omega (arith, e.tree))

-- ---- the first child, by the first item

-- it stands, and it does not
both : (m : ItemMap) (at : LockKey) (name : List ℕ) → IsChild m at name → m (ChildKey at.store at.id name) ≡ None → ⊥
both m at name child none = let e : None ≡ Some child.0 = sym none ∙ child.1 in cc

module _ (said : Said) (at : LockKey) (from : List ℕ) where
  no_item : FindsLive said (place_of at from) None → IsFirstChild (map_of said) at from None
  no_item f other child = elim (below_or_up_to from other) [
    | inl a ↦ a
    | inr a ↦ absurd (both (map_of said) at other child (key_holds said (ChildKey at.store at.id from) None f (ChildKey at.store at.id other) (places_up_to at from other a)))
  ]

  module _ (x : PlainItem) (f : IsFirstLive said (place_of at from) x) where
    first_key : IsFirstKey said (ChildKey at.store at.id from) x
    first_key = key_holds said (ChildKey at.store at.id from) (Some x) f

    -- a child from the name on begins with or after the first item
    after_first : (other : List ℕ) → IsChild (map_of said) at other → IsUpTo from other → Upto (begins x.key) (place_of at other)
    after_first other child up = elim (either (begins x.key) (place_of at other)) [
      | inl a ↦ a
      | inr a ↦ absurd (both (map_of said) at other child (first_key.first (ChildKey at.store at.id other) (places_up_to at from other up) a))
    ]

    no_child : ((c : List ℕ) → x.key ≢ ChildKey at.store at.id c) → IsFirstChild (map_of said) at from None
    no_child other_key other child = elim (below_or_up_to from other) [
      | inl a ↦ a
      | inr a ↦ let b = child_near x.key at from other f.reaches (after_first other child a) in absurd (other_key b.0 b.1)
    ]

    is_child : (name : List ℕ) → x.key ≡ ChildKey at.store at.id name → IsFirstChild (map_of said) at from (Some name)
    is_child name e = (
      (x.value, ap (map_of said) (sym e) ∙ first_key.stands (ap is_point_key e)),
      names_up_to at from name (subst (λ k. Upto (place_of at from) (begins k)) e (from_point x.key (ChildKey at.store at.id from) (ap is_point_key e) f.reaches)),
      λ other child. elim (below_or_up_to from other) [
        | inl a ↦ inl a
        | inr a ↦ inr (names_up_to at name other (subst (λ k. Upto (begins k) (place_of at other)) e (after_first other child a)))
      ],
    )

    by_test : (s i : ℕ) (name : List ℕ) (b : Bool) → x.key ≡ ChildKey s i name → (s == at.store && i == at.id) ≡ b → IsFirstChild (map_of said) at from (cond b (Some name) None)
    by_test s i name true e t =
        let p = and_parts (s == at.store) (i == at.id) t in
        is_child name (e ∙ ap (λ z. ChildKey z i name) (eqb-true s at.store p.0) ∙ ap (λ z. ChildKey at.store z name) (eqb-true i at.id p.1))
    by_test s i name false e t = no_child (λ c q. differs s i t (cc (sym e ∙ q)) (cc (sym e ∙ q)))
      where
        same : (at.store == at.store && at.id == at.id) ≡ true
        same = ap (λ z. z && at.id == at.id) (eq-eqb at.store at.store refl) ∙ eq-eqb at.id at.id refl

        differs : (s i : ℕ) → (s == at.store && i == at.id) ≡ false → s ≡ at.store → i ≡ at.id → ⊥
        differs s i t a b = cc (sym t ∙ ap (λ z. z == at.store && i == at.id) a ∙ ap (λ z. at.store == at.store && z == at.id) b ∙ same)

    by_key : (k : PlainKey) → x.key ≡ k → IsFirstChild (map_of said) at from (name_under at k)
    by_key (ObjectKey store id) e = no_child (λ c q. cc (sym e ∙ q))
    by_key (AttributeKey store id name) e = no_child (λ c q. cc (sym e ∙ q))
    by_key (ExtentKey store id start stop) e = no_child (λ c q. cc (sym e ∙ q))
    by_key (ChildKey store id name) e = by_test store id name (store == at.store && id == at.id) e refl
    by_key (GraveKey store id) e = no_child (λ c q. cc (sym e ∙ q))
    by_key (AllocationKey start stop) e = no_child (λ c q. cc (sym e ∙ q))

  pub first_child : (item : Option PlainItem) → FindsLive said (place_of at from) item → IsFirstChild (map_of said) at from (child_name_at at item)
  first_child None f = no_item f
  first_child (Some x) f = by_key x f x.key refl

-- the key of the child that is found is among the keys
pub listed_child : (m : ItemMap) (at : LockKey) (from : List ℕ) (keys : List PlainKey) → ((key : PlainKey) (value : PlainValue) → m key ≡ Some value → Contains keys key)
    → (found : Option (List ℕ)) → IsFirstChild m at from found → IfSome found (λ (name : List ℕ). Contains keys (ChildKey at.store at.id name))
listed_child m at from keys listed None f = tt
listed_child m at from keys listed (Some name) f = listed (ChildKey at.store at.id name) f.0.0 f.0.1

-- ---- the children so far

-- the names of all children before a name
pub record AreBefore (m : ItemMap) (at : LockKey) (from : List ℕ) (names : List (List ℕ)) : Type 0 where
  pub there : (i : ℕ) (name : List ℕ) → slice_get names i ≡ Some name → IsChild m at name
  pub all : (name : List ℕ) → IsChild m at name → name_cmp name from ≡ Less → (i : ℕ) × (slice_get names i ≡ Some name)
  pub below : (i : ℕ) (name : List ℕ) → slice_get names i ≡ Some name → name_cmp name from ≡ Less
  pub rising : (i j : ℕ) (x y : List ℕ) → i < j → slice_get names i ≡ Some x → slice_get names j ≡ Some y → name_cmp x y ≡ Less

none_below : (name : List ℕ) → cmp name [] ≡ Less → ⊥
none_below [] e = cc e
none_below (x ∷ name) e = cc e

pub none_before : (m : ItemMap) (at : LockKey) (from : List ℕ) (names : List (List ℕ)) → from ≡ [] → names ≡ [] → AreBefore m at from names
none_before m at from names f e = subst (λ z. AreBefore m at z names) (sym f) (subst (AreBefore m at []) (sym e) (record {
  there = λ i name g. absurd (cc g);
  all = λ name child l. absurd (none_below name l);
  below = λ i name g. absurd (cc g);
  rising = λ i j x y l g h. absurd (cc g);
}))

module _ {m : ItemMap} {at : LockKey} {from : List ℕ} {names : List (List ℕ)} (b : AreBefore m at from names) where
  pub all_children : IsFirstChild m at from None → AreChildren m at names
  all_children f = record { there = b.there; all = λ name child. b.all name child (f name child); rising = b.rising }

  module _ {name : List ℕ} (f : IsFirstChild m at from (Some name)) where
    old_below : (x : List ℕ) → cmp x from ≡ Less → cmp x name ≡ Less
    old_below x l = less_up_to x from name l f.1

    found : (x : List ℕ) → IsChild m at x → cmp x (name ++ 0 ∷ []) ≡ Less → (i : ℕ) × (slice_get (names ++ name ∷ []) i ≡ Some x)
    found x child l = elim (f.2 x child) [
      | inl a ↦ let i = b.all x child a in (i.0, got_kept names name i.0 x i.1)
      | inr a ↦ (length names, got_last names name ∙ ap Some (up_to_both name x a (up_to_from_next x name l)))
    ]

    pub one_more : AreBefore m at (name ++ 0 ∷ []) (names ++ name ∷ [])
    one_more = record {
      there = λ i x g. elim (got_split names name i x g) [ inl a ↦ b.there i x a | inr a ↦ subst (IsChild m at) a.1 f.0 ];
      all = found;
      below = λ i x g. elim (got_split names name i x g) [
        | inl a ↦ below_next x name (up_to x name (old_below x (b.below i x a)))
        | inr a ↦ subst (λ z. cmp z (name ++ 0 ∷ []) ≡ Less) a.1 (below_next name name (up_to_itself name))
      ];
      rising = λ i j x y l g h. elim (got_split names name j y h) [
        | inl c ↦ elim (got_split names name i x g) [ inl a ↦ b.rising i j x y l a c | inr a ↦ absurd (omega (arith, a.0, slice_get_within names j y c, l)) ]
        | inr c ↦ elim (got_split names name i x g) [ inl a ↦ ap (cmp x) (sym c.1) ∙ old_below x (b.below i x a) | inr a ↦ absurd (omega (arith, a.0, c.0, l)) ]
      ];
    }

-- ---- how many keys are left

module _ {X : Type 0} (p q : X → Bool) (k : (x : X) → p x ≡ true → q x ≡ true) where
  one_le : (s t : Bool) → (s ≡ true → t ≡ true) → cond s 1 0 ≤ cond t 1 0
  one_le true true h = omega arith
  one_le true false h = absurd (cc (h refl))
  one_le false true h = omega arith
  one_le false false h = omega arith

  count_le : (xs : List X) → count_by p xs ≤ count_by q xs
  count_le [] = omega arith
  count_le (x ∷ xs) = omega (arith, count_le xs, one_le (p x) (q x) (k x), sum_by-cons (λ x. cond (p x) 1 0) x xs, sum_by-cons (λ x. cond (q x) 1 0) x xs)

  count_less : (xs : List X) (i : ℕ) (d : X) → i < length xs → p (get_or xs i d) ≡ false → q (get_or xs i d) ≡ true → count_by p xs < count_by q xs
  count_less [] i d l gone was = absurd (omega arith)
  count_less (x ∷ xs) zero d l gone was =
      let a : cond {A = ℕ} (p x) 1 0 ≡ 0 = ap (λ b. cond b 1 0) gone in
      let c : cond {A = ℕ} (q x) 1 0 ≡ 1 = ap (λ b. cond b 1 0) was in
      omega (arith, count_le xs, a, c, sum_by-cons (λ x. cond (p x) 1 0) x xs, sum_by-cons (λ x. cond (q x) 1 0) x xs)
  count_less (x ∷ xs) (suc i) d l gone was =
      omega (arith, count_less xs i d (omega arith) gone was, one_le (p x) (q x) (k x), sum_by-cons (λ x. cond (p x) 1 0) x xs, sum_by-cons (λ x. cond (q x) 1 0) x xs)

-- the keys from a child's on
abbrev pub left_from : LockKey → List ℕ → List PlainKey → ℕ
left_from at from keys = count_by (λ k. is_le (key_cmp (ChildKey at.store at.id from) k)) keys

pub fewer_left : (m : ItemMap) (at : LockKey) (from name : List ℕ) (keys : List PlainKey) → IsFirstChild m at from (Some name) → Contains keys (ChildKey at.store at.id name)
    → left_from at (name ++ 0 ∷ []) keys < left_from at from keys
fewer_left m at from name keys f h =
    count_less (λ k. is_le (key_cmp (ChildKey at.store at.id (name ++ 0 ∷ [])) k)) (λ k. is_le (key_cmp (ChildKey at.store at.id from) k)) still keys h.0 (ChildKey at.store at.id name) h.1 gone was
  where
    risen : cmp (rank (ChildKey at.store at.id from)) (rank (ChildKey at.store at.id (name ++ 0 ∷ []))) ≡ Less
    risen = children_in_order at.store at.id from (name ++ 0 ∷ []) ∙ below_next from name f.1

    still : (k : PlainKey) → is_le (key_cmp (ChildKey at.store at.id (name ++ 0 ∷ [])) k) ≡ true → is_le (key_cmp (ChildKey at.store at.id from) k) ≡ true
    still k e = up_to (rank (ChildKey at.store at.id from)) (rank k) (less_up_to (rank (ChildKey at.store at.id from)) (rank (ChildKey at.store at.id (name ++ 0 ∷ []))) (rank k) risen e)

    gone : is_le (key_cmp (ChildKey at.store at.id (name ++ 0 ∷ [])) (get_or keys h.0 (ChildKey at.store at.id name))) ≡ false
    gone = ap (λ k. is_le (key_cmp (ChildKey at.store at.id (name ++ 0 ∷ [])) k)) h.2
        ∙ not_up_to (rank (ChildKey at.store at.id (name ++ 0 ∷ []))) (rank (ChildKey at.store at.id name)) (children_in_order at.store at.id name (name ++ 0 ∷ []) ∙ below_next name name (up_to_itself name))

    was : is_le (key_cmp (ChildKey at.store at.id from) (get_or keys h.0 (ChildKey at.store at.id name))) ≡ true
    was = ap (λ k. is_le (key_cmp (ChildKey at.store at.id from) k)) h.2 ∙ ap is_le (children_in_order at.store at.id from name) ∙ f.1

-- ---- one step of the loop, and its end

pub step : (m : ItemMap) (at : LockKey) (from next name : List ℕ) (names more : List (List ℕ)) (found : Option (List ℕ))
    → AreBefore m at from names → found ≡ Some name → IsFirstChild m at from found → next ≡ name ++ 0 ∷ [] → more ≡ names ++ name ∷ [] → AreBefore m at next more
step m at from next name names more found b is f next_is more_is =
    subst (λ z. AreBefore m at z more) (sym next_is) (subst (AreBefore m at (name ++ 0 ∷ [])) (sym more_is) (one_more b (subst (IsFirstChild m at from) is f)))

pub step_smaller : (m : ItemMap) (at : LockKey) (from next name : List ℕ) (keys : List PlainKey) (found : Option (List ℕ))
    → found ≡ Some name → IsFirstChild m at from found → IfSome found (λ (x : List ℕ). Contains keys (ChildKey at.store at.id x)) → next ≡ name ++ 0 ∷ [] → left_from at next keys < left_from at from keys
step_smaller m at from next name keys found is f listed next_is =
    subst (λ z. left_from at z keys < left_from at from keys) (sym next_is)
    (fewer_left m at from name keys (subst (IsFirstChild m at from) is f) (subst (λ o. IfSome o (λ (x : List ℕ). Contains keys (ChildKey at.store at.id x))) is listed))

pub ended : (m : ItemMap) (at : LockKey) (from : List ℕ) (names all : List (List ℕ)) (found : Option (List ℕ))
    → AreBefore m at from names → found ≡ None → IsFirstChild m at from found → all ≡ names → AreChildren m at all
ended m at from names all found b is f all_is = subst (AreChildren m at) (sym all_is) (all_children b (subst (IsFirstChild m at from) is f))
