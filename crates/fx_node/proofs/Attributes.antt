-- The attributes of a node, found one after another.
use Rattle.std.proofs.Common.{◌≡◌, ◌≢◌, inl, inr, ℕ, ◌<◌, ◌≤◌, ◌++◌, List, [], ◌∷◌, length, refl, sym, ap, subst, ◌∙◌, arith, Bool, true, false, cond}
use Rattle.std.specs.Prelude.{Option, Some, None, is_some, not, slice_get, IsTrue, ◌==◌, ◌&&◌}
use Rattle.std.specs.Cmp.{nat_cmp_total}
use Rattle.std.specs.FinMap.{nat_cmp-IsAntisymmetric}
use Rattle.std.specs.Ordering.{is_le}
use Rattle.std.specs.declared.cmp.Ordering.TheVariants.{Less}
use Rattle.std.proofs.lemmas.Bool.{eqb-true, eq-eqb, and_parts}
use Rattle.std.proofs.lemmas.Option.{slice_get_within}
use Rattle.fx_base.proofs.Lists.{got_kept, got_last, got_split}
use Rattle.fx_base.proofs.TotalOrders as orders
use Rattle.fx_item.specs.Item.{PlainKey, ObjectKey, AttributeKey, ExtentKey, ChildKey, GraveKey, AllocationKey, PlainItem, IsKey}
use Rattle.fx_item.specs.Look.{FindsLive, IsFirstLive, is_point_key, map_of}
use Rattle.fx_item.specs.Meeting.{IsFirstKey}
use Rattle.fx_item.specs.Name.{is_name, name_cmp}
use Rattle.fx_item.specs.Order.{key_cmp}
use Rattle.fx_item.specs.Overlay.{Said, live_in}
use Rattle.fx_item.specs.Place.{Place, Upto, Below, begins, ends, place_cmp}
use Rattle.fx_item.proofs.Keys.{from_point, key_holds, order_holds}
use Rattle.fx_item.proofs.PlaceOrder.{either, le_upto, upto_le}
use Rattle.fx_dir.proofs.Order.{IsUpTo, below_next, below_or_up_to, cmp, less_up_to, not_below_itself, up_to, up_to_from_next, up_to_itself, up_to_both}
use Rattle.fx_namespace.specs.Nodes.{NodeId}
use Rattle.fx_contents.specs.Points.{Points, value_under}
use Rattle.fx_node.specs.Held.{AreFirstNames, HasAttribute, IsNextAttribute, attribute_name_at, attribute_under}
use Rattle.fx_node.proofs.Near.{near, told_by}

-- ---- where the keys of attributes lie

abbrev place_of : NodeId → List ℕ → Place
place_of at name = begins (AttributeKey at.store at.id name)

pub in_order : (s i : ℕ) (a b : List ℕ) → key_cmp (AttributeKey s i a) (AttributeKey s i b) ≡ cmp a b
in_order s i a b = orders.same_front nat_cmp_total nat_cmp-IsAntisymmetric (0 ∷ s ∷ i ∷ 2 ∷ []) a b

places_in_order : (at : NodeId) (a b : List ℕ) → place_cmp (place_of at a) (place_of at b) ≡ cmp a b
places_in_order at a b =
    sym (order_holds (AttributeKey at.store at.id a) (AttributeKey at.store at.id b) refl refl) ∙ in_order at.store at.id a b

places_up_to : (at : NodeId) (a b : List ℕ) → IsUpTo a b → Upto (place_of at a) (place_of at b)
places_up_to at a b h = le_upto (ap is_le (places_in_order at a b) ∙ h)

names_up_to : (at : NodeId) (a b : List ℕ) → Upto (place_of at a) (place_of at b) → IsUpTo a b
names_up_to at a b h = ap is_le (sym (places_in_order at a b)) ∙ upto_le h

-- ---- the first attribute, by the first item

-- it stands, and it does not
both : (m : Points) (at : NodeId) (name : List ℕ) → HasAttribute m at name → value_under m (AttributeKey at.store at.id name) ≡ None → ⊥
both m at name has none = let e : None ≡ Some has.0 = sym none ∙ has.1 in cc

module _ (said : Said) (at : NodeId) (from : List ℕ) where
  no_item : FindsLive said (place_of at from) None → IsNextAttribute (live_in said) at from None
  no_item f other has = elim (below_or_up_to from other) [
    | inl a ↦ a
    | inr a ↦ absurd (both (live_in said) at other has (key_holds said (AttributeKey at.store at.id from) None f (AttributeKey at.store at.id other) (places_up_to at from other a)))
  ]

  module _ (x : PlainItem) (f : IsFirstLive said (place_of at from) x) where
    first_key : IsFirstKey said (AttributeKey at.store at.id from) x
    first_key = key_holds said (AttributeKey at.store at.id from) (Some x) f

    -- an attribute from the name on begins with or after the first item
    after_first : (other : List ℕ) → HasAttribute (live_in said) at other → IsUpTo from other → Upto (begins x.key) (place_of at other)
    after_first other has up = elim (either (begins x.key) (place_of at other)) [
      | inl a ↦ a
      | inr a ↦ absurd (both (live_in said) at other has (first_key.first (AttributeKey at.store at.id other) (places_up_to at from other up) a))
    ]

    no_attribute : ((c : List ℕ) → x.key ≢ AttributeKey at.store at.id c) → IsNextAttribute (live_in said) at from None
    no_attribute other_key other has = elim (below_or_up_to from other) [
      | inl a ↦ a
      | inr a ↦ absurd (is_one x.key refl f.reaches (after_first other has a))
    ]
      where
        is_one : (k : PlainKey) → x.key ≡ k → Below (place_of at from) (ends k) → Upto (begins k) (place_of at other) → ⊥
        is_one (ObjectKey s i) e r u = let n = near (ObjectKey s i) (place_of at from) (place_of at other) refl refl refl refl r u in omega (arith, n.kind)
        is_one (AttributeKey s i name) e r u =
            let n = near (AttributeKey s i name) (place_of at from) (place_of at other) refl refl refl refl r u in
            other_key name (e ∙ ap (λ z. AttributeKey z i name) n.store ∙ ap (λ z. AttributeKey at.store z name) n.id)
        is_one (ExtentKey s i a b) e r u = let n = near (ExtentKey s i a b) (place_of at from) (place_of at other) refl refl refl refl r u in omega (arith, n.kind)
        is_one (ChildKey s i name) e r u = let n = near (ChildKey s i name) (place_of at from) (place_of at other) refl refl refl refl r u in omega (arith, n.kind)
        is_one (GraveKey s i) e r u = let n = near (GraveKey s i) (place_of at from) (place_of at other) refl refl refl refl r u in omega (arith, n.kind)
        is_one (AllocationKey a b) e r u = let n = near (AllocationKey a b) (place_of at from) (place_of at other) refl refl refl refl r u in omega (arith, n.tree)

    is_attribute : (name : List ℕ) → x.key ≡ AttributeKey at.store at.id name → IsNextAttribute (live_in said) at from (Some name)
    is_attribute name e = (
      (x.value, ap (map_of said) (sym e) ∙ first_key.stands (ap is_point_key e)),
      (subst IsKey e f.good.key).2,
      names_up_to at from name (subst (λ k. Upto (place_of at from) (begins k)) e (from_point x.key (AttributeKey at.store at.id from) (ap is_point_key e) f.reaches)),
      λ other has. elim (below_or_up_to from other) [
        | inl a ↦ inl a
        | inr a ↦ inr (names_up_to at name other (subst (λ k. Upto (begins k) (place_of at other)) e (after_first other has a)))
      ],
    )

    by_test : (s i : ℕ) (name : List ℕ) (b : Bool) → x.key ≡ AttributeKey s i name → (s == at.store && i == at.id) ≡ b → IsNextAttribute (live_in said) at from (cond b (Some name) None)
    by_test s i name true e t =
        let p = and_parts (s == at.store) (i == at.id) t in
        is_attribute name (e ∙ ap (λ z. AttributeKey z i name) (eqb-true s at.store p.0) ∙ ap (λ z. AttributeKey at.store z name) (eqb-true i at.id p.1))
    by_test s i name false e t = no_attribute (λ c q. differs s i t (cc (sym e ∙ q)) (cc (sym e ∙ q)))
      where
        same : (at.store == at.store && at.id == at.id) ≡ true
        same = ap (λ z. z && at.id == at.id) (eq-eqb at.store at.store refl) ∙ eq-eqb at.id at.id refl

        differs : (s i : ℕ) → (s == at.store && i == at.id) ≡ false → s ≡ at.store → i ≡ at.id → ⊥
        differs s i t a b = cc (sym t ∙ ap (λ z. z == at.store && i == at.id) a ∙ ap (λ z. at.store == at.store && z == at.id) b ∙ same)

    by_key : (k : PlainKey) → x.key ≡ k → IsNextAttribute (live_in said) at from (attribute_under at k)
    by_key (ObjectKey store id) e = no_attribute (λ c q. cc (sym e ∙ q))
    by_key (AttributeKey store id name) e = by_test store id name (store == at.store && id == at.id) e refl
    by_key (ExtentKey store id start stop) e = no_attribute (λ c q. cc (sym e ∙ q))
    by_key (ChildKey store id name) e = no_attribute (λ c q. cc (sym e ∙ q))
    by_key (GraveKey store id) e = no_attribute (λ c q. cc (sym e ∙ q))
    by_key (AllocationKey start stop) e = no_attribute (λ c q. cc (sym e ∙ q))

  pub next_attribute_found : (item : Option PlainItem) → FindsLive said (place_of at from) item → IsNextAttribute (live_in said) at from (attribute_name_at at item)
  next_attribute_found None f = no_item f
  next_attribute_found (Some x) f = by_key x f x.key refl

-- ---- the attributes so far

-- the names of all attributes before a name
pub record AreAttributesBefore (m : Points) (at : NodeId) (from : List ℕ) (names : List (List ℕ)) : Type 0 where
  pub there : (i : ℕ) (name : List ℕ) → slice_get names i ≡ Some name → HasAttribute m at name × IsTrue (is_name name)
  pub all : (name : List ℕ) → HasAttribute m at name → name_cmp name from ≡ Less → (i : ℕ) × (slice_get names i ≡ Some name)
  pub below : (i : ℕ) (name : List ℕ) → slice_get names i ≡ Some name → name_cmp name from ≡ Less
  pub rising : (i j : ℕ) (x y : List ℕ) → i < j → slice_get names i ≡ Some x → slice_get names j ≡ Some y → name_cmp x y ≡ Less

none_below : (name : List ℕ) → cmp name [] ≡ Less → ⊥
none_below [] e = cc e
none_below (x ∷ name) e = cc e

pub no_attributes_before : (m : Points) (at : NodeId) (from : List ℕ) (names : List (List ℕ)) → from ≡ [] → names ≡ [] → AreAttributesBefore m at from names
no_attributes_before m at from names f e = subst (λ z. AreAttributesBefore m at z names) (sym f) (subst (AreAttributesBefore m at []) (sym e) (record {
  there = λ i name g. absurd (cc g);
  all = λ name has l. absurd (none_below name l);
  below = λ i name g. absurd (cc g);
  rising = λ i j x y l g h. absurd (cc g);
}))

module _ {m : Points} {at : NodeId} {from : List ℕ} {names : List (List ℕ)} (b : AreAttributesBefore m at from names) where
  module _ (name : List ℕ) (f : IsNextAttribute m at from (Some name)) where
    old_below : (x : List ℕ) → cmp x from ≡ Less → cmp x name ≡ Less
    old_below x l = less_up_to x from name l f.2

    among : (x : List ℕ) → HasAttribute m at x → cmp x (name ++ 0 ∷ []) ≡ Less → (i : ℕ) × (slice_get (names ++ name ∷ []) i ≡ Some x)
    among x has l = elim (f.3 x has) [
      | inl a ↦ let i = b.all x has a in (i.0, got_kept names name i.0 x i.1)
      | inr a ↦ (length names, got_last names name ∙ ap Some (up_to_both name x a (up_to_from_next x name l)))
    ]

    one_attribute : AreAttributesBefore m at (name ++ 0 ∷ []) (names ++ name ∷ [])
    one_attribute = record {
      there = λ i x g. elim (got_split names name i x g) [ inl a ↦ b.there i x a | inr a ↦ subst (λ z. HasAttribute m at z × IsTrue (is_name z)) a.1 (f.0, f.1) ];
      all = among;
      below = λ i x g. elim (got_split names name i x g) [
        | inl a ↦ below_next x name (up_to x name (old_below x (b.below i x a)))
        | inr a ↦ subst (λ z. cmp z (name ++ 0 ∷ []) ≡ Less) a.1 (below_next name name (up_to_itself name))
      ];
      rising = λ i j x y l g h. elim (got_split names name j y h) [
        | inl c ↦ elim (got_split names name i x g) [ inl a ↦ b.rising i j x y l a c | inr a ↦ absurd (omega (arith, a.0, slice_get_within names j y c, l)) ]
        | inr c ↦ elim (got_split names name i x g) [ inl a ↦ ap (cmp x) (sym c.1) ∙ old_below x (b.below i x a) | inr a ↦ absurd (omega (arith, a.0, c.0, l)) ]
      ];
    }

-- ---- one step of the loop, and its ends

module _ {m : Points} {at : NodeId} {from : List ℕ} {names : List (List ℕ)} (b : AreAttributesBefore m at from names) (found : Option (List ℕ)) (f : IsNextAttribute m at from found) where
  pub attribute_step : (next name : List ℕ) (more : List (List ℕ)) → found ≡ Some name → next ≡ name ++ 0 ∷ [] → more ≡ names ++ name ∷ [] → AreAttributesBefore m at next more
  attribute_step next name more is next_is more_is =
      subst (λ z. AreAttributesBefore m at z more) (sym next_is) (subst (AreAttributesBefore m at (name ++ 0 ∷ [])) (sym more_is) (one_attribute b name (subst (IsNextAttribute m at from) is f)))

  pub attributes_all : (most : ℕ) → length names ≤ most → found ≡ None → AreFirstNames m at most names true
  attributes_all most few is =
      let none : IsNextAttribute m at from None = subst (IsNextAttribute m at from) is f in
      record {
        there = b.there;
        rising = b.rising;
        few = few;
        every = λ q name has. b.all name has (none name has);
        full = λ q. absurd (cc q);
        left = λ q. absurd (cc q);
      }

  pub attributes_end : (most : ℕ) (all : Bool) → length names ≡ most → is_some found ≡ not all → AreFirstNames m at most names all
  attributes_end most all full e = by found refl
    where
      by : (o : Option (List ℕ)) → found ≡ o → AreFirstNames m at most names all
      by None is = subst (AreFirstNames m at most names) (sym (told_by false all (sym (ap is_some is) ∙ e))) (attributes_all most (omega (arith, full)) is)
      by (Some name) is =
          let g : IsNextAttribute m at from (Some name) = subst (IsNextAttribute m at from) is f in
          subst (AreFirstNames m at most names) (sym (told_by true all (sym (ap is_some is) ∙ e))) (record {
            there = b.there;
            rising = b.rising;
            few = omega (arith, full);
            every = λ q. absurd (cc q);
            full = λ q. full;
            left = λ q. (name, g.0, λ i h. not_below_itself name (less_up_to name from name (b.below i name h) g.2));
          })
