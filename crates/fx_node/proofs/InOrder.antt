-- The tombstones of a portion are items, and in order.
use Rattle.std.proofs.Common.{◌≡◌, ℕ, suc, ◌+◌, ◌<◌, ◌≤◌, ◌++◌, List, [], ◌∷◌, length, map, length-append, refl, sym, ap, subst, ◌∙◌, arith, Bool, true, false}
use Rattle.std.specs.Prelude.{All, Some, slice_get, IsTrue}
use Rattle.std.specs.Ordering.{is_le, is_lt, nat_cmp, ordering_then}
use Rattle.std.specs.declared.cmp.Ordering.{Ordering}
use Rattle.std.specs.declared.cmp.Ordering.TheVariants.{Less, Equal}
use Rattle.std.proofs.lemmas.Bool.{and_from}
use Rattle.std.proofs.lemmas.Cmp.{nat_cmp_total, tied_itself}
use Rattle.std.proofs.lemmas.List.{length-map}
use Rattle.std.proofs.lemmas.List.Elements.{All-cons, All-nil}
use Rattle.fx_item.specs.Item.{PlainKey, ObjectKey, AttributeKey, GraveKey, PlainItem, IsItem}
use Rattle.fx_item.specs.Name.{is_name, name_cmp}
use Rattle.fx_item.specs.Order.{is_ascending, may_follow}
use Rattle.fx_item.specs.Place.{Place, Upto, begins, ends, file_place, key_place, number_cmp}
use Rattle.fx_item.proofs.Between.{nat_less}
use Rattle.fx_item.proofs.Covered.{file_upto}
use Rattle.fx_dir.proofs.Order.{cmp}
use Rattle.fx_item.proofs.Keys.{order_holds}
use Rattle.fx_item.proofs.Follow.{follow_holds}
use Rattle.fx_item.proofs.PlaceOrder.{below_upto, le_upto, upto_itself, upto_le, upto_upto}
use Rattle.fx_namespace.specs.Nodes.{NodeId}
use Rattle.fx_contents.specs.Points.{Points}
use Rattle.fx_node.specs.Portions.{TakesPart, SomeNames, AllNames, attribute_gone, gone, portion_items, run_gone, when}
use Rattle.fx_node.specs.Waiting.{HasNumbers}
use Rattle.fx_node.specs.declared.holding.BlockRun.{BlockRun}
use Rattle.fx_node.proofs.Attributes.{in_order}

-- ---- items one behind the other, from one place on and up to another

abbrev pub LieIn : Place → Place → List PlainItem → Type 0
LieIn low high [] = Upto low high
LieIn low high (x ∷ xs) = IsItem x × Upto low (begins x.key) × LieIn (ends x.key) high xs

lie_from : (low from high : Place) (xs : List PlainItem) → Upto low from → LieIn from high xs → LieIn low high xs
lie_from low from high [] u l = upto_upto u l
lie_from low from high (x ∷ xs) u l = (l.0, upto_upto u l.1, l.2)

lie_append : (low mid high : Place) (xs ys : List PlainItem) → LieIn low mid xs → LieIn mid high ys → LieIn low high (xs ++ ys)
lie_append low mid high [] ys l h = lie_from low mid high ys l h
lie_append low mid high (x ∷ xs) ys l h = (l.0, l.1, lie_append (ends x.key) mid high xs ys l.2 h)

lie_each : (low high : Place) (xs : List PlainItem) → LieIn low high xs → All IsItem xs
lie_each low high [] l = All-nil IsItem
lie_each low high (x ∷ xs) l = All-cons IsItem x xs l.0 (lie_each (ends x.key) high xs l.2)

lie_ascend : (low high : Place) (xs : List PlainItem) → LieIn low high xs → is_ascending xs ≡ true
lie_ascend low high [] l = refl
lie_ascend low high (x ∷ []) l = refl
lie_ascend low high (x ∷ y ∷ rest) l =
    and_from (may_follow x.key y.key) (is_ascending (y ∷ rest)) (follow_holds x.key y.key l.0.key l.2.0.key ∙ upto_le l.2.1) (lie_ascend (ends x.key) high (y ∷ rest) l.2)

-- ---- the kinds of one node

same_cmp : (a b : ℕ) → a ≡ b → nat_cmp a b ≡ Equal
same_cmp a b e = ap (nat_cmp a) (sym e) ∙ tied_itself nat_cmp_total a

kinds_upto : (a b : Place) → a.tree ≡ b.tree → a.store ≡ b.store → a.id ≡ b.id → a.kind < b.kind → Upto a b
kinds_upto a b t s i k = below_upto (record { holds = skip a.tree b.tree _ t ∙ skip a.store b.store _ s ∙ skip a.id b.id _ i ∙ ap (λ o. ordering_then o (number_cmp a b)) (nat_less a.kind b.kind k) })
  where
    skip : (a b : ℕ) (o : Ordering) → a ≡ b → ordering_then (nat_cmp a b) o ≡ o
    skip a b o e = ap (λ r. ordering_then r o) (same_cmp a b e)

first_in : (s i : ℕ) (name : List ℕ) → Upto (key_place s i 2 [] 0) (key_place s i 2 name 0)
first_in s i name = le_upto (ap is_le (sym (order_holds (AttributeKey s i []) (AttributeKey s i name) refl refl) ∙ in_order s i [] name) ∙ nothing_first name)
  where
    nothing_first : (name : List ℕ) → is_le (cmp [] name) ≡ true
    nothing_first [] = refl
    nothing_first (x ∷ xs) = refl

module _ (node : NodeId) (fits : HasNumbers node) where
  -- from the kind of a node on
  abbrev from_kind : ℕ → Place
  from_kind k = key_place node.store node.id k [] 0

  when_lies : (last : Bool) (key : PlainKey) → IsItem (gone key) → (k l : ℕ) → Upto (from_kind k) (begins key) → Upto (ends key) (from_kind l) → Upto (from_kind k) (from_kind l) → LieIn (from_kind k) (from_kind l) (when last (gone key))
  when_lies false key good k l a b c = c
  when_lies true key good k l a b c = (good, a, b)

  names_rise : (a b : List ℕ) → IsTrue (is_name a) → IsTrue (is_name b) → name_cmp a b ≡ Less → Upto (ends (AttributeKey node.store node.id a)) (begins (AttributeKey node.store node.id b))
  names_rise a b x y l = le_upto (sym (follow_holds (AttributeKey node.store node.id a) (AttributeKey node.store node.id b) (fits.store, fits.id, x) (fits.store, fits.id, y))
      ∙ and_from (is_lt _) true (ap is_lt (in_order node.store node.id a b ∙ l)) refl)

  names_lie : (low : Place) (names : List (List ℕ)) → ((i : ℕ) (name : List ℕ) → slice_get names i ≡ Some name → IsTrue (is_name name))
      → ((i j : ℕ) (x y : List ℕ) → i < j → slice_get names i ≡ Some x → slice_get names j ≡ Some y → name_cmp x y ≡ Less)
      → ((name : List ℕ) → slice_get names 0 ≡ Some name → Upto low (begins (AttributeKey node.store node.id name)))
      → Upto low (from_kind 3) → LieIn low (from_kind 3) (map (attribute_gone node) names)
  names_lie low [] good rising first end = end
  names_lie low (a ∷ names) good rising first end = (
    record { key = (fits.store, fits.id, good 0 a refl); value = tt },
    first a refl,
    names_lie (ends (AttributeKey node.store node.id a)) names (λ i x g. good (suc i) x g) (λ i j x y l g h. rising (suc i) (suc j) x y (omega (arith, l)) g h)
        (λ b g. names_rise a b (good 0 a refl) (good 1 b g) (rising 0 1 a b (omega arith) refl g))
        (kinds_upto (ends (AttributeKey node.store node.id a)) (from_kind 3) refl refl refl (omega arith)),
  )

  runs_lie : (low : Place) (runs : List BlockRun) → ((i : ℕ) (run : BlockRun) → slice_get runs i ≡ Some run → (run.start < run.end) × (run.end ≤ 4096))
      → ((i j : ℕ) (x y : BlockRun) → i < j → slice_get runs i ≡ Some x → slice_get runs j ≡ Some y → x.end ≤ y.start)
      → ((run : BlockRun) → slice_get runs 0 ≡ Some run → Upto low (file_place node.store node.id run.start))
      → Upto low (from_kind 5) → LieIn low (from_kind 5) (map (run_gone node) runs)
  runs_lie low [] good rising first end = end
  runs_lie low (r ∷ runs) good rising first end = (
    record { key = (fits.store, fits.id, ((good 0 r refl).0, (good 0 r refl).1)); value = tt },
    first r refl,
    runs_lie (file_place node.store node.id r.end) runs (λ i x g. good (suc i) x g) (λ i j x y l g h. rising (suc i) (suc j) x y (omega (arith, l)) g h)
        (λ b g. file_upto node.store node.id r.end b.start (rising 0 1 r b (omega arith) refl g))
        (kinds_upto (file_place node.store node.id r.end) (from_kind 5) refl refl refl (omega arith)),
  )

  module _ {m : Points} {names : List (List ℕ)} {runs : List BlockRun} {last : Bool} (t : TakesPart m node names runs last) where
    names_in : LieIn (from_kind 2) (from_kind 3) (map (attribute_gone node) names)
    names_in = names_by t
      where
        first_name : (name : List ℕ) → Upto (from_kind 2) (begins (AttributeKey node.store node.id name))
        first_name name = first_in node.store node.id name

        names_by : {runs : List BlockRun} {last : Bool} → TakesPart m node names runs last → LieIn (from_kind 2) (from_kind 3) (map (attribute_gone node) names)
        names_by (SomeNames f none) = names_lie (from_kind 2) names (λ i x g. (f.there i x g).1) f.rising (λ name g. first_name name) (kinds_upto (from_kind 2) (from_kind 3) refl refl refl (omega arith))
        names_by (AllNames l f rest) = names_lie (from_kind 2) names (λ i x g. (f.there i x g).1) f.rising (λ name g. first_name name) (kinds_upto (from_kind 2) (from_kind 3) refl refl refl (omega arith))

    runs_in : LieIn (from_kind 3) (from_kind 5) (map (run_gone node) runs)
    runs_in = runs_by t
      where
        first_run : (run : BlockRun) → Upto (from_kind 3) (file_place node.store node.id run.start)
        first_run run = file_upto node.store node.id 0 run.start (omega arith)

        runs_by : {runs : List BlockRun} {last : Bool} → TakesPart m node names runs last → LieIn (from_kind 3) (from_kind 5) (map (run_gone node) runs)
        runs_by (SomeNames f none) = subst (λ rs. LieIn (from_kind 3) (from_kind 5) (map (run_gone node) rs)) (sym none) (kinds_upto (from_kind 3) (from_kind 5) refl refl refl (omega arith))
        runs_by (AllNames l f rest) = runs_lie (from_kind 3) _ (λ i x g. ((rest.there i x g).some, (rest.there i x g).most)) rest.apart (λ run g. first_run run) (kinds_upto (from_kind 3) (from_kind 5) refl refl refl (omega arith))

    lies : LieIn (from_kind 1) (from_kind 6) (portion_items node last names runs)
    lies = lie_append (from_kind 1) (from_kind 5) (from_kind 6) _ _
        (lie_append (from_kind 1) (from_kind 3) (from_kind 5) _ _
        (lie_append (from_kind 1) (from_kind 2) (from_kind 3) _ _
        (when_lies last (ObjectKey node.store node.id) (record { key = (fits.store, fits.id); value = tt }) 1 2 (upto_itself (from_kind 1))
        (kinds_upto (ends (ObjectKey node.store node.id)) (from_kind 2) refl refl refl (omega arith)) (kinds_upto (from_kind 1) (from_kind 2) refl refl refl (omega arith)))
        names_in)
        runs_in)
        (when_lies last (GraveKey node.store node.id) (record { key = (fits.store, fits.id); value = tt }) 5 6 (upto_itself (from_kind 5))
        (kinds_upto (ends (GraveKey node.store node.id)) (from_kind 6) refl refl refl (omega arith)) (kinds_upto (from_kind 5) (from_kind 6) refl refl refl (omega arith)))

    pub portion_each : All IsItem (portion_items node last names runs)
    portion_each = lie_each (from_kind 1) (from_kind 6) _ lies

    pub portion_ascends : is_ascending (portion_items node last names runs) ≡ true
    portion_ascends = lie_ascend (from_kind 1) (from_kind 6) _ lies

    pub portion_few : length (portion_items node last names runs) ≤ 258
    portion_few = few_by t
      where
        one : (b : Bool) (x : PlainItem) → length (when b x) ≤ 1
        one true x = omega arith
        one false x = omega arith

        sizes : (runs : List BlockRun) (last : Bool) → length names + length runs ≤ 256 → length (portion_items node last names runs) ≤ 258
        sizes runs last h = omega (
          arith,
          h,
          one last (gone (ObjectKey node.store node.id)),
          one last (gone (GraveKey node.store node.id)),
          length-append (when last (gone (ObjectKey node.store node.id)) ++ map (attribute_gone node) names ++ map (run_gone node) runs) (when last (gone (GraveKey node.store node.id))),
          length-append (when last (gone (ObjectKey node.store node.id)) ++ map (attribute_gone node) names) (map (run_gone node) runs),
          length-append (when last (gone (ObjectKey node.store node.id))) (map (attribute_gone node) names),
          length-map names (attribute_gone node),
          length-map runs (run_gone node),
        )

        few_by : {runs : List BlockRun} {last : Bool} → TakesPart m node names runs last → length (portion_items node last names runs) ≤ 258
        few_by {runs} {last} (SomeNames f none) = sizes runs last (omega (arith, f.few, ap length none))
        few_by {runs} {last} (AllNames l f rest) = sizes runs last (omega (arith, f.few, rest.few))
