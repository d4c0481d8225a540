-- The plan of a move does it: what lies at a path, and all below it, lies at the other.
use Rattle.std.proofs.Common.{◌≡◌, ◌≢◌, ℕ, ◌+◌, ◌-◌, ◌≤◌, List, [], ◌∷◌, ◌++◌, length, length-append, refl, sym, ap, ◌∙◌, subst, Bool, true, false, cond, arith}
use Rattle.std.specs.Prelude.{Option, Some, None, Ok, is_some, nat_lt, ◌||◌, ◌&&◌, option_and_then}
use Rattle.std.specs.List.{list_any}
use Rattle.std.specs.Ordering.{eq_by_cmp}
use Rattle.std.specs.FinMap as finite
use Rattle.std.specs.FinMap.{get}
use Rattle.std.proofs.lemmas.Bool.{le-ltb}
use Rattle.std.proofs.lemmas.List.{append-nil}
use Rattle.fx_item.specs.Item.{PlainKey, ObjectKey, AttributeKey, ExtentKey, ChildKey, GraveKey, AllocationKey}
use Rattle.fx_item.specs.Look.{ItemMap, value_of_entry}
use Rattle.fx_item.specs.Name.{name_cmp}
use Rattle.fx_item.specs.Overlay.{AtKey, AtFileBlock, Point, Said}
use Rattle.fx_plain.specs.Node.{Attributes, Node}
use Rattle.fx_plain.specs.Table.{walk}
use Rattle.fx_plain.specs.Tree.{Tree, path_cmp}
use Rattle.fx_plain.specs.declared.kind.Kind.TheVariants.{Dir}
use Rattle.fx_plain.specs.declared.path.TheConstants.{MAX_NAMES}
use Rattle.fx_plain.specs.declared.step.Answer.TheVariants.{Done}
use Rattle.fx_namespace.specs.Nodes.{NodeId, Stands, child, kind_of, led_to, node_at, node_from, root_node, told_kind}
use Rattle.fx_namespace.specs.Trees.{IsTreeOf}
use Rattle.fx_namespace.proofs.Commits.{node_there}
use Rattle.fx_namespace.proofs.Walks.{more_step, node_from-append}
use Rattle.fx_contents.specs.Files.{byte_at}
use Rattle.fx_contents.specs.Points.{Points, block_in, device_block, entry_after, named, points_after, text_in, unless_waiting, value_under}
use Rattle.fx_contents.specs.Standing.{AreAttributesOf, AreClear, AreWithin, HasObject, StandForTree, contents_by, holdings_of}
use Rattle.fx_contents.proofs.OneTree.{tree_of}
use Rattle.fx_steps.specs.Changes.{AreInVolume}
use Rattle.fx_steps.specs.Moved.{IsMoved, has_below, lies_below, moved, rest_below}
use Rattle.fx_steps.specs.Rows.{Stepped, move_from, move_to, move_within, refuses_basic, rename_step, too_deep}
use Rattle.fx_steps.specs.declared.step.TreeStep.TheVariants.{Rename}
use Rattle.fx_plain.specs.declared.step.Refusal.TheVariants.{Exists, TooLong}
use Rattle.fx_steps.proofs.Below.{name_itself, path_itself, rest_is}
use Rattle.fx_steps.proofs.Kept.{below_is_there}
use Rattle.fx_steps.proofs.MovedTree.{moves}
use Rattle.fx_tree.specs.Plans.{IsDoneBy, PlansMove}
use Rattle.fx_tree.proofs.InTree.{free_step, lies_at, nothing_at, parent_dir, walked}
use Rattle.fx_tree.proofs.Moving.{IsMove, Renames, below_volume, stands, tree}
use Rattle.fx_tree.proofs.Ways.{same_at, same_from, same_kind}

abbrev Path : Type 0
Path = List (List ℕ)

-- ---- on the tree

renamed_step : (t : Tree) (from to : Path) (x : Node) → AreInVolume from to → walk t from ≡ None → get t from ≡ Some x → lies_below from to ≡ false
    → walk t to ≡ None → has_below t to ≡ false → too_deep t from to ≡ false → rename_step t from to ≡ (Ok Done, moved t from to)
renamed_step t [] to x v way there apart way_to free shallow = absurd (cc v.from_in)
renamed_step t (a ∷ p) [] x v way there apart way_to free shallow = absurd (cc v.to_in)
renamed_step t (a ∷ p) (b ∷ q) x v way there apart way_to free shallow =
    let one : a ≡ v.volume = cc v.from_in in
    let two : b ≡ v.volume = cc v.to_in in
    let same : eq_by_cmp name_cmp a b ≡ true = ap (eq_by_cmp name_cmp a) (two ∙ sym one) ∙ name_itself a in
    ap (λ e. move_from t (a ∷ p) (b ∷ q) e (walk t (a ∷ p)) (get t (a ∷ p))) same
    ∙ ap (λ w. move_from t (a ∷ p) (b ∷ q) true w (get t (a ∷ p))) way
    ∙ ap (move_from t (a ∷ p) (b ∷ q) true None) there
    ∙ ap (λ l. move_within t (a ∷ p) (b ∷ q) l true) apart
    ∙ ap (move_to t (a ∷ p) (b ∷ q)) way_to
    ∙ ap (λ c. cond c (refuses_basic t Exists) (cond (too_deep t (a ∷ p) (b ∷ q)) (refuses_basic t TooLong) (Ok Done, moved t (a ∷ p) (b ∷ q)))) free
    ∙ ap (λ c. cond c (refuses_basic t TooLong) (Ok Done, moved t (a ∷ p) (b ∷ q))) shallow

not_below : (from to : Path) → ((rest : Path) → to ≢ from ++ rest) → lies_below from to ≡ false
not_below from to ne = by (rest_below from to) refl
  where
    by : (o : Option Path) → rest_below from to ≡ o → is_some o ≡ false
    by None e = refl
    by (Some rest) e = absurd (ne rest (rest_is from to rest e))

or_right : (b x : Bool) → x ≡ true → (b || x) ≡ true
or_right true x e = refl
or_right false x e = e

none_pass : (f : Path → Bool) (ks : List Path) → ((k : Path) → list_any (eq_by_cmp path_cmp k) ks ≡ true → f k ≡ false) → list_any f ks ≡ false
none_pass f [] h = refl
none_pass f (k ∷ ks) h =
    ap (λ b. b || list_any f ks) (h k (ap (λ b. b || list_any (eq_by_cmp path_cmp k) ks) (path_itself k)))
    ∙ none_pass f ks (λ q e. h q (or_right (eq_by_cmp path_cmp q k) (list_any (eq_by_cmp path_cmp q) ks) e))

-- nothing comes to lie too deep
all_shallow : (t : Tree) (from to : Path) → ((rest : Path) (x : Node) → get t (from ++ rest) ≡ Some x → length (to ++ rest) ≤ MAX_NAMES) → too_deep t from to ≡ false
all_shallow t from to low = none_pass deep (finite.keys t) (λ q e. at q (get t q) refl (finite.contains_key-keys t q ∙ e))
  where
    deep : Path → Bool
    deep path = lies_below from path && nat_lt MAX_NAMES (length to + (length path - length from))

    by_rest : (q : Path) (x : Node) → get t q ≡ Some x → (o : Option Path) → rest_below from q ≡ o → (is_some o && nat_lt MAX_NAMES (length to + (length q - length from))) ≡ false
    by_rest q x is None e = refl
    by_rest q x is (Some rest) e =
        let there = rest_is from q rest e in
        let most = low rest x (ap (get t) (sym there) ∙ is) in
        le-ltb MAX_NAMES (length to + (length q - length from)) (omega (arith, length-append to rest, ap length there, length-append from rest))

    at : (q : Path) (o : Option Node) → get t q ≡ o → is_some o ≡ true → (lies_below from q && nat_lt MAX_NAMES (length to + (length q - length from))) ≡ false
    at q None is there = absurd (cc there)
    at q (Some x) is there = by_rest q x is (rest_below from q) refl

-- ---- the two places

abbrev Places : NodeId → NodeId → Type 0
Places p1 p2 = (p1 ≢ root_node) × (p2 ≢ root_node) × (p2.store ≡ p1.store)

places : (m : ItemMap) → Stands m → (a1 a2 : Path) (x1 x2 : List ℕ) (p1 p2 : NodeId) (v : List ℕ) (q1 q2 : Path) → node_at m a1 ≡ Some p1 → node_at m a2 ≡ Some p2
    → a1 ++ x1 ∷ [] ≡ v ∷ q1 → a2 ++ x2 ∷ [] ≡ v ∷ q2
    → ((r : Path) → a2 ++ x2 ∷ [] ≢ (a1 ++ x1 ∷ []) ++ r) → ((r : Path) → a1 ++ x1 ∷ [] ≢ (a2 ++ x2 ∷ []) ++ r) → Places p1 p2
places m s [] a2 x1 x2 p1 p2 v q1 q2 a b c d i o = absurd (let e : v ≡ x1 = cc (sym c) in i q2 (d ∙ ap (λ z. z ∷ q2) e))
places m s (w ∷ a1) [] x1 x2 p1 p2 v q1 q2 a b c d i o = absurd (let e : v ≡ x2 = cc (sym d) in o q1 (c ∙ ap (λ z. z ∷ q1) e))
places m s (w ∷ a1) (u ∷ a2) x1 x2 p1 p2 v q1 q2 a b c d i o =
    let e : v ≡ w = cc (sym c) in
    let g : v ≡ u = cc (sym d) in
    below_volume m s v a1 a2 p1 p2 (ap (λ z. node_at m (z ∷ a1)) e ∙ a) (ap (λ z. node_at m (z ∷ a2)) g ∙ b)

-- ---- on the items

module _ {m : Points} {f : ℕ → List ℕ} {t : Tree} {from to : Path} {said : Said} (s : StandForTree m f t) (d : PlansMove m from to said) where
  abbrev n : Points
  n = points_after m said

  way : node_at (named m) d.above ≡ Some d.parent
  way = same_at m d.above ∙ d.way

  way_to : node_at (named m) d.above_to ≡ Some d.parent_to
  way_to = same_at m d.above_to ∙ d.way_to

  led : child (named m) d.parent d.name ≡ Some d.node
  led = ap led_to d.entry

  directory : kind_of (named m) d.parent ≡ Some Dir
  directory = parent_dir s.stands s.tree_is d.parent d.name d.node led

  directory_to : kind_of (named m) d.parent_to ≡ Some Dir
  directory_to = same_kind s d.above_to d.parent_to way_to ∙ d.directory

  apart : (r : Path) → d.above_to ++ d.name_to ∷ [] ≢ (d.above ++ d.name ∷ []) ++ r
  apart r e = d.not_into r (d.to_is ∙ e ∙ ap (λ z. z ++ r) (sym d.from_is))

  led_at : node_at (named m) (d.above ++ d.name ∷ []) ≡ Some d.node
  led_at = more_step (named m) d.above d.parent d.name d.node way led

  free_at : (r : Path) → node_at (named m) ((d.above_to ++ d.name_to ∷ []) ++ r) ≡ None
  free_at r = free_step (named m) d.above_to d.parent_to d.name_to way_to d.free r

  onto : (r : Path) → d.above ++ d.name ∷ [] ≢ (d.above_to ++ d.name_to ∷ []) ++ r
  onto r e = absurd (let q : Some d.node ≡ None = sym led_at ∙ ap (node_at (named m)) e ∙ free_at r in cc q)

  not_onto : (r : Path) → from ≢ to ++ r
  not_onto r e = onto r (sym d.from_is ∙ e ∙ ap (λ z. z ++ r) d.to_is)

  two : Places d.parent d.parent_to
  two = places (named m) s.stands d.above d.above_to d.name d.name_to d.parent d.parent_to d.in_volume.volume d.in_volume.from_below d.in_volume.to_below way way_to
      (sym d.from_is ∙ d.in_volume.from_in) (sym d.to_is ∙ d.in_volume.to_in) apart onto

  is_move : IsMove (named m) d.above d.name d.parent d.above_to d.name_to d.parent_to d.node
  is_move = record {
    way = way;
    stands = led;
    way2 = way_to;
    dir = directory_to;
    free = ap led_to d.free;
    apart = apart;
    inner = two.0;
    inner2 = two.1;
    store = two.2;
    depth = λ r y e. subst (λ z. length (z ++ r) ≤ MAX_NAMES) d.to_is (d.shallow r y (sym (same_from m d.node r) ∙ e));
  }

  -- ---- all else is as before

  other : (p : Point) → p ≢ AtKey (ChildKey d.parent.store d.parent.id d.name) → p ≢ AtKey (ChildKey d.parent_to.store d.parent_to.id d.name_to) → n p ≡ m p
  other p a c = ap (λ o. entry_after o (m p)) (d.says.others p a c)

  same_object : (store id : ℕ) → value_under n (ObjectKey store id) ≡ value_under m (ObjectKey store id)
  same_object store id = ap value_of_entry (other (AtKey (ObjectKey store id)) (λ q. cc) (λ q. cc))

  same_grave : (store id : ℕ) → value_under n (GraveKey store id) ≡ value_under m (GraveKey store id)
  same_grave store id = ap value_of_entry (other (AtKey (GraveKey store id)) (λ q. cc) (λ q. cc))

  same_attribute : (store id : ℕ) (x : List ℕ) → value_under n (AttributeKey store id x) ≡ value_under m (AttributeKey store id x)
  same_attribute store id x = ap value_of_entry (other (AtKey (AttributeKey store id x)) (λ q. cc) (λ q. cc))

  same_entry : (store id k : ℕ) → n (AtFileBlock store id k) ≡ m (AtFileBlock store id k)
  same_entry store id k = other (AtFileBlock store id k) (λ q. cc) (λ q. cc)

  same_block : (y : NodeId) → device_block n y ≡ device_block m y
  same_block y = λ i k. block_in (same_entry y.store y.id k i)

  named_object : (store id : ℕ) → named n (ObjectKey store id) ≡ named m (ObjectKey store id)
  named_object store id = λ i. unless_waiting (same_grave store id i) (same_object store id i)

  same_named : (key : PlainKey) → key ≢ ChildKey d.parent.store d.parent.id d.name → key ≢ ChildKey d.parent_to.store d.parent_to.id d.name_to → named n key ≡ named m key
  same_named (ExtentKey store id start stop) a c = refl
  same_named (AllocationKey start stop) a c = refl
  same_named (ObjectKey store id) a c = named_object store id
  same_named (AttributeKey store id x) a c = refl
  same_named (ChildKey store id x) a c = ap value_of_entry (other (AtKey (ChildKey store id x)) (λ q. a (cc q)) (λ q. c (cc q)))
  same_named (GraveKey store id) a c = refl

  renames : Renames (named m) (named n) d.parent d.name d.parent_to d.name_to d.node
  renames = record {
    away = ap (λ o. value_of_entry (entry_after o (m (AtKey (ChildKey d.parent.store d.parent.id d.name))))) d.says.gone;
    entry = ap (λ o. value_of_entry (entry_after o (m (AtKey (ChildKey d.parent_to.store d.parent_to.id d.name_to))))) d.says.entry;
    others = same_named;
  }

  same_holdings : (a : NodeId → Attributes) → holdings_of n f a ≡ holdings_of m f a
  same_holdings a = λ i. record { contents = λ y. contents_by f (named_object y.store y.id i) (same_block y i); attributes = a }

  still : (store id : ℕ) → HasObject m store id → HasObject n store id
  still store id x = (x.0, ap told_kind (same_object store id) ∙ x.1)

  within : AreWithin n
  within = record {
    root = same_grave 0 0 ∙ s.within.root;
    extent = λ store id k entry e. (let x = s.within.extent store id k entry (sym (same_entry store id k) ∙ e) in (x.0, same_object store id ∙ x.1, x.2));
    grave = λ store id v e. still store id (s.within.grave store id v (sym (same_grave store id) ∙ e));
    attribute = λ store id x v e. still store id (s.within.attribute store id x v (sym (same_attribute store id x) ∙ e));
  }

  attributes_are : AreAttributesOf n s.attributes
  attributes_are = record { at = λ y x. s.attributes_are.at y x ∙ sym (λ i. text_in (unless_waiting (same_grave y.store y.id i) (same_attribute y.store y.id x i))) }

  -- ---- the tree

  nothing : (r : Path) → get t (to ++ r) ≡ None
  nothing r = ap (λ z. get t (z ++ r)) d.to_is ∙ nothing_at s.stands s.tree_is d.above_to d.parent_to d.name_to way_to d.free r

  is_moved : IsMoved (get t) (get (moved t from to)) from to
  is_moved = moves from to d.not_into not_onto t nothing

  moved_tree : IsTreeOf (named n) (holdings_of n f s.attributes) (moved t from to)
  moved_tree = subst (λ h. IsTreeOf (named n) h (moved t from to)) (sym (same_holdings s.attributes))
      (tree s.stands is_move renames (holdings_of m f s.attributes) t (moved t from to)
      (subst (λ z. IsMoved (get t) (get (moved t from to)) z (d.above_to ++ d.name_to ∷ [])) d.from_is
      (subst (λ z. IsMoved (get t) (get (moved t from to)) from z) d.to_is is_moved)) s.tree_is)

  stands_after : StandForTree n f (moved t from to)
  stands_after = record { stands = stands s.stands is_move renames; within = within; attributes = s.attributes; attributes_are = attributes_are; tree_is = moved_tree }

  below_there : (rest : Path) (x : Node) → get t (from ++ rest) ≡ Some x → length (to ++ rest) ≤ MAX_NAMES
  below_there rest x e =
      let o = node_there (named m) (holdings_of m f s.attributes) t s.tree_is (from ++ rest) x e in
      d.shallow rest o.0 (sym (same_from m d.node rest)
      ∙ sym (node_from-append (named m) root_node from rest ∙ ap (option_and_then (λ z. node_from (named m) z rest)) (ap (node_at (named m)) d.from_is ∙ led_at)) ∙ o.1)

  step_is : rename_step t from to ≡ (Ok Done, moved t from to)
  step_is =
      let lies = lies_at s.stands s.tree_is d.above d.parent d.name d.node way led in
      renamed_step t from to _ d.in_volume (ap (walk t) d.from_is ∙ walked s.stands s.tree_is d.above d.parent d.name way directory)
      (ap (get t) d.from_is ∙ lies.2) (not_below from to d.not_into)
      (ap (walk t) d.to_is ∙ walked s.stands s.tree_is d.above_to d.parent_to d.name_to way_to directory_to)
      (below_is_there t to (tree_of m f t s) ∙ ap is_some (ap (get t) (sym (append-nil to)) ∙ nothing []))
      (all_shallow t from to below_there)

  clear_after : AreClear m f → AreClear n f
  clear_after c = record { zero = λ y len i e low. ap (λ h. byte_at f h i) (same_block y) ∙ c.zero y len i (sym (named_object y.store y.id) ∙ e) low }

pub rename_does : (m : Points) (f : ℕ → List ℕ) (t : Tree) (from to : Path) (said : Said) → StandForTree m f t → PlansMove m from to said → IsDoneBy m said f t (Rename from to)
rename_does m f t from to said s d =
    let e = step_is s d in
    record {
      done = ap (λ (r : Stepped). r.0) e;
      stands = subst (λ (r : Stepped). StandForTree (points_after m said) f r.1) (sym e) (stands_after s d);
      clear = clear_after s d;
    }
