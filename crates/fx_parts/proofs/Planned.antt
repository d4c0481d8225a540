-- A planned step is done on the tree that the items make, and its items make the tree after it.
use Rattle.std.proofs.Common.{◌≡◌, ◌≢◌, inl, inr, ℕ, ◌+◌, ◌≤◌, Bool, true, false, cond, List, [], ◌∷◌, ◌++◌, Option, Some, None, refl, sym, ap, subst, ◌∙◌, arith, length, append_assoc}
use Rattle.std.specs.Prelude.{Result, Ok, Err, option_and_then, option_map}
use Rattle.std.specs.FinMap.{get, insert, empty}
use Rattle.std.proofs.lemmas.Bool.{le-ltb}
use Rattle.std.proofs.lemmas.List.{append-nil}
use Rattle.fx_item.specs.Item.{ObjectKey, PlainItem}
use Rattle.fx_item.specs.Look.{after, value_of_entry}
use Rattle.fx_item.specs.Overlay.{AtKey}
use Rattle.fx_plain.specs.Bare.{bare, bare_node}
use Rattle.fx_plain.specs.Node.{Attributes, Contents, Dir, File, Node, empty_dir, empty_file, no_contents, written}
use Rattle.fx_plain.specs.Table.{do_step, obstacle, or_else, place, walk, walk_from, write_at}
use Rattle.fx_plain.specs.Tree.{IsDirAt, IsTree, Tree}
use Rattle.fx_plain.specs.declared.contents.TheConstants.{MAX_FILE}
use Rattle.fx_plain.specs.declared.kind.Kind.{Kind}
use Rattle.fx_plain.specs.declared.kind.Kind.TheVariants as kinds
use Rattle.fx_plain.specs.declared.step.Answer.{Answer}
use Rattle.fx_plain.specs.declared.step.Answer.TheVariants.{Done}
use Rattle.fx_plain.specs.declared.step.Refusal.{Refusal}
use Rattle.fx_plain.specs.declared.step.Refusal.TheVariants.{TooLong}
use Rattle.fx_plain.specs.declared.step.Step.{Step}
use Rattle.fx_plain.specs.declared.step.Step.TheVariants.{Mkdir, Create, Write}
use Rattle.fx_plain.proofs.Bare.{bare-insert, get-bare, write_made}
use Rattle.fx_namespace.specs.Changes.{IsFreshNode, IsPlaceFor}
use Rattle.fx_namespace.specs.Commits.{IsFileAt, IsNextNode, new_items, new_value, written_items}
use Rattle.fx_namespace.specs.Nodes.{NodeId, Stands, is_root, led_to, node_at, node_from, object_kind, root_node, told_kind}
use Rattle.fx_namespace.specs.Trees.{Holdings, IsTreeOf, node_of, shown}
use Rattle.fx_namespace.specs.Trees as holdings
use Rattle.fx_namespace.specs.Wrong.{MayLead}
use Rattle.fx_namespace.proofs.Commits.{new_gains, written_stands, written_tree}
use Rattle.fx_namespace.proofs.Gained as gained
use Rattle.fx_namespace.proofs.Trees.{is_tree, shown_inner}
use Rattle.fx_namespace.proofs.Walks.{EndsWith, ends_with, last_step, node_from-append, object_value, root_not_led}
use Rattle.fx_parts.specs.Live.{IsUnusedNode, LiveMap, MakesNames, laid_over, name_map}
use Rattle.fx_parts.specs.Parts.{IsGivenNode, Reservation}
use Rattle.fx_parts.specs.Plans.{DoesStep, IsPlanOf, IsRoomFor, PlansDirectory, PlansFile, PlansWrite}
use Rattle.fx_parts.proofs.Lives.{names_after}

-- ---- a tree and its bare tree

bare_dir : (there : Option Node) (attributes : Attributes) → option_map bare_node there ≡ Some (Dir attributes) → there ≡ Some (Dir attributes)
bare_dir None attributes e = absurd (cc)
bare_dir (Some (Dir a)) attributes e = e
bare_dir (Some (File c a)) attributes e = absurd (cc)

bare_file : (there : Option Node) (contents : Contents) (attributes : Attributes) → option_map bare_node there ≡ Some (File contents attributes) → (c : Contents) × (a : Attributes) × (there ≡ Some (File c a))
bare_file None contents attributes e = absurd (cc)
bare_file (Some (Dir a)) contents attributes e = absurd (cc)
bare_file (Some (File c a)) contents attributes e = (c, a, refl)

bare_none : (there : Option Node) → option_map bare_node there ≡ None → there ≡ None
bare_none None e = refl
bare_none (Some node) e = absurd (cc)

tree_of_bare : (t : Tree) → IsTree (bare t) → IsTree t
tree_of_bare t k = record {
  top = bare_dir (get t []) _ (sym (get-bare t []) ∙ k.top);
  above = λ path name node e.
      let d = k.above path name (bare_node node) (get-bare t (path ++ name ∷ []) ∙ ap (option_map bare_node) e) in
      (d.0, bare_dir (get t path) d.0 (sym (get-bare t path) ∙ d.1));
}

-- ---- nothing is in the way below a directory of a tree

module _ (t : Tree) (k : IsTree t) where
  dir_before : (before rest : List (List ℕ)) → IsDirAt t (before ++ rest) → IsDirAt t before
  dir_before before [] d = (d.0, ap (get t) (sym (append-nil before)) ∙ d.1)
  dir_before before (name ∷ rest) d =
      let below = dir_before (before ++ name ∷ []) rest (d.0, ap (get t) (append_assoc before (name ∷ []) rest) ∙ d.1) in
      k.above before name (Dir below.0) below.1

  clear_from : (before rest : List (List ℕ)) (name : List ℕ) → IsDirAt t (before ++ rest) → walk_from t before (rest ++ name ∷ []) ≡ None
  clear_from before [] name d = ap (λ o. or_else (obstacle o) None) (ap (get t) (sym (append-nil before)) ∙ d.1)
  clear_from before (x ∷ rest) name d =
      let here = dir_before before (x ∷ rest) d in
      ap (λ o. or_else (obstacle o) (walk_from t (before ++ x ∷ []) (rest ++ name ∷ []))) here.1
      ∙ clear_from (before ++ x ∷ []) rest name (d.0, ap (get t) (append_assoc before (x ∷ []) rest) ∙ d.1)

  clear : (above : List (List ℕ)) (name : List ℕ) → IsDirAt t above → walk t (above ++ name ∷ []) ≡ None
  clear above name d = clear_from [] above name d

-- ---- steps that are done

placed : (t : Tree) (path : List (List ℕ)) (node : Node) (way : Option Refusal) (there : Option Node) → way ≡ None → there ≡ None → place t path node way there ≡ (Ok Done, insert t path node)
placed t path node way there e f = ap (λ w. place t path node w there) e ∙ ap (λ o. place t path node None o) f

mkdir_done : (t : Tree) (above : List (List ℕ)) (name : List ℕ) → walk t (above ++ name ∷ []) ≡ None → get t (above ++ name ∷ []) ≡ None → do_step t (Mkdir (above ++ name ∷ [])) ≡ (Ok Done, insert t (above ++ name ∷ []) empty_dir)
mkdir_done t [] name e f = placed t (name ∷ []) empty_dir (walk t (name ∷ [])) (get t (name ∷ [])) e f
mkdir_done t (x ∷ above) name e f = placed t (x ∷ above ++ name ∷ []) empty_dir (walk t (x ∷ above ++ name ∷ [])) (get t (x ∷ above ++ name ∷ [])) e f

create_done : (t : Tree) (above : List (List ℕ)) (name : List ℕ) → above ≢ [] → walk t (above ++ name ∷ []) ≡ None → get t (above ++ name ∷ []) ≡ None → do_step t (Create (above ++ name ∷ [])) ≡ (Ok Done, insert t (above ++ name ∷ []) empty_file)
create_done t [] name below e f = absurd (below refl)
create_done t (x ∷ []) name below e f = placed t (x ∷ name ∷ []) empty_file (walk t (x ∷ name ∷ [])) (get t (x ∷ name ∷ [])) e f
create_done t (x ∷ y ∷ above) name below e f = placed t (x ∷ y ∷ above ++ name ∷ []) empty_file (walk t (x ∷ y ∷ above ++ name ∷ [])) (get t (x ∷ y ∷ above ++ name ∷ [])) e f

write_done : (t : Tree) (path : List (List ℕ)) (at : ℕ) (text : List ℕ) (contents : Contents) (attributes : Attributes) → walk t path ≡ None → get t path ≡ Some (File contents attributes) → at + length text ≤ MAX_FILE
    → (do_step t (Write path at text)).0 ≡ Ok Done
write_done t path at text contents attributes e f small =
    ap (λ w. (write_at t path at text w (get t path)).0) e ∙ ap (λ o. (write_at t path at text None o).0) f
    ∙ ap (λ b. (let a : Result Answer Refusal × Tree = cond b (Err TooLong, t) (Ok Done, insert t path (File (written at text contents) attributes)) in a).0) (le-ltb MAX_FILE (at + length text) small)

-- ---- what a node is in the tree

dir_shown : (h : Holdings) (node : NodeId) (b : Bool) (o : Option Kind) → cond b (Some kinds.Dir) o ≡ Some kinds.Dir → (attributes : Attributes) × (cond b (Some empty_dir) (option_map (node_of h node) o) ≡ Some (Dir attributes))
dir_shown h node true o e = (empty, refl)
dir_shown h node false None e = absurd (cc)
dir_shown h node false (Some kinds.Dir) e = (h.attributes node, refl)
dir_shown h node false (Some kinds.File) e = absurd (cc)

new_kind : (kind : Kind) → told_kind (Some (new_value kind)) ≡ Some kind
new_kind kinds.Dir = refl
new_kind kinds.File = refl

none_kind : (kind : Kind) → (let a : Option Kind = None in a ≡ Some kind) → ⊥
none_kind kind e = cc

-- the next node is one that was given
pub given_next : (r : Reservation) (parent node : NodeId) (kind : Kind) → 1 ≤ r.need.nodes → IsNextNode parent node kind r.id r.store → IsGivenNode r node
given_next r parent node kind some (inl a) = let e : node.store ≡ r.store = ap (λ (z : NodeId). z.store) a.2 in inr (ap (λ (z : NodeId). z.id) a.2, omega arith, omega arith)
given_next r parent node kind some (inr a) = let e : node.id ≡ r.id = ap (λ (z : NodeId). z.id) a.1 in inl (omega arith, omega arith)

module _ (live : LiveMap) (t : Tree) (k : MakesNames live t) where
  tree_here : IsTree t
  tree_here = tree_of_bare t (is_tree (name_map live) holdings.bare (bare t) k.stands k.tree_is)

  -- what stands after a list of items
  makes_by : (items : List PlainItem) (new : Tree) → MakesNames live t → IsTreeOf (after (name_map live) items) holdings.bare (bare new) → Stands (after (name_map live) items) → MakesNames (laid_over items live) new
  makes_by items new k tree stands =
      let path : after (name_map live) items ≡ name_map (laid_over items live) = λ i key. sym (names_after items live key) i in
      record {
        stands = subst Stands path stands;
        tree_is = subst (λ m. IsTreeOf m holdings.bare (bare new)) path tree;
      }

  -- ---- a new node

  module _ (r : Reservation) (first_id : 1 ≤ r.id) (first_store : 1 ≤ r.store) (above : List (List ℕ)) (name : List ℕ) (parent node : NodeId) (kind : Kind)
      (room : IsRoomFor (name_map live) r above name parent node kind) (unused : IsUnusedNode live node) where
    no_object : name_map live (ObjectKey node.store node.id) ≡ None
    no_object = ap value_of_entry (unused (AtKey (ObjectKey node.store node.id)) refl)

    fresh : IsFreshNode (name_map live) node
    fresh = record {
      object = no_object;
      led = λ y x f. let o = k.stands.objects y x node f in none_kind o.0 (sym (ap told_kind no_object) ∙ o.1);
    }

    lead_by : IsNextNode parent node kind r.id r.store → MayLead parent node
    lead_by (inl a) = let e : node.store ≡ r.store = ap (λ (z : NodeId). z.store) a.2 in inl (a.0, ap (λ (z : NodeId). z.id) a.2, omega arith)
    lead_by (inr a) = let e : node.id ≡ r.id = ap (λ (z : NodeId). z.id) a.1 in inr (a.0, ap (λ (z : NodeId). z.store) a.1, omega arith)

    volume_by : IsNextNode parent node kind r.id r.store → parent ≡ root_node → kind ≡ kinds.Dir
    volume_by (inl a) top = a.1
    volume_by (inr a) top = absurd (a.0 top)

    place_for : IsPlaceFor (name_map live) above parent name node kind
    place_for = record {
      way = room.way;
      dir = room.directory;
      free = room.free;
      fresh = fresh;
      lead = lead_by room.next;
      volume = volume_by room.next;
      depth = room.depth;
    }

    directory_at : IsDirAt t above
    directory_at =
        let d = dir_shown holdings.bare parent (is_root parent) (object_kind (name_map live) parent) room.directory in
        (d.0, bare_dir (get t above) d.0 (sym (get-bare t above) ∙ k.tree_is.at above ∙ ap (option_and_then (shown (name_map live) holdings.bare)) room.way ∙ d.1))

    nothing_at : get t (above ++ name ∷ []) ≡ None
    nothing_at =
        let no_way : node_at (name_map live) (above ++ name ∷ []) ≡ None =
        node_from-append (name_map live) root_node above (name ∷ []) ∙ ap (option_and_then (λ z. node_from (name_map live) z (name ∷ []))) room.way
        ∙ ap (λ o. option_and_then (λ z. node_from (name_map live) z []) (led_to o)) room.free in
        bare_none (get t (above ++ name ∷ [])) (sym (get-bare t (above ++ name ∷ [])) ∙ k.tree_is.at (above ++ name ∷ []) ∙ ap (option_and_then (shown (name_map live) holdings.bare)) no_way)

    way_clear : walk t (above ++ name ∷ []) ≡ None
    way_clear = clear t tree_here above name directory_at

    -- what stands with the new items makes the tree with the new node
    made : (x : Node) → bare_node x ≡ node_of holdings.bare node kind → MakesNames (laid_over (new_items parent name node kind) live) (insert t (above ++ name ∷ []) x)
    made x same = makes_by (new_items parent name node kind) (insert t (above ++ name ∷ []) x) k
        (subst (IsTreeOf (after (name_map live) (new_items parent name node kind)) holdings.bare)
        (sym (bare-insert t (above ++ name ∷ []) x ∙ ap (insert (bare t) (above ++ name ∷ [])) same))
        (gained.tree k.stands place_for (new_gains (name_map live) parent name node kind) (new_kind kind) holdings.bare (bare t) k.tree_is))
        (gained.stands k.stands place_for (new_gains (name_map live) parent name node kind) (new_kind kind))

  -- ---- a file that is written

  module _ (path : List (List ℕ)) (at : ℕ) (text : List ℕ) (node : NodeId) (small : at + length text ≤ MAX_FILE) (way : node_at (name_map live) path ≡ Some node)
      (kind : object_kind (name_map live) node ≡ Some kinds.File) where
    inner : node ≢ root_node
    inner top =
        let o = object_value (name_map live) node kinds.File kind in
        let reached = k.stands.reached node o.0 o.1 in
        let l = last_step (name_map live) reached.0 reached.1 node reached.2 in
        root_not_led (name_map live) k.stands l.0 reached.1 (l.2 ∙ ap Some top)

    shown_file : get (bare t) path ≡ Some (File no_contents empty)
    shown_file = k.tree_is.at path ∙ ap (option_and_then (shown (name_map live) holdings.bare)) way ∙ shown_inner (name_map live) holdings.bare node inner ∙ ap (option_map (node_of holdings.bare node)) kind

    file_at : (c : Contents) × (a : Attributes) × (get t path ≡ Some (File c a))
    file_at = bare_file (get t path) no_contents empty (sym (get-bare t path) ∙ shown_file)

    file_clear : EndsWith path → walk t path ≡ None
    file_clear (inl is) = absurd (inner (top (sym way ∙ ap (node_at (name_map live)) is)))
      where
        top : Some node ≡ Some root_node → node ≡ root_node
        top e = cc
    file_clear (inr parts) =
        let d = tree_here.above parts.0 parts.1 (File file_at.0 file_at.1) (ap (get t) (sym parts.2) ∙ file_at.2) in
        ap (walk t) parts.2 ∙ clear t tree_here parts.0 parts.1 d

    text_done : (do_step t (Write path at text)).0 ≡ Ok Done
    text_done = write_done t path at text file_at.0 file_at.1 (file_clear (ends_with path)) file_at.2 small

    is_file : IsFileAt (name_map live) (bare t) path node
    is_file = record { way = way; contents = no_contents; attributes = empty; file = shown_file }

    pub does_write : DoesStep live t (Write path at text) (written_items node)
    does_write = record {
      done = text_done;
      makes = makes_by (written_items node) (do_step t (Write path at text)).1 k
          (subst (IsTreeOf (after (name_map live) (written_items node)) holdings.bare) (sym (write_made t path at text Done tree_here text_done).bare_kept) (written_tree k.tree_is is_file))
          (written_stands k.tree_is is_file k.stands);
    }

  -- ---- any step

  module _ (r : Reservation) (first_id : 1 ≤ r.id) (first_store : 1 ≤ r.store) (unused : (node : NodeId) → IsGivenNode r node → IsUnusedNode live node) where
    does_new : (step : Step) (above : List (List ℕ)) (name : List ℕ) (parent node : NodeId) (kind : Kind) (x : Node) → bare_node x ≡ node_of holdings.bare node kind
        → IsRoomFor (name_map live) r above name parent node kind
        → (walk t (above ++ name ∷ []) ≡ None → get t (above ++ name ∷ []) ≡ None → do_step t step ≡ (Ok Done, insert t (above ++ name ∷ []) x))
        → DoesStep live t step (new_items parent name node kind)
    does_new step above name parent node kind x same room does =
        let free = unused node (given_next r parent node kind room.given room.next) in
        let e = does (way_clear r first_id first_store above name parent node kind room free) (nothing_at r first_id first_store above name parent node kind room free) in
        record {
          done = ap (λ (p : Result Answer Refusal × Tree). p.0) e;
          makes = subst (MakesNames (laid_over (new_items parent name node kind) live)) (sym (ap (λ (p : Result Answer Refusal × Tree). p.1) e))
              (made r first_id first_store above name parent node kind room free x same);
        }

    pub does_plan : (step : Step) (items : List PlainItem) → IsPlanOf (name_map live) r step items → DoesStep live t step items
    does_plan step items (PlansDirectory above name parent node is room are) =
        subst (DoesStep live t step) (sym are) (does_new step above name parent node kinds.Dir empty_dir refl room
        (λ e f. ap (do_step t) is ∙ mkdir_done t above name e f))
    does_plan step items (PlansFile above name parent node is below room are) =
        subst (DoesStep live t step) (sym are) (does_new step above name parent node kinds.File empty_file refl room
        (λ e f. ap (do_step t) is ∙ create_done t above name below e f))
    does_plan step items (PlansWrite path at text node is small way kind are) =
        subst (DoesStep live t step) (sym are) (subst (λ z. DoesStep live t z (written_items node)) (sym is) (does_write path at text node small way kind))
