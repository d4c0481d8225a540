-- What the items of a step that is done make of a tree.
use Rattle.std.proofs.Common.{◌≡◌, ◌≢◌, inl, inr, ℕ, ◌+◌, ◌<◌, ◌≤◌, ◌^◌, Bool, true, false, cond, IsTrue, List, [], ◌∷◌, ◌++◌, sym, ap, subst, ◌∙◌, length, arith}
use Rattle.std.specs.Prelude.{Option, None, Some, All, Result, Ok, option_map}
use Rattle.std.specs.FinMap.{get}
use Rattle.std.specs.Result.{result_unwrap_or}
use Rattle.std.proofs.lemmas.List.{same_from_push}
use Rattle.fx_item.specs.Item.{PlainItem, IsNameItem}
use Rattle.fx_item.specs.Look.{ItemMap, after, after_all, next_id, next_store}
use Rattle.fx_item.specs.Name.{is_name}
use Rattle.fx_item.specs.Order.{is_ascending}
use Rattle.fx_plain.specs.Bare.{IsPlaced, IsWritten, bare, bare_node}
use Rattle.fx_plain.specs.Node.{Attributes, Node, Dir, File, empty_dir, empty_file, no_contents}
use Rattle.fx_plain.specs.Table.{do_all, do_step, go_on}
use Rattle.fx_plain.specs.Tree.{IsTree, Tree}
use Rattle.fx_plain.specs.declared.kind.Kind.{Kind}
use Rattle.fx_plain.specs.declared.kind.Kind.TheVariants as kinds
use Rattle.fx_plain.specs.declared.path.TheConstants.{MAX_NAMES}
use Rattle.fx_plain.specs.declared.step.Step.{Step}
use Rattle.fx_plain.specs.declared.step.Step.TheVariants.{Mkdir, Create, Write}
use Rattle.fx_plain.specs.declared.step.Answer.{Answer}
use Rattle.fx_plain.specs.declared.step.Refusal.{Refusal}
use Rattle.fx_plain.proofs.Bare.{get-bare, mkdir_made, create_made, write_made}
use Rattle.fx_namespace.specs.Nodes.{NodeId, is_root, node_at, root_node}
use Rattle.fx_namespace.specs.Trees.{IsTreeOf, node_of}
use Rattle.fx_namespace.specs.Trees as holdings
use Rattle.fx_namespace.specs.Commits.{IsBelow, IsFileAt, IsFreePlace, IsNextNode, LeadsAlso, new_items, written_items}
use Rattle.fx_namespace.proofs.Commits.{new_are_items, new_ascends, new_leads, new_numbers, new_stands, new_tree, node_below, root_way, written_are_items, written_ascends, written_leads, written_numbers, written_stands, written_tree}
use Rattle.fx_namespace.proofs.Trees.{is_tree}
use Rattle.fx_history.specs.declared.entry.Entry.{Entry}
use Rattle.fx_history.specs.History.{Legal, tree_after, tree_at}
use Rattle.fx_image.specs.Standing.{StandsFor, Transactions, lists_of}
use Rattle.fx_image.specs.Replay.{AreItemsOf, Replays, OfDirectory, OfFile, OfWrite}
use Rattle.fx_image.proofs.Replay.{replay_more, replay_now}

-- ---- a tree whose bare tree is one is a tree

bare_dir : (there : Option Node) (attributes : Attributes) → option_map bare_node there ≡ Some (Dir attributes) → there ≡ Some (Dir attributes)
bare_dir None attributes e = absurd (cc)
bare_dir (Some (Dir a)) attributes e = e
bare_dir (Some (File c a)) attributes e = absurd (cc)

pub tree_of_bare : (t : Tree) → IsTree (bare t) → IsTree t
tree_of_bare t k = record {
  top = bare_dir (get t []) _ (sym (get-bare t []) ∙ k.top);
  above = λ path name node e.
      let d = k.above path name (bare_node node) (get-bare t (path ++ name ∷ []) ∙ ap (option_map bare_node) e) in
      (d.0, bare_dir (get t path) d.0 (sym (get-bare t path) ∙ d.1));
}

-- ---- a new node

-- the place that a step found is free in the bare tree
place_of : (m : ItemMap) (t : Tree) (above : List (List ℕ)) (name : List ℕ) (parent : NodeId) (node : Node) (new : Tree) → length above < MAX_NAMES → node_at m above ≡ Some parent
    → IsPlaced t (above ++ name ∷ []) node new → IsFreePlace m (bare t) above parent name
place_of m t above name parent node new depth way made =
    let same : made.above ≡ above = sym (same_from_push above made.above name made.name made.path_is).0 in
    record {
      way = way;
      attributes = made.attributes;
      directory = get-bare t above ∙ ap (λ path. option_map bare_node (get t path)) (sym same) ∙ ap (option_map bare_node) made.directory;
      free = get-bare t (above ++ name ∷ []) ∙ ap (option_map bare_node) made.free;
      depth = depth;
    }

module _ (m : ItemMap) (t new : Tree) (above : List (List ℕ)) (name : List ℕ) (parent node : NodeId) (kind : Kind) (id store : ℕ)
    (s : StandsFor m (bare t)) (b : IsBelow m id store) (depth : length above < MAX_NAMES) (way : node_at m above ≡ Some parent) (next : IsNextNode parent node kind id store) (made : IsPlaced t (above ++ name ∷ []) (node_of holdings.bare node kind) new) where
  place : IsFreePlace m (bare t) above parent name
  place = place_of m t above name parent (node_of holdings.bare node kind) new depth way made

  pub new_stands_for : StandsFor (after m (new_items parent name node kind)) (bare new)
  new_stands_for = record {
    stands = new_stands s.stands s.tree_is b place next;
    tree_is = subst (IsTreeOf (after m (new_items parent name node kind)) holdings.bare) (sym made.bare_inserted) (new_tree s.stands s.tree_is b place next);
  }

  pub new_also : LeadsAlso m (after m (new_items parent name node kind)) (above ++ name ∷ []) node
  new_also = new_leads s.stands s.tree_is b place next

-- ---- a file that is written

module _ (m : ItemMap) (t new : Tree) (path : List (List ℕ)) (at : ℕ) (text : List ℕ) (node : NodeId)
    (s : StandsFor m (bare t)) (way : node_at m path ≡ Some node) (w : IsWritten t path at text new) where
  file : IsFileAt m (bare t) path node
  file = record { way = way; contents = no_contents; attributes = w.attributes; file = get-bare t path ∙ ap (option_map bare_node) w.file }

  pub written_stands_for : StandsFor (after m (written_items node)) (bare new)
  written_stands_for = record {
    stands = written_stands s.tree_is file s.stands;
    tree_is = subst (IsTreeOf (after m (written_items node)) holdings.bare) (sym w.bare_kept) (written_tree s.tree_is file);
  }

  pub written_same : (other : List (List ℕ)) → node_at (after m (written_items node)) other ≡ node_at m other
  written_same = written_leads s.tree_is file

-- ---- a step that is done

-- what is made of a tree by a step that is done
abbrev Done : Tree → Step → Type 0
Done t step = (answer : Answer) × ((do_step t step).0 ≡ Ok answer)

-- the tree after a step that is done
abbrev new_of : Tree → Step → Tree
new_of t step = (do_step t step).1

made_dir : (t : Tree) (path : List (List ℕ)) (step : Step) → step ≡ Mkdir path → Done t step → IsPlaced t path empty_dir (new_of t step)
made_dir t path step e done = subst (λ (x : Step). Done t x → IsPlaced t path empty_dir (new_of t x)) (sym e) (λ d. mkdir_made t path d.0 d.1) done

made_file : (t : Tree) (path : List (List ℕ)) (step : Step) → step ≡ Create path → Done t step → IsPlaced t path empty_file (new_of t step)
made_file t path step e done = subst (λ (x : Step). Done t x → IsPlaced t path empty_file (new_of t x)) (sym e) (λ d. (create_made t path d.0 d.1).made) done

made_text : (t : Tree) (path : List (List ℕ)) (at : ℕ) (text : List ℕ) (step : Step) → IsTree t → step ≡ Write path at text → Done t step → IsWritten t path at text (new_of t step)
made_text t path at text step k e done = subst (λ (x : Step). Done t x → IsWritten t path at text (new_of t x)) (sym e) (λ d. write_made t path at text d.0 k d.1) done

module _ (m : ItemMap) (t : Tree) (step : Step) (items : List PlainItem) (id store : ℕ) (answer : Answer)
    (s : StandsFor m (bare t)) (b : IsBelow m id store) (done : (do_step t step).0 ≡ Ok answer) where
  -- its items stand for the tree after it
  pub step_stands_for : AreItemsOf m id store step items → StandsFor (after m items) (bare (do_step t step).1)
  step_stands_for (OfDirectory above name parent node e named depth way next is) =
      subst (λ (xs : List PlainItem). StandsFor (after m xs) (bare (do_step t step).1)) (sym is)
      (new_stands_for m t (do_step t step).1 above name parent node kinds.Dir id store s b depth way next (made_dir t (above ++ name ∷ []) step e (answer, done)))
  step_stands_for (OfFile above name parent node e named depth way next is) =
      subst (λ (xs : List PlainItem). StandsFor (after m xs) (bare (do_step t step).1)) (sym is)
      (new_stands_for m t (do_step t step).1 above name parent node kinds.File id store s b depth way next (made_file t (above ++ name ∷ []) step e (answer, done)))
  step_stands_for (OfWrite path at text node e way is) =
      subst (λ (xs : List PlainItem). StandsFor (after m xs) (bare (do_step t step).1)) (sym is)
      (written_stands_for m t (do_step t step).1 path at text node s way (made_text t path at text step (tree_of_bare t (is_tree m holdings.bare (bare t) s.stands s.tree_is)) e (answer, done)))

-- ---- where paths lead then

module _ (m : ItemMap) (t : Tree) (above : List (List ℕ)) (name : List ℕ) (parent node : NodeId) (id store : ℕ) (answer : Answer)
    (s : StandsFor m (bare t)) (b : IsBelow m id store) (depth : length above < MAX_NAMES) (way : node_at m above ≡ Some parent) where
  pub mkdir_leads : IsNextNode parent node kinds.Dir id store → (do_step t (Mkdir (above ++ name ∷ []))).0 ≡ Ok answer → LeadsAlso m (after m (new_items parent name node kinds.Dir)) (above ++ name ∷ []) node
  mkdir_leads next done = new_also m t (new_of t (Mkdir (above ++ name ∷ []))) above name parent node kinds.Dir id store s b depth way next (mkdir_made t (above ++ name ∷ []) answer done)

  pub create_leads : IsNextNode parent node kinds.File id store → (do_step t (Create (above ++ name ∷ []))).0 ≡ Ok answer → LeadsAlso m (after m (new_items parent name node kinds.File)) (above ++ name ∷ []) node
  create_leads next done = new_also m t (new_of t (Create (above ++ name ∷ []))) above name parent node kinds.File id store s b depth way next (create_made t (above ++ name ∷ []) answer done).made

  -- the parent of a file that is made is not the root
  pub create_inner : (do_step t (Create (above ++ name ∷ []))).0 ≡ Ok answer → parent ≢ root_node
  create_inner done top =
      let c = create_made t (above ++ name ∷ []) answer done in
      c.in_volume (sym (same_from_push above c.made.above name c.made.name c.made.path_is).0 ∙ root_way m s.stands above parent way top)

pub write_leads : (m : ItemMap) (t : Tree) (path : List (List ℕ)) (at : ℕ) (text : List ℕ) (node : NodeId) (answer : Answer) → StandsFor m (bare t) → node_at m path ≡ Some node
    → (do_step t (Write path at text)).0 ≡ Ok answer → (other : List (List ℕ)) → node_at (after m (written_items node)) other ≡ node_at m other
write_leads m t path at text node answer s way done = written_same m t (new_of t (Write path at text)) path at text node s way (write_made t path at text answer (tree_of_bare t (is_tree m holdings.bare (bare t) s.stands s.tree_is)) done)

-- ---- the items are those of a record, and use the next numbers

next_fits : (parent node : NodeId) (kind : Kind) (id store : ℕ) → parent.id < id → parent.store < store → id < 2 ^ 64 → store < 2 ^ 32 → IsNextNode parent node kind id store → (node.id < 2 ^ 64) × (node.store < 2 ^ 32)
next_fits parent node kind id store low_id low_store i k (inl a) = let e : node.store ≡ store = ap (λ (z : NodeId). z.store) a.2 in let f : node.id ≡ 0 = ap (λ (z : NodeId). z.id) a.2 in (omega arith, omega arith)
next_fits parent node kind id store low_id low_store i k (inr a) = let e : node.store ≡ parent.store = ap (λ (z : NodeId). z.store) a.1 in let f : node.id ≡ id = ap (λ (z : NodeId). z.id) a.1 in (omega arith, omega arith)

then_rise : (b : Bool) (n : ℕ) → (cond b n (n + 1) ≤ n + 1) × (cond b (n + 1) n ≤ n + 1)
then_rise true n = (omega arith, omega arith)
then_rise false n = (omega arith, omega arith)

module _ (m : ItemMap) (step : Step) (items : List PlainItem) (id store : ℕ) (b : IsBelow m id store) where
  pub step_ascends : AreItemsOf m id store step items → IsTrue (is_ascending items)
  step_ascends (OfDirectory above name parent node e named depth way next is) =
      let low = node_below m id store b above parent way in
      subst (λ (xs : List PlainItem). IsTrue (is_ascending xs)) (sym is) (new_ascends parent name node kinds.Dir id store low.0 low.1 next)
  step_ascends (OfFile above name parent node e named depth way next is) =
      let low = node_below m id store b above parent way in
      subst (λ (xs : List PlainItem). IsTrue (is_ascending xs)) (sym is) (new_ascends parent name node kinds.File id store low.0 low.1 next)
  step_ascends (OfWrite path at text node e way is) = subst (λ (xs : List PlainItem). IsTrue (is_ascending xs)) (sym is) (written_ascends node)

  new_items_are : (above : List (List ℕ)) (name : List ℕ) (parent node : NodeId) (kind : Kind) → IsTrue (is_name name) → id < 2 ^ 64 → store < 2 ^ 32 → node_at m above ≡ Some parent
      → IsNextNode parent node kind id store → All IsNameItem (new_items parent name node kind)
  new_items_are above name parent node kind named i k way next =
      let low = node_below m id store b above parent way in
      let fits : (node.id < 2 ^ 64) × (node.store < 2 ^ 32) = next_fits parent node kind id store low.0 low.1 i k next in
      new_are_items parent name node kind (omega arith) (omega arith) fits.0 fits.1 named

  pub step_are_items : id < 2 ^ 64 → store < 2 ^ 32 → AreItemsOf m id store step items → All IsNameItem items
  step_are_items i k (OfDirectory above name parent node e named depth way next is) = subst (All IsNameItem) (sym is) (new_items_are above name parent node kinds.Dir named i k way next)
  step_are_items i k (OfFile above name parent node e named depth way next is) = subst (All IsNameItem) (sym is) (new_items_are above name parent node kinds.File named i k way next)
  step_are_items i k (OfWrite path at text node e way is) =
      let low = node_below m id store b path node way in
      subst (All IsNameItem) (sym is) (written_are_items node (omega arith) (omega arith))

  -- the next numbers rise by at most one
  abbrev RiseByOne : List PlainItem → Type 0
  RiseByOne xs = (next_id id xs ≤ id + 1) × (next_store store xs ≤ store + 1)

  new_rise : (above : List (List ℕ)) (name : List ℕ) (parent node : NodeId) (kind : Kind) → node_at m above ≡ Some parent → IsNextNode parent node kind id store → RiseByOne (new_items parent name node kind)
  new_rise above name parent node kind way next =
      let low = node_below m id store b above parent way in
      let e = new_numbers parent name node kind id store low.0 low.1 next in
      (omega (arith, e.0, (then_rise (is_root parent) id).0), omega (arith, e.1, (then_rise (is_root parent) store).1))

  pub step_numbers : AreItemsOf m id store step items → RiseByOne items
  step_numbers (OfDirectory above name parent node e named depth way next is) = subst RiseByOne (sym is) (new_rise above name parent node kinds.Dir way next)
  step_numbers (OfFile above name parent node e named depth way next is) = subst RiseByOne (sym is) (new_rise above name parent node kinds.File way next)
  step_numbers (OfWrite path at text node e way is) =
      let low = node_below m id store b path node way in
      let same = written_numbers node id store low.0 low.1 in
      subst RiseByOne (sym is) (omega (arith, same.0), omega (arith, same.1))

-- ---- a log with one step more

-- the tree after an entry of one step that is done
pub after_one : (t : Tree) (e : Entry) (step : Step) (answer : Answer) → e.steps ≡ step ∷ [] → (do_step t step).0 ≡ Ok answer → tree_after t e ≡ (do_step t step).1
after_one t e step answer one done =
    ap (λ (steps : List Step). result_unwrap_or (do_all t steps) t) one
    ∙ ap (λ (r : Result Answer Refusal). let all : Result Tree (ℕ × Refusal) = go_on 1 r (Ok (do_step t step).1) in result_unwrap_or all t) done

module _ (tree : Tree) (base : ℕ) (txns : Transactions) (history : List Entry) (records : List (List PlainItem)) (e : Entry) (step : Step) (items : List PlainItem) (id store : ℕ) (answer : Answer)
    (log : Replays tree base txns history records) (legal : Legal tree base history) (number : e.number ≡ base + length history + 1) (one : e.steps ≡ step ∷ [])
    (done : (do_step (tree_at tree history (base + length history)) step).0 ≡ Ok answer)
    (b : IsBelow (after_all (lists_of txns ++ records)) id store) (are : AreItemsOf (after_all (lists_of txns ++ records)) id store step items) where
  pub replay_step : Replays tree base txns (history ++ e ∷ []) (records ++ items ∷ [])
  replay_step = replay_more tree base txns history records e items log legal number
      (subst (λ (t : Tree). StandsFor (after (after_all (lists_of txns ++ records)) items) (bare t)) (sym (after_one (tree_at tree history (base + length history)) e step answer one done))
      (step_stands_for (after_all (lists_of txns ++ records)) (tree_at tree history (base + length history)) step items id store answer (replay_now tree base txns history records log) b done are))
