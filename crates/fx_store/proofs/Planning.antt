-- What a session knows of a step that is not refused: where its node stands, and its items.
use Rattle.std.proofs.Common.{◌≡◌, ◌≢◌, ◌⊎◌, inl, inr, ℕ, ◌<◌, ◌≤◌, true, List, [], ◌∷◌, ◌++◌, cond, refl, sym, ap, subst, ◌∙◌, length, length-append, arith}
use Rattle.std.specs.Prelude.{None, Some, Result, Ok, Err, All, ◌^◌, option_map, if◌then◌else◌}
use Rattle.std.specs.FinMap.{get, insert, get-insert}
use Rattle.std.specs.Cmp.{tied_itself}
use Rattle.std.specs.List.{AllByRecursion}
use Rattle.std.specs.Ordering.{is_eq}
use Rattle.std.specs.declared.cmp.Ordering.{Ordering}
use Rattle.std.specs.declared.cmp.Ordering.TheVariants.{Less, Equal, Greater}
use Rattle.std.proofs.lemmas.List.{same_from_push}
use Rattle.std.proofs.lemmas.Option.{same_Some}
use Rattle.fx_item.specs.Item.{PlainItem, IsNameItem, ChildKey}
use Rattle.fx_item.specs.Name.{is_name}
use Rattle.fx_item.specs.Look.{ItemMap, after}
use Rattle.fx_plain.specs.Bare.{IsPlaced, IsWritten, bare, bare_node}
use Rattle.fx_plain.specs.Node.{Node, Dir, File}
use Rattle.fx_plain.specs.Table.{do_step, refused}
use Rattle.fx_plain.specs.Tree.{Tree, path_cmp}
use Rattle.fx_plain.specs.declared.kind.Kind.{Kind}
use Rattle.fx_plain.specs.declared.kind.Kind.TheVariants as kinds
use Rattle.fx_plain.specs.declared.path.TheConstants.{MAX_NAMES}
use Rattle.fx_plain.specs.declared.step.Step.{Step}
use Rattle.fx_plain.specs.declared.step.Step.TheVariants.{Mkdir, Create, Write}
use Rattle.fx_plain.specs.declared.step.Answer.{Answer}
use Rattle.fx_plain.specs.declared.step.Refusal.{Refusal}
use Rattle.fx_plain.proofs.Bare.{get-bare, mkdir_made, create_made, write_made}
use Rattle.fx_plain.proofs.Paths.{paths_total, paths_exact}
use Rattle.fx_script.specs.Print.{IsPath}
use Rattle.fx_namespace.specs.Nodes.{NodeId, is_root, node_at, root_node}
use Rattle.fx_namespace.specs.Trees as holdings
use Rattle.fx_namespace.specs.Trees.{node_of}
use Rattle.fx_namespace.specs.Commits.{IsNextNode, LeadsAlso, id_then, store_then, new_items, written_items}
use Rattle.fx_namespace.proofs.Commits.{node_there, free_entry, node_below, new_numbers, written_numbers}
use Rattle.fx_namespace.proofs.Trees.{is_tree}
use Rattle.fx_namespace.proofs.Walks.{child_value, last_step, same_node, root_is, root_not}
use Rattle.fx_jblock.specs.declared.TheConstants.{RECORD_BYTES}
use Rattle.fx_record.specs.Record.{IsRecord, TransactionRecord, record_bytes}
use Rattle.fx_record.specs.Commits.{IsCommit}
use Rattle.fx_record.proofs.Commits.{is_record}
use Rattle.fx_record.proofs.Lengths.{few_commit, few_len, sum_text}
use Rattle.fx_image.specs.Replay.{AreItemsOf, OfDirectory, OfFile, OfWrite}
use Rattle.fx_image.proofs.ReplaySteps.{tree_of_bare, mkdir_leads, create_leads, create_inner, write_leads, step_ascends, step_are_items}
use Rattle.fx_store.specs.Nodes.{NodeTable}
use Rattle.fx_store.specs.Session.{KnowsNodes, KnowsItems, IsPlan, new_step}
use Rattle.fx_store.specs.declared.commit.Numbers.{Numbers}

abbrev Path : Type 0
Path = List (List ℕ)

-- what is not refused is done
pub done_from : (r : Result Answer Refusal) → refused r ≡ None → (answer : Answer) × (r ≡ Ok answer)
done_from (Ok answer) e = (answer, refl)
done_from (Err refusal) e = absurd (cc)

-- ---- the table with one more path

less_equal : let a : Ordering = Less in a ≡ Equal → ⊥
less_equal e = cc

greater_equal : let a : Ordering = Greater in a ≡ Equal → ⊥
greater_equal e = cc

-- what an insertion leaves at a path q
abbrev pub Left : NodeTable → Path → NodeId → Path → Type 0
Left nodes p node q = ((q ≡ p) × (get (insert nodes p node) q ≡ Some node)) ⊎ ((q ≢ p) × (get (insert nodes p node) q ≡ get nodes q))

pub left : (nodes : NodeTable) (p : Path) (node : NodeId) (q : Path) → Left nodes p node q
left nodes p node q = by_order (path_cmp q p) refl
  where
    by_order : (o : Ordering) → path_cmp q p ≡ o → Left nodes p node q
    by_order Equal e = inl (paths_exact q p e, get-insert paths_total nodes p node q ∙ ap (λ o. cond (is_eq o) (Some node) (get nodes q)) e)
    by_order Less e = inr (λ s. less_equal (sym e ∙ ap (λ x. path_cmp x p) s ∙ tied_itself paths_total p), get-insert paths_total nodes p node q ∙ ap (λ o. cond (is_eq o) (Some node) (get nodes q)) e)
    by_order Greater e = inr (λ s. greater_equal (sym e ∙ ap (λ x. path_cmp x p) s ∙ tied_itself paths_total p), get-insert paths_total nodes p node q ∙ ap (λ o. cond (is_eq o) (Some node) (get nodes q)) e)

-- It still knows the nodes where the path leads nowhere.
knows_put : (m : ItemMap) (nodes : NodeTable) (p : Path) (node : NodeId) → KnowsNodes m nodes → ((other : NodeId) → node_at m p ≡ Some other → ⊥) → KnowsNodes m (insert nodes p node)
knows_put m nodes p node k free = record {
  knows = λ q other way. elim (left nodes p node q) [
    | inl here ↦ absurd (free other (ap (node_at m) (sym here.0) ∙ way))
    | inr there ↦ there.1 ∙ k.knows q other way
  ];
}

-- It knows the nodes where the path leads to that node, and each other path where it led before.
knows_also : (m n : ItemMap) (nodes : NodeTable) (p : Path) (node : NodeId) → KnowsNodes m nodes → LeadsAlso m n p node → KnowsNodes n (insert nodes p node)
knows_also m n nodes p node k leads = record {
  knows = λ q other way. elim (left nodes p node q) [
    | inl here ↦ here.1 ∙ sym leads.new ∙ ap (node_at n) (sym here.0) ∙ way
    | inr there ↦ there.1 ∙ k.knows q other (sym (leads.others q there.0) ∙ way)
  ];
}

-- ---- a step that makes a node

bare_of : Kind → Node
bare_of kind = node_of holdings.bare root_node kind

made_by : (kind : Kind) (t : Tree) (path : Path) → refused (do_step t (new_step kind path)).0 ≡ None → IsPlaced t path (node_of holdings.bare root_node kind) (do_step t (new_step kind path)).1
made_by kinds.Dir t path e = let d = done_from (do_step t (Mkdir path)).0 e in mkdir_made t path d.0 d.1
made_by kinds.File t path e = let d = done_from (do_step t (Create path)).0 e in (create_made t path d.0 d.1).made

-- it is not the root's
pub not_empty : (kind : Kind) (t : Tree) (path : Path) → refused (do_step t (new_step kind path)).0 ≡ None → 0 < length path
not_empty kind t path e =
    let made = made_by kind t path e in
    omega (arith, ap length made.path_is, length-append made.above (made.name ∷ []))

-- the node that comes next
abbrev pub next_child : NodeId → ℕ → ℕ → NodeId
next_child parent id store = if is_root parent then record { store = store; id = 0 } else record { store = parent.store; id = id }

-- its name is one, and it is not too deep
named_last : (above : Path) (name : List ℕ) → AllByRecursion (λ (n : List ℕ). is_name n ≡ true) (above ++ name ∷ []) → is_name name ≡ true
named_last [] name h = h.0
named_last (x ∷ above) name h = named_last above name h.1

depth_of : (above : Path) (name : List ℕ) → IsPath (above ++ name ∷ []) → length above < MAX_NAMES
depth_of above name p = omega (arith, p.few, length-append above (name ∷ []))

module _ (m : ItemMap) (t : Tree) (nodes : NodeTable) (n : Numbers) (k : KnowsItems m t nodes n) (kind : Kind) (above : Path) (name : List ℕ) (p : IsPath (above ++ name ∷ [])) (e : refused (do_step t (new_step kind (above ++ name ∷ []))).0 ≡ None) where
  abbrev path : Path
  path = above ++ name ∷ []

  made : IsPlaced t path (node_of holdings.bare root_node kind) (do_step t (new_step kind path)).1
  made = made_by kind t path e

  same_above : made.above ≡ above
  same_above = sym (same_from_push above made.above name made.name made.path_is).0

  -- the table has the directory's node
  pub parent_known : (parent : NodeId) × (node_at m above ≡ Some parent) × (get nodes above ≡ Some parent)
  parent_known =
      let there : get (bare t) above ≡ Some (Dir made.attributes) =
      get-bare t above ∙ ap (λ (q : Path). option_map bare_node (get t q)) (sym same_above) ∙ ap (option_map bare_node) made.directory in
      let found = node_there m holdings.bare (bare t) k.stands.tree_is above (Dir made.attributes) there in
      (found.0, found.1, k.knows.knows above found.0 found.1)

  free : get (bare t) path ≡ None
  free = get-bare t path ∙ ap (option_map bare_node) made.free

  module _ (parent : NodeId) (got : get nodes above ≡ Some parent) where
    way : node_at m above ≡ Some parent
    way = parent_known.1 ∙ sym parent_known.2 ∙ got

    -- the path leads nowhere
    nowhere : (other : NodeId) → node_at m path ≡ Some other → ⊥
    nowhere other leads =
        let l = last_step m above name other leads in
        let same : l.0 ≡ parent = same_Some l.0 parent (sym l.1 ∙ way) in
        let stands : m (ChildKey l.0.store l.0.id name) ≡ Some _ = child_value m l.0 name other l.2 in
        let none : m (ChildKey parent.store parent.id name) ≡ None = free_entry m holdings.bare (bare t) k.stands.tree_is k.stands.stands above name parent way free in
        let none_there : m (ChildKey l.0.store l.0.id name) ≡ None = ap (λ (n : NodeId). m (ChildKey n.store n.id name)) same ∙ none in
        cc (stands, none_there)

    abbrev node : NodeId
    node = next_child parent n.id n.store

    -- it is a next one
    pub is_next : IsNextNode parent node kind n.id n.store
    is_next = elim (same_node parent root_node) [
      | inl top ↦ inl (top, is_dir kind e top, ap (λ b. if b then record { store = n.store; id = 0 } else record { store = parent.store; id = n.id }) (root_is parent top))
      | inr inner ↦ inr (inner, ap (λ b. if b then record { store = n.store; id = 0 } else record { store = parent.store; id = n.id }) (root_not parent inner))
    ]
      where
        is_dir : (which : Kind) → refused (do_step t (new_step which path)).0 ≡ None → parent ≡ root_node → which ≡ kinds.Dir
        is_dir kinds.Dir f top = refl
        is_dir kinds.File f top = let d = done_from (do_step t (Create path)).0 f in
            absurd (create_inner m t above name parent node n.id n.store d.0 k.stands k.below (depth_of above name p) way d.1 top)

    abbrev items : List PlainItem
    items = new_items parent name node kind

    -- the table with the node under its path
    abbrev noted : NodeTable
    noted = insert nodes path node

    pub noted_session : KnowsItems m t noted n
    noted_session = record {
      stands = k.stands;
      knows = knows_put m nodes path node k.knows nowhere;
      below = k.below;
      ids = k.ids;
      stores = k.stores;
    }

    leads_also : (which : Kind) → refused (do_step t (new_step which path)).0 ≡ None → IsNextNode parent node which n.id n.store → LeadsAlso m (after m (new_items parent name node which)) path node
    leads_also kinds.Dir f next = let d = done_from (do_step t (Mkdir path)).0 f in
        mkdir_leads m t above name parent node n.id n.store d.0 k.stands k.below (depth_of above name p) way next d.1
    leads_also kinds.File f next = let d = done_from (do_step t (Create path)).0 f in
        create_leads m t above name parent node n.id n.store d.0 k.stands k.below (depth_of above name p) way next d.1

    are_items : (which : Kind) → IsNextNode parent node which n.id n.store → AreItemsOf m n.id n.store (new_step which path) (new_items parent name node which)
    are_items kinds.Dir next = OfDirectory above name parent node refl (named_last above name p.names) (depth_of above name p) way next refl
    are_items kinds.File next = OfFile above name parent node refl (named_last above name p.names) (depth_of above name p) way next refl

    pub noted_plan : (next : Numbers) → next.id ≡ id_then parent n.id → next.store ≡ store_then parent n.store → IsPlan m noted n (new_step kind path) items next
    noted_plan next id store =
        let low = node_below m n.id n.store k.below above parent way in
        let numbers = new_numbers parent name node kind n.id n.store low.0 low.1 is_next in
        record {
          are = are_items kind is_next;
          knows = knows_also m (after m items) nodes path node k.knows (leads_also kind e is_next);
          id = id ∙ sym numbers.0;
          store = store ∙ sym numbers.1;
        }

-- ---- a step that writes a file

module _ (m : ItemMap) (t : Tree) (nodes : NodeTable) (n : Numbers) (k : KnowsItems m t nodes n) (path : Path) (at : ℕ) (text : List ℕ) (e : refused (do_step t (Write path at text)).0 ≡ None) where
  wrote : IsWritten t path at text (do_step t (Write path at text)).1
  wrote = let d = done_from (do_step t (Write path at text)).0 e in
      write_made t path at text d.0 (tree_of_bare t (is_tree m holdings.bare (bare t) k.stands.stands k.stands.tree_is)) d.1

  -- the table has the file's node
  pub file_known : (node : NodeId) × (node_at m path ≡ Some node) × (get nodes path ≡ Some node)
  file_known =
      let there : get (bare t) path ≡ Some (bare_node (File wrote.contents wrote.attributes)) = get-bare t path ∙ ap (option_map bare_node) wrote.file in
      let found = node_there m holdings.bare (bare t) k.stands.tree_is path (bare_node (File wrote.contents wrote.attributes)) there in
      (found.0, found.1, k.knows.knows path found.0 found.1)

  pub file_plan : (node : NodeId) → get nodes path ≡ Some node → IsPlan m nodes n (Write path at text) (written_items node) n
  file_plan node got =
      let way : node_at m path ≡ Some node = file_known.1 ∙ sym file_known.2 ∙ got in
      let d = done_from (do_step t (Write path at text)).0 e in
      let low = node_below m n.id n.store k.below path node way in
      let numbers = written_numbers node n.id n.store low.0 low.1 in
      record {
        are = OfWrite path at text node refl way refl;
        knows = record { knows = λ q other leads. k.knows.knows q other (sym (write_leads m t path at text node d.0 k.stands way d.1 q) ∙ leads) };
        id = sym numbers.0;
        store = sym numbers.1;
      }

-- ---- the same at a path that is split

module _ (m : ItemMap) (t : Tree) (nodes : NodeTable) (n : Numbers) (k : KnowsItems m t nodes n) (kind : Kind) (above : Path) (name : List ℕ) (q : Path) (q_is : q ≡ above ++ name ∷ []) where
  at_split : (P : Path → Type 0) → P q → P (above ++ name ∷ [])
  at_split P h = subst P q_is h

  abbrev NotRefused : Path → Type 0
  NotRefused x = refused (do_step t (new_step kind x)).0 ≡ None

  module _ (p : IsPath q) (e : refused (do_step t (new_step kind q)).0 ≡ None) where
    pub parent_at : (parent : NodeId) × (get nodes above ≡ Some parent)
    parent_at = let found = parent_known m t nodes n k kind above name (subst IsPath q_is p) (subst NotRefused q_is e) in (found.0, found.2)

    module _ (parent : NodeId) (got : get nodes above ≡ Some parent) (node : NodeId) (node_is : node ≡ next_child parent n.id n.store) (table : NodeTable) (table_is : table ≡ insert nodes q node) where
      put_is : insert nodes (above ++ name ∷ []) (next_child parent n.id n.store) ≡ table
      put_is = ap (insert nodes (above ++ name ∷ [])) (sym node_is) ∙ ap (λ (x : Path). insert nodes x node) (sym q_is) ∙ sym table_is

      pub session_at : KnowsItems m t table n
      session_at = subst (λ (x : NodeTable). KnowsItems m t x n) put_is
          (noted_session m t nodes n k kind above name (subst IsPath q_is p) (subst NotRefused q_is e) parent got)

      pub plan_at : (list : List PlainItem) → list ≡ new_items parent name node kind → (next : Numbers) → next.id ≡ id_then parent n.id → next.store ≡ store_then parent n.store
          → IsPlan m table n (new_step kind q) list next
      plan_at list list_is next id store =
          subst (λ (x : Path). IsPlan m table n (new_step kind x) list next) (sym q_is)
          (subst (λ (xs : List PlainItem). IsPlan m table n (new_step kind (above ++ name ∷ [])) xs next) (sym (list_is ∙ ap (λ (y : NodeId). new_items parent name y kind) node_is))
          (subst (λ (x : NodeTable). IsPlan m x n (new_step kind (above ++ name ∷ [])) (new_items parent name (next_child parent n.id n.store) kind) next) put_is
          (noted_plan m t nodes n k kind above name (subst IsPath q_is p) (subst NotRefused q_is e) parent got next id store)))

-- ---- the record

-- so few items
few_items : (m : ItemMap) (id store : ℕ) (step : Step) (list : List PlainItem) → AreItemsOf m id store step list → length list ≤ 2
few_items m id store step list (OfDirectory above name parent node e named depth way next is) = subst (λ (xs : List PlainItem). length xs ≤ 2) (sym is) (omega arith)
few_items m id store step list (OfFile above name parent node e named depth way next is) = subst (λ (xs : List PlainItem). length xs ≤ 2) (sym is) (omega arith)
few_items m id store step list (OfWrite path at text node e way is) = subst (λ (xs : List PlainItem). length xs ≤ 2) (sym is) (omega arith)

module _ (m : ItemMap) (t : Tree) (nodes : NodeTable) (n : Numbers) (k : KnowsItems m t nodes n) (step : Step) (list : List PlainItem) (next : Numbers) (p : IsPlan m nodes n step list next) where
  items_are : All IsNameItem list
  items_are = step_are_items m step list n.id n.store k.below (omega (arith, k.ids)) (omega (arith, k.stores)) p.are

  -- they are a commit
  pub plan_commit : IsCommit list
  plan_commit = few_commit list
      (record {
        each = items_are;
        ascending = step_ascends m step list n.id n.store k.below p.are;
      })
      (omega (arith, few_items m n.id n.store step list p.are))

  pub plan_record : (number : ℕ) → number < 2 ^ 64 → IsRecord (TransactionRecord number list)
  plan_record number lt = is_record number list lt plan_commit

  -- whose record fits one block
  pub plan_length : (number : ℕ) → (1 ≤ length (record_bytes (TransactionRecord number list))) × (length (record_bytes (TransactionRecord number list)) ≤ RECORD_BYTES)
  plan_length number =
      let few : length list ≤ 2 = few_items m n.id n.store step list p.are in
      (omega (arith, sum_text number list), omega (arith, few_len number list items_are))
