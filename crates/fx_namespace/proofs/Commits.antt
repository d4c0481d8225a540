-- What a tree tells of its items, and what the items of a commit make of it.
use Rattle.std.proofs.Common.{◌≡◌, ◌≢◌, ◌⊎◌, inl, inr, ℕ, ◌+◌, ◌<◌, ◌^◌, Bool, true, false, cond, List, [], ◌∷◌, ◌++◌, refl, sym, ap, ◌∙◌, arith, IsTrue}
use Rattle.std.specs.Prelude.{Option, Some, None, option_and_then, option_map, All, ◌&&◌}
use Rattle.std.specs.FinMap.{get, insert}
use Rattle.std.proofs.lemmas.Option.{option_and_then_some}
use Rattle.std.proofs.lemmas.List.Elements.{All-cons, All-nil}
use Rattle.std.specs.Cmp.{nat_cmp_is, nat_cmp_total, tied_itself}
use Rattle.std.specs.Cmp.Lexicographic.{slice_cmp}
use Rattle.std.specs.Ordering.{is_lt, nat_cmp, ordering_then}
use Rattle.std.specs.declared.cmp.Ordering.TheVariants.{Less, Equal}
use Rattle.fx_item.specs.Item.{PlainKey, ObjectKey, ChildKey, PlainValue, DirectoryValue, FileValue, ChildValue, GoneValue, AttributeValue, WaitingValue, ExtentValue, TakenValue, PlainItem, IsNameItem, Suits}
use Rattle.fx_item.specs.Look.{ItemMap, value_of_entry, after, value_id, value_store, next_id, next_store}
use Rattle.fx_item.specs.Name.{is_name}
use Rattle.fx_item.specs.Order.{is_ascending, key_cmp}
use Rattle.fx_item.specs.Overlay.{Entry, ValueEntry, AtKey, entry_in}
use Rattle.fx_plain.specs.Node.{Attributes, Contents, Node, empty_dir}
use Rattle.fx_plain.specs.Node as plain
use Rattle.fx_plain.specs.Tree.{Tree}
use Rattle.fx_plain.specs.declared.kind.Kind.{Kind}
use Rattle.fx_plain.specs.declared.kind.Kind.TheVariants.{Dir, File}
use Rattle.fx_namespace.specs.Nodes.{NodeId, root_node, is_root, led_to, child, node_at, told_kind, object_kind, kind_of, Stands}
use Rattle.fx_namespace.specs.Trees.{Holdings, IsTreeOf, node_of, shown}
use Rattle.fx_namespace.specs.Changes.{GainsNode, IsFreshNode, IsPlaceFor, Resizes}
use Rattle.fx_namespace.specs.Wrong.{MayLead}
use Rattle.fx_namespace.specs.Commits.{IsBelow, IsFileAt, IsFreePlace, IsNextNode, LeadsAlso, id_then, new_items, new_value, store_then, written_items}
use Rattle.fx_namespace.proofs.Walks.{EndsWith, ends_with, child_value, last_step, more_step, one_path, root_is, root_not, root_not_led, same_node}
use Rattle.fx_namespace.proofs.Trees.{shown_inner}
use Rattle.fx_namespace.proofs.Gained.{stands, tree, leads_also}
use Rattle.fx_namespace.proofs.Resized as resized
use Rattle.fx_namespace.proofs.Items.{after_other, child_itself, object_itself}

-- ---- from the tree to its items

dir_by : (h : Holdings) (node : NodeId) (b : Bool) (k : Option Kind) (attributes : Attributes)
    → cond b (Some empty_dir) (option_map (node_of h node) k) ≡ Some (plain.Dir attributes) → cond b (Some Dir) k ≡ Some Dir
dir_by h node true k attributes e = refl
dir_by h node false None attributes e = absurd (cc)
dir_by h node false (Some Dir) attributes e = refl
dir_by h node false (Some File) attributes e = absurd (cc)

file_by : (h : Holdings) (node : NodeId) (b : Bool) (k : Option Kind) (contents : Contents) (attributes : Attributes)
    → cond b (Some empty_dir) (option_map (node_of h node) k) ≡ Some (plain.File contents attributes) → k ≡ Some File
file_by h node true k contents attributes e = absurd (cc)
file_by h node false None contents attributes e = absurd (cc)
file_by h node false (Some Dir) contents attributes e = absurd (cc)
file_by h node false (Some File) contents attributes e = refl

file_len : (o : Option PlainValue) → told_kind o ≡ Some File → (len : ℕ) × (o ≡ Some (FileValue len))
file_len None e = absurd (cc)
file_len (Some (FileValue len)) e = (len, refl)
file_len (Some DirectoryValue) e = absurd (cc)
file_len (Some GoneValue) e = absurd (cc)
file_len (Some (AttributeValue text)) e = absurd (cc)
file_len (Some (ChildValue store id)) e = absurd (cc)
file_len (Some WaitingValue) e = absurd (cc)
file_len (Some (ExtentValue block sums)) e = absurd (cc)
file_len (Some TakenValue) e = absurd (cc)

module _ (m : ItemMap) (h : Holdings) (t : Tree) (is : IsTreeOf m h t) where
  -- where something lies, the path leads to a node
  pub node_there : (path : List (List ℕ)) (x : Node) → get t path ≡ Some x → (node : NodeId) × (node_at m path ≡ Some node)
  node_there path x e = option_and_then_some (shown m h) (node_at m path) x (sym (is.at path) ∙ e) (λ node way seen. (node, way))

  shown_at : (path : List (List ℕ)) (node : NodeId) → node_at m path ≡ Some node → get t path ≡ shown m h node
  shown_at path node way = is.at path ∙ ap (option_and_then (shown m h)) way

  -- and where it leads nowhere, nothing lies
  pub nothing_there : (path : List (List ℕ)) → node_at m path ≡ None → get t path ≡ None
  nothing_there path e = is.at path ∙ ap (option_and_then (shown m h)) e

  pub dir_kind : (path : List (List ℕ)) (node : NodeId) (attributes : Attributes) → get t path ≡ Some (plain.Dir attributes) → node_at m path ≡ Some node → kind_of m node ≡ Some Dir
  dir_kind path node attributes e way = dir_by h node (is_root node) (object_kind m node) attributes (sym (shown_at path node way) ∙ e)

  pub file_kind : (path : List (List ℕ)) (node : NodeId) (contents : Contents) (attributes : Attributes) → get t path ≡ Some (plain.File contents attributes) → node_at m path ≡ Some node → object_kind m node ≡ Some File
  file_kind path node contents attributes e way = file_by h node (is_root node) (object_kind m node) contents attributes (sym (shown_at path node way) ∙ e)

  pub file_object : (path : List (List ℕ)) (node : NodeId) (contents : Contents) (attributes : Attributes) → get t path ≡ Some (plain.File contents attributes) → node_at m path ≡ Some node
      → (len : ℕ) × (m (ObjectKey node.store node.id) ≡ Some (FileValue len))
  file_object path node contents attributes e way = file_len (m (ObjectKey node.store node.id)) (file_kind path node contents attributes e way)

  module _ (s : Stands m) where
    -- what a path of one or more names leads to is shown
    shown_below : (above : List (List ℕ)) (name : List ℕ) (node : NodeId) → node_at m (above ++ name ∷ []) ≡ Some node → (x : Node) × (get t (above ++ name ∷ []) ≡ Some x)
    shown_below above name node way =
        let l = last_step m above name node way in
        let o = s.objects l.0 name node l.2 in (
          node_of h node o.0,
          shown_at (above ++ name ∷ []) node way ∙ shown_inner m h node (λ top. root_not_led m s l.0 name (l.2 ∙ ap Some top)) ∙ ap (option_map (node_of h node)) o.1,
        )

    -- what stands under the key of a child leads to a node
    leads : (parent : NodeId) (name : List ℕ) (value : PlainValue) → m (ChildKey parent.store parent.id name) ≡ Some value → (node : NodeId) × (child m parent name ≡ Some node)
    leads parent name value e = by_node (same_node parent root_node)
      where
        by_node : (parent ≡ root_node) ⊎ (parent ≢ root_node) → (node : NodeId) × (child m parent name ≡ Some node)
        by_node (inl top) = let v = s.volumes name value (ap (λ (z : NodeId). m (ChildKey z.store z.id name)) (sym top) ∙ e) in (record { store = v.0; id = 0 }, ap led_to (e ∙ ap Some v.1))
        by_node (inr inner) = let v = s.inner parent name value inner e in (record { store = parent.store; id = v.0 }, ap led_to (e ∙ ap Some v.1))

    -- the name is free in the parent's node where nothing lies at the path
    pub free_entry : (above : List (List ℕ)) (name : List ℕ) (parent : NodeId) → node_at m above ≡ Some parent → get t (above ++ name ∷ []) ≡ None → m (ChildKey parent.store parent.id name) ≡ None
    free_entry above name parent way nothing = by_value (m (ChildKey parent.store parent.id name)) refl
      where
        by_value : (o : Option PlainValue) → m (ChildKey parent.store parent.id name) ≡ o → o ≡ None
        by_value None e = refl
        by_value (Some value) e =
            let l = leads parent name value e in
            let x = shown_below above name l.0 (more_step m above parent name l.0 way l.1) in
            absurd (cc (sym nothing ∙ x.1))

-- ---- the items of a new node

new_kind : (kind : Kind) → told_kind (Some (new_value kind)) ≡ Some kind
new_kind Dir = refl
new_kind File = refl

new_said : (kind : Kind) (store id : ℕ) → entry_in (ObjectKey store id) (new_value kind) (AtKey (ObjectKey store id)) ≡ Some (ValueEntry (new_value kind))
new_said Dir store id = refl
new_said File store id = refl

-- what a list that says this of a key leaves there
abbrev word : ItemMap → PlainKey → Option (Option Entry) → Option PlainValue
word m key o = elim o [ Some entry ↦ value_of_entry entry | None ↦ m key ]

all_one : (P : PlainItem → Type 0) (x : PlainItem) → P x → All P (x ∷ [])
all_one P x h = All-cons P x [] h (All-nil P)

all_two : (P : PlainItem → Type 0) (x y : PlainItem) → P x → P y → All P (x ∷ y ∷ [])
all_two P x y h k = All-cons P x (y ∷ []) h (all_one P y k)

pub new_gains : (m : ItemMap) (parent : NodeId) (name : List ℕ) (node : NodeId) (kind : Kind) → GainsNode m (after m (new_items parent name node kind)) parent name node (new_value kind)
new_gains m parent name node kind = record {
  object = let key : PlainKey = ObjectKey node.store node.id in
      ap (λ b. word m key (cond b (Some (entry_in key (new_value kind) (AtKey key))) None)) (object_itself node.store node.id) ∙ ap value_of_entry (new_said kind node.store node.id);
  entry = let key : PlainKey = ChildKey parent.store parent.id name in
      ap (λ b. word m key (cond b (Some (Some (ValueEntry (ChildValue node.store node.id)))) None)) (child_itself parent.store parent.id name);
  others = λ key a b. after_other m (new_items parent name node kind) key
      (all_two (λ x. x.key ≢ key) _ _ (λ e. b (sym e)) (λ e. a (sym e)));
}

pub written_resizes : (m : ItemMap) (node : NodeId) (len : ℕ) → m (ObjectKey node.store node.id) ≡ Some (FileValue len) → Resizes m (after m (written_items node)) node len 0
written_resizes m node len e = record {
  before = e;
  after = let key : PlainKey = ObjectKey node.store node.id in
      ap (λ b. word m key (cond b (Some (Some (ValueEntry (FileValue 0)))) None)) (object_itself node.store node.id);
  others = λ key a. after_other m (written_items node) key (all_one (λ x. x.key ≢ key) _ (λ e. a (sym e)));
}

-- ---- numbers

-- a node that a path leads to is below
pub node_below : (m : ItemMap) (id store : ℕ) → IsBelow m id store → (path : List (List ℕ)) (node : NodeId) → node_at m path ≡ Some node → (node.id < id) × (node.store < store)
node_below m id store b path node way = by_end (ends_with path)
  where
    by_end : EndsWith path → (node.id < id) × (node.store < store)
    by_end (inl top) =
        let e : root_node ≡ node = cc (sym (ap (node_at m) top) ∙ way) in
        let i : node.id ≡ 0 = ap (λ z. z.id) (sym e) in
        let k : node.store ≡ 0 = ap (λ z. z.store) (sym e) in
        let r = b.root_id in
        let q = b.root_store in
        (omega arith, omega arith)
    by_end (inr k) =
        let l = last_step m k.0 k.1 node (sym (ap (node_at m) k.2) ∙ way) in
        b.value (ChildKey l.0.store l.0.id k.1) (ChildValue node.store node.id) (child_value m l.0 k.1 node l.2)

-- ---- the items of a commit are the items of a record

less : (a b : ℕ) → a < b → nat_cmp a b ≡ Less
less a b l = sym (nat_cmp_is a b Less l)

itself : (a : ℕ) → nat_cmp a a ≡ Equal
itself a = tied_itself nat_cmp_total a

-- the child entry goes before the Object
before : (s i t j : ℕ) (name : List ℕ) → (s < t) ⊎ ((s ≡ t) × (i < j)) → key_cmp (ChildKey s i name) (ObjectKey t j) ≡ Less
before s i t j name (inl a) = ap (λ r. ordering_then r (slice_cmp nat_cmp (i ∷ 4 ∷ name) (j ∷ 1 ∷ []))) (less s t a)
before s i t j name (inr a) =
    ap (λ r. ordering_then r (slice_cmp nat_cmp (i ∷ 4 ∷ name) (j ∷ 1 ∷ []))) (ap (nat_cmp s) (sym a.0) ∙ itself s)
    ∙ ap (λ r. ordering_then r (slice_cmp nat_cmp (4 ∷ name) (1 ∷ []))) (less i j a.1)

new_value_numbers : (kind : Kind) → (value_id (new_value kind) ≡ 0) × (value_store (new_value kind) ≡ 0)
new_value_numbers Dir = (refl, refl)
new_value_numbers File = (refl, refl)

new_value_suits : (kind : Kind) (store id : ℕ) → Suits (ObjectKey store id) (new_value kind)
new_value_suits Dir store id = tt
new_value_suits File store id = omega arith

pub new_are_items : (parent : NodeId) (name : List ℕ) (node : NodeId) (kind : Kind) → parent.id < 2 ^ 64 → parent.store < 2 ^ 32 → node.id < 2 ^ 64 → node.store < 2 ^ 32 → IsTrue (is_name name) → All IsNameItem (new_items parent name node kind)
new_are_items parent name node kind i k j l named = all_two IsNameItem _ _
    (record { item = record { key = (k, i, named); value = (l, j) }; kind = refl })
    (record { item = record { key = (l, j); value = new_value_suits kind node.store node.id }; kind = refl })

module _ (parent : NodeId) (name : List ℕ) (node : NodeId) (kind : Kind) (id store : ℕ) (low_id : parent.id < id) (low_store : parent.store < store) where
  -- the store and the id of the next node
  abbrev Numbers : Type 0
  Numbers = ((parent ≡ root_node) × (parent.store < node.store) × (node.store ≡ store) × (node.id ≡ 0) × (parent.id ≡ 0))
      ⊎ ((parent ≢ root_node) × (node.store ≡ parent.store) × (node.id ≡ id))

  numbers : IsNextNode parent node kind id store → Numbers
  numbers (inl a) = let e : node.store ≡ store = ap (λ z. z.store) a.2 in inl (a.0, omega arith, e, ap (λ z. z.id) a.2, ap (λ z. z.id) a.0)
  numbers (inr a) = inr (a.0, ap (λ z. z.store) a.1, ap (λ z. z.id) a.1)

  pub new_ascends : IsNextNode parent node kind id store → IsTrue (is_ascending (new_items parent name node kind))
  new_ascends next = ap (λ r. is_lt r && true && true) (before parent.store parent.id node.store node.id name (order (numbers next)))
    where
      order : Numbers → (parent.store < node.store) ⊎ ((parent.store ≡ node.store) × (parent.id < node.id))
      order (inl a) = inl a.1
      order (inr a) = let e = a.2 in inr (sym a.1, omega arith)

  -- the numbers that come next then
  pub new_numbers : IsNextNode parent node kind id store → (next_id id (new_items parent name node kind) ≡ id_then parent id) × (next_store store (new_items parent name node kind) ≡ store_then parent store)
  new_numbers next = by_case (numbers next)
    where
      by_case : Numbers → (next_id id (new_items parent name node kind) ≡ id_then parent id) × (next_store store (new_items parent name node kind) ≡ store_then parent store)
      by_case (inl a) =
          let top : is_root parent ≡ true = root_is parent a.0 in
          let v = new_value_numbers kind in
          let e = a.2 in let f = a.3 in let g = a.4 in let u = v.0 in let w = v.1 in
          let i : next_id id (new_items parent name node kind) ≡ id = omega arith in
          let k : next_store store (new_items parent name node kind) ≡ store + 1 = omega arith in
          (i ∙ sym (ap (λ t. cond t id (id + 1)) top), k ∙ sym (ap (λ t. cond t (store + 1) store) top))
      by_case (inr a) =
          let inner : is_root parent ≡ false = root_not parent a.0 in
          let v = new_value_numbers kind in
          let e = a.1 in let f = a.2 in let u = v.0 in let w = v.1 in
          let i : next_id id (new_items parent name node kind) ≡ id + 1 = omega arith in
          let k : next_store store (new_items parent name node kind) ≡ store = omega arith in
          (i ∙ sym (ap (λ t. cond t id (id + 1)) inner), k ∙ sym (ap (λ t. cond t (store + 1) store) inner))

-- a file that is written uses no new numbers
pub written_numbers : (node : NodeId) (id store : ℕ) → node.id < id → node.store < store → (next_id id (written_items node) ≡ id) × (next_store store (written_items node) ≡ store)
written_numbers node id store i k = (omega arith, omega arith)

pub written_ascends : (node : NodeId) → IsTrue (is_ascending (written_items node))
written_ascends node = refl

pub written_are_items : (node : NodeId) → node.id < 2 ^ 64 → node.store < 2 ^ 32 → All IsNameItem (written_items node)
written_are_items node i k = all_one IsNameItem _ (record { item = record { key = (k, i); value = omega arith }; kind = refl })

-- ---- a new node stands

free_object : (m : ItemMap) (node : NodeId) (id store : ℕ) → IsBelow m id store → (node.id ≡ id) ⊎ (node.store ≡ store) → m (ObjectKey node.store node.id) ≡ None
free_object m node id store b high = by_value (m (ObjectKey node.store node.id)) refl
  where
    by_value : (o : Option PlainValue) → m (ObjectKey node.store node.id) ≡ o → o ≡ None
    by_value None e = refl
    by_value (Some value) e = let k = b.key (ObjectKey node.store node.id) value e in absurd (elim high [ inl i ↦ omega arith | inr j ↦ omega arith ])

fresh : (m : ItemMap) (parent node : NodeId) (kind : Kind) (id store : ℕ) → IsBelow m id store → IsNextNode parent node kind id store → IsFreshNode m node
fresh m parent node kind id store b (inl a) =
    let e : node.store ≡ store = ap (λ z. z.store) a.2 in
    record {
      object = free_object m node id store b (inr e);
      led = λ y x f. let v = b.value (ChildKey y.store y.id x) (ChildValue node.store node.id) (child_value m y x node f) in absurd (omega arith);
    }
fresh m parent node kind id store b (inr a) =
    let e : node.id ≡ id = ap (λ z. z.id) a.1 in
    record {
      object = free_object m node id store b (inl e);
      led = λ y x f. let v = b.value (ChildKey y.store y.id x) (ChildValue node.store node.id) (child_value m y x node f) in absurd (omega arith);
    }

may_lead : (m : ItemMap) (parent node : NodeId) (kind : Kind) (id store : ℕ) → IsBelow m id store → IsNextNode parent node kind id store → MayLead parent node
may_lead m parent node kind id store b (inl a) =
    let r = b.root_store in
    let e : node.store ≡ store = ap (λ z. z.store) a.2 in
    inl (a.0, ap (λ z. z.id) a.2, omega arith)
may_lead m parent node kind id store b (inr a) =
    let r = b.root_id in
    let e : node.id ≡ id = ap (λ z. z.id) a.1 in
    inr (a.0, ap (λ z. z.store) a.1, omega arith)

next_volume : (parent node : NodeId) (kind : Kind) (id store : ℕ) → IsNextNode parent node kind id store → parent ≡ root_node → kind ≡ Dir
next_volume parent node kind id store (inl a) top = a.1
next_volume parent node kind id store (inr a) top = absurd (a.0 top)

module _ {m : ItemMap} {h : Holdings} {t : Tree} {above : List (List ℕ)} {parent : NodeId} {name : List ℕ} {node : NodeId} {kind : Kind} {id store : ℕ}
    (s : Stands m) (is : IsTreeOf m h t) (b : IsBelow m id store) (place : IsFreePlace m t above parent name) (next : IsNextNode parent node kind id store) where
  abbrev gained : ItemMap
  gained = after m (new_items parent name node kind)

  pub new_place : IsPlaceFor m above parent name node kind
  new_place = record {
    way = place.way;
    dir = dir_kind m h t is above parent place.attributes place.directory place.way;
    free = free_entry m h t is s above name parent place.way place.free;
    fresh = fresh m parent node kind id store b next;
    lead = may_lead m parent node kind id store b next;
    volume = next_volume parent node kind id store next;
    depth = place.depth;
  }

  pub new_stands : Stands gained
  new_stands = stands s new_place (new_gains m parent name node kind) (new_kind kind)

  pub new_tree : IsTreeOf gained h (insert t (above ++ name ∷ []) (node_of h node kind))
  new_tree = tree s new_place (new_gains m parent name node kind) (new_kind kind) h t is

  pub new_leads : LeadsAlso m gained (above ++ name ∷ []) node
  new_leads = leads_also s new_place (new_gains m parent name node kind)

-- only the empty path leads to the root
pub root_way : (m : ItemMap) → Stands m → (above : List (List ℕ)) (parent : NodeId) → node_at m above ≡ Some parent → parent ≡ root_node → above ≡ []
root_way m s above parent way top = one_path m s above [] parent way (ap Some (sym top))

-- ---- a file that is written

module _ {m : ItemMap} {h : Holdings} {t : Tree} {path : List (List ℕ)} {node : NodeId} (is : IsTreeOf m h t) (f : IsFileAt m t path node) where
  abbrev written : ItemMap
  written = after m (written_items node)

  resizes : (len : ℕ) × Resizes m written node len 0
  resizes = let o = file_object m h t is path node f.contents f.attributes f.file f.way in (o.0, written_resizes m node o.0 o.1)

  pub written_stands : Stands m → Stands written
  written_stands = resized.stands resizes.1

  pub written_tree : IsTreeOf written h t
  written_tree = resized.tree resizes.1 h t is

  -- each path leads where it led before
  pub written_leads : (other : List (List ℕ)) → node_at written other ≡ node_at m other
  written_leads other = resized.same_walk resizes.1 other root_node
