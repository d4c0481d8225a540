-- What a step adds to the sizes of a tree.
use Rattle.std.proofs.Common.{◌≡◌, ℕ, suc, ◌+◌, ◌≤◌, List, [], ◌∷◌, length, refl, sym, ap, ◌∙◌, cond, Bool, true, false, arith, sum_by}
use Rattle.std.proofs.lemmas.List.{length-map}
use Rattle.std.specs.List.{cons_option}
use Rattle.std.specs.Prelude.{map, filter_map, ◌/◌, ◌-◌, Option, None, Some, Result, Ok, Err, nat_lt, ◌||◌, is_some}
use Rattle.std.specs.Cmp.{tied_itself, nat_cmp_total}
use Rattle.std.specs.declared.cmp.Ordering.{Ordering}
use Rattle.std.specs.declared.cmp.Ordering.TheVariants.{Less, Equal, Greater}
use Rattle.std.specs.Ordering.{is_eq, nat_cmp, eq_by_cmp}
use Rattle.std.specs.FinMap as finite
use Rattle.std.specs.FinMap.{get, insert}
use Rattle.std.specs.FinMap.Entries.{find, put, by_order}
use Rattle.std.specs.FinSet as set
use Rattle.std.proofs.lemmas.Bool.{ltb-false}
use Rattle.std.proofs.lemmas.List.Sums.{sum_by-cons}
use Rattle.std.proofs.lemmas.List.FromFn.{length-range_with_len}
use Rattle.fx_item.specs.declared.Sizes.{Sizes}
use Rattle.fx_item.specs.Name.{name_cmp}
use Rattle.fx_plain.specs.Node.{Attributes, Blocks, Contents, Node, Dir, File, covered, empty_dir, empty_file, file_blocks, written}
use Rattle.fx_plain.specs.Tree.{Tree, attribute_count, child_name, children, held_count, node_count, path_cmp, root, sizes_of}
use Rattle.fx_plain.specs.Table.{create, do_step, mkdir, place, walk, write_at}
use Rattle.fx_plain.specs.Growth.{Grows, SizesWithin, new_nodes, tree_after_steps}
use Rattle.fx_base.specs.declared.block.TheConstants.{BLOCK_BYTES}
use Rattle.fx_plain.specs.declared.contents.TheConstants.{MAX_FILE}
use Rattle.fx_plain.specs.declared.step.Step.{Step}
use Rattle.fx_plain.specs.declared.step.Step.TheVariants.{Mkdir, Create, Write, Read, List as ListStep, Stat as StatStep}
use Rattle.fx_plain.specs.declared.step.Answer.{Answer}
use Rattle.fx_plain.specs.declared.step.Answer.TheVariants.{Done}
use Rattle.fx_plain.specs.declared.step.Refusal.{Refusal}
use Rattle.fx_plain.specs.declared.step.Refusal.TheVariants.{TooLong}
use Rattle.fx_plain.proofs.Paths.{paths_total, paths_exact}

abbrev Path : Type 0
Path = List (List ℕ)

-- ---- sums over the nodes

-- a new entry adds its own term
fresh_sum : (f : Node → ℕ) (p : Path) (node : Node) (es : List (Path × Node)) → find path_cmp p es ≡ None → sum_by f (map (λ e. e.1) (put path_cmp p node es)) ≡ sum_by f (map (λ e. e.1) es) + f node
fresh_sum f p node [] none = omega (arith, sum_by-cons f node [])
fresh_sum f p node (e ∷ es) none = by (path_cmp p e.0) none (fresh_sum f p node es)
  where
    by : (o : Ordering) → cond (is_eq o) (Some e.1) (find path_cmp p es) ≡ None
        → (find path_cmp p es ≡ None → sum_by f (map (λ e. e.1) (put path_cmp p node es)) ≡ sum_by f (map (λ e. e.1) es) + f node)
        → sum_by f (map (λ e. e.1) (by_order o ((p, node) ∷ e ∷ es) ((e.0, node) ∷ es) (e ∷ put path_cmp p node es))) ≡ sum_by f (e.1 ∷ map (λ e. e.1) es) + f node
    by Less none later = omega (arith, sum_by-cons f node (e.1 ∷ map (λ (e : Path × Node). e.1) es))
    by Equal none later = absurd (cc)
    by Greater none later = omega (arith, later none, sum_by-cons f e.1 (map (λ (e : Path × Node). e.1) (put path_cmp p node es)), sum_by-cons f e.1 (map (λ (e : Path × Node). e.1) es))

inserted_sum : (f : Node → ℕ) (tree : Tree) (p : Path) (node : Node) → get tree p ≡ None → sum_by f (finite.values (insert tree p node)) ≡ sum_by f (finite.values tree) + f node
inserted_sum f tree p node none =
    ap (λ (es : List (Path × Node)). sum_by f (map (λ e. e.1) es)) (finite.entries-insert paths_total tree p node)
    ∙ fresh_sum f p node (finite.entries tree) (sym (finite.get-entries tree p) ∙ none)

module _ (tree : Tree) (p : Path) where
  abbrev rest : Tree
  rest = finite.remove tree p

  gone : get rest p ≡ None
  gone = finite.get-remove paths_total tree p p ∙ ap (λ (b : Bool). cond b None (get tree p)) (ap is_eq (tied_itself paths_total p))

  covers : (b : Bool) (x y : Option Node) → cond b x (cond b None y) ≡ cond b x y
  covers true x y = refl
  covers false x y = refl

  -- the entry goes in again, with any node
  again : (node : Node) → insert rest p node ≡ insert tree p node
  again node = finite.same_map paths_total paths_exact _ _ (λ q.
      finite.get-insert paths_total rest p node q
      ∙ ap (λ (x : Option Node). cond (eq_by_cmp path_cmp q p) (Some node) x) (finite.get-remove paths_total tree p q)
      ∙ covers (eq_by_cmp path_cmp q p) (Some node) (get tree q)
      ∙ sym (finite.get-insert paths_total tree p node q))

  -- the node that lies there, put there, changes nothing
  same : (old : Node) → get tree p ≡ Some old → insert tree p old ≡ tree
  same old is = finite.same_map paths_total paths_exact _ _ (λ q. finite.get-insert paths_total tree p old q ∙ by q (path_cmp q p) refl)
    where
      by : (q : Path) (o : Ordering) → path_cmp q p ≡ o → cond (is_eq o) (Some old) (get tree q) ≡ get tree q
      by q Less e = refl
      by q Equal e = sym (ap (get tree) (paths_exact q p e) ∙ is)
      by q Greater e = refl

  -- a node in the place of another: its term in the place of the other's
  replaced_sum : (f : Node → ℕ) (old node : Node) → get tree p ≡ Some old → sum_by f (finite.values (insert tree p node)) + f old ≡ sum_by f (finite.values tree) + f node
  replaced_sum f old node is =
      let one = inserted_sum f rest p node gone in
      let two = inserted_sum f rest p old gone in
      let three : sum_by f (finite.values (insert rest p node)) ≡ sum_by f (finite.values (insert tree p node)) = ap (λ (t : Tree). sum_by f (finite.values t)) (again node) in
      let four : sum_by f (finite.values (insert rest p old)) ≡ sum_by f (finite.values tree) = ap (λ (t : Tree). sum_by f (finite.values t)) (again old ∙ same old is) in
      omega arith

-- ---- held blocks

-- the set with these numbers put into it
abbrev put_all : Blocks → List ℕ → Blocks
put_all held [] = held
put_all held (n ∷ ns) = set.insert (put_all held ns) n

put_all_len : (held : Blocks) (ns : List ℕ) → set.len (put_all held ns) ≤ set.len held + length ns
put_all_len held [] = omega arith
put_all_len held (n ∷ ns) = by (set.contains (put_all held ns) n) (set.len-insert nat_cmp_total (put_all held ns) n) (put_all_len held ns)
  where
    by : (b : Bool) → set.len (set.insert (put_all held ns) n) ≡ cond b (set.len (put_all held ns)) (set.len (put_all held ns) + 1) → set.len (put_all held ns) ≤ set.len held + length ns → set.len (set.insert (put_all held ns) n) ≤ set.len held + suc (length ns)
    by true e later = omega arith
    by false e later = omega arith

or_swap : (a b c : Bool) → (a || (b || c)) ≡ (b || (a || c))
or_swap true true c = refl
or_swap true false c = refl
or_swap false b c = refl

none_more : (b : Bool) → (b || false) ≡ b
none_more true = refl
none_more false = refl

put_either : (held : Blocks) (q : ℕ) (ns : List ℕ) → (set.contains held q || set.contains (set.from_list {R = nat_cmp} ns) q) ≡ set.contains (put_all held ns) q
put_either held q [] = ap (λ b. set.contains held q || b) (set.contains-empty nat_cmp q) ∙ none_more (set.contains held q)
put_either held q (n ∷ ns) =
    ap (λ b. set.contains held q || b) (set.contains-insert nat_cmp_total (set.from_list ns) n q)
    ∙ or_swap (set.contains held q) (eq_by_cmp nat_cmp q n) _
    ∙ ap (λ b. eq_by_cmp nat_cmp q n || b) (put_either held q ns)
    ∙ sym (set.contains-insert nat_cmp_total (put_all held ns) n q)

union_all : (held : Blocks) (ns : List ℕ) → set.union held (set.from_list ns) ≡ put_all held ns
union_all held ns = set.same_set nat_cmp_total set.nat_cmp-IsAntisymmetric _ _ (λ q. set.contains-union nat_cmp_total held (set.from_list ns) q ∙ put_either held q ns)

-- a write adds at most the blocks that it covers
written_len : (at : ℕ) (text : List ℕ) (contents : Contents) → set.len (written at text contents).held ≤ set.len contents.held + length (covered at text)
written_len at [] contents = omega arith
written_len at (b ∷ bs) contents = omega (arith, ap set.len (union_all contents.held (covered at (b ∷ bs))), put_all_len contents.held (covered at (b ∷ bs)))

-- and within a file these are no more than a file has
few_covered : (at : ℕ) (text : List ℕ) → at + length text ≤ MAX_FILE → length (covered at text) ≤ file_blocks
few_covered at [] fits = omega arith
few_covered at (b ∷ bs) fits = omega (arith, length-range_with_len (at / BLOCK_BYTES) ((at + length bs) / BLOCK_BYTES + 1 - at / BLOCK_BYTES))

-- ---- the steps

-- at most so many nodes and blocks more, no more blocks than a file has, and the same attributes
record Adds (nodes_more blocks_more : ℕ) (old new : Sizes) : Type 0 where
  nodes : new.nodes ≤ old.nodes + nodes_more
  attributes : new.attributes ≡ old.attributes
  blocks : new.blocks ≤ old.blocks + blocks_more
  file : new.blocks ≤ old.blocks + file_blocks

kept : (n b : ℕ) (tree : Tree) → Adds n b (sizes_of tree) (sizes_of tree)
kept n b tree = record { nodes = omega arith; attributes = refl; blocks = omega arith; file = omega arith }

inserted_len : (tree : Tree) (p : Path) (node : Node) (there : Option Node) → get tree p ≡ there → finite.len (insert tree p node) ≡ cond (is_some there) (finite.len tree) (finite.len tree + 1)
inserted_len tree p node there is = finite.len-insert paths_total tree p node ∙ ap (λ (o : Option Node). cond (is_some o) (finite.len tree) (finite.len tree + 1)) is

-- a new node that holds nothing
placed : (tree : Tree) (p : Path) (node : Node) → attribute_count node ≡ 0 → held_count node ≡ 0 → (way : Option Refusal) (there : Option Node) → get tree p ≡ there → Adds 1 0 (sizes_of tree) (sizes_of (place tree p node way there).1)
placed tree p node bare empty (Some refusal) there is = kept 1 0 tree
placed tree p node bare empty None (Some other) is = kept 1 0 tree
placed tree p node bare empty None None is =
    let len = inserted_len tree p node None is in
    let attributes = inserted_sum attribute_count tree p node is in
    let blocks = inserted_sum held_count tree p node is in
    record { nodes = omega arith; attributes = omega arith; blocks = omega arith; file = omega arith }

-- a text in the place of bytes of a file
wrote : (tree : Tree) (p : Path) (at : ℕ) (text : List ℕ) (contents : Contents) (attributes : Attributes) → get tree p ≡ Some (File contents attributes) → (b : Bool) → nat_lt MAX_FILE (at + length text) ≡ b
    → Adds 0 (length (covered at text)) (sizes_of tree) (sizes_of (cond b (let a : Result Answer Refusal × Tree = (Err TooLong, tree) in a) (Ok Done, insert tree p (File (written at text contents) attributes))).1)
wrote tree p at text contents attributes is true e = kept 0 _ tree
wrote tree p at text contents attributes is false e =
    let node = File (written at text contents) attributes in
    let len = inserted_len tree p node (Some (File contents attributes)) is in
    let same_attributes = replaced_sum tree p attribute_count (File contents attributes) node is in
    let more_blocks = replaced_sum tree p held_count (File contents attributes) node is in
    let more = written_len at text contents in
    let few = few_covered at text (fits (at + length text) e) in
    record { nodes = omega arith; attributes = omega arith; blocks = omega arith; file = omega arith }
  where
    fits : (n : ℕ) → nat_lt MAX_FILE n ≡ false → n ≤ MAX_FILE
    fits n e = ltb-false _ _ e

written_grows : (tree : Tree) (p : Path) (at : ℕ) (text : List ℕ) (way : Option Refusal) (there : Option Node) → get tree p ≡ there → Adds 0 (length (covered at text)) (sizes_of tree) (sizes_of (write_at tree p at text way there).1)
written_grows tree p at text (Some refusal) there is = kept 0 _ tree
written_grows tree p at text None None is = kept 0 _ tree
written_grows tree p at text None (Some (Dir attributes)) is = kept 0 _ tree
written_grows tree p at text None (Some (File contents attributes)) is = wrote tree p at text contents attributes is (nat_lt MAX_FILE (at + length text)) refl

mkdir_grows : (tree : Tree) (p : Path) → Adds 1 0 (sizes_of tree) (sizes_of (mkdir tree p).1)
mkdir_grows tree [] = kept 1 0 tree
mkdir_grows tree (n ∷ ns) = placed tree (n ∷ ns) empty_dir (finite.len-empty name_cmp (List ℕ)) refl (walk tree (n ∷ ns)) (get tree (n ∷ ns)) refl

create_grows : (tree : Tree) (p : Path) → Adds 1 0 (sizes_of tree) (sizes_of (create tree p).1)
create_grows tree [] = kept 1 0 tree
create_grows tree (n ∷ []) = kept 1 0 tree
create_grows tree (n ∷ m ∷ ns) = placed tree (n ∷ m ∷ ns) empty_file (finite.len-empty name_cmp (List ℕ)) (set.len-empty nat_cmp) (walk tree (n ∷ m ∷ ns)) (get tree (n ∷ m ∷ ns)) refl

pub Grows-do_step : (tree : Tree) (step : Step) → Grows step (sizes_of tree) (sizes_of (do_step tree step).1)
Grows-do_step tree (Mkdir path) = let a = mkdir_grows tree path in record { nodes = a.nodes; attributes = a.attributes; blocks = a.blocks; file = a.file }
Grows-do_step tree (Create path) = let a = create_grows tree path in record { nodes = a.nodes; attributes = a.attributes; blocks = a.blocks; file = a.file }
Grows-do_step tree (Write path at text) = let a = written_grows tree path at text (walk tree path) (get tree path) refl in record { nodes = a.nodes; attributes = a.attributes; blocks = a.blocks; file = a.file }
Grows-do_step tree (Read path at count) = let a = kept 0 0 tree in record { nodes = a.nodes; attributes = a.attributes; blocks = a.blocks; file = a.file }
Grows-do_step tree (ListStep path) = let a = kept 0 0 tree in record { nodes = a.nodes; attributes = a.attributes; blocks = a.blocks; file = a.file }
Grows-do_step tree (StatStep path) = let a = kept 0 0 tree in record { nodes = a.nodes; attributes = a.attributes; blocks = a.blocks; file = a.file }

-- ---- the number of nodes

pub node_count-root : node_count root ≡ 1
node_count-root =
    let len = inserted_len finite.empty [] empty_dir None (finite.get-empty path_cmp []) in
    let no_len = finite.len-empty path_cmp Node in
    omega arith

pub node_count-insert : (tree : Tree) (p : Path) (node : Node) → node_count (insert tree p node) ≤ node_count tree + 1
node_count-insert tree p node = by (is_some (get tree p)) (inserted_len tree p node (get tree p) refl)
  where
    by : (b : Bool) → finite.len (insert tree p node) ≡ cond b (finite.len tree) (finite.len tree + 1) → finite.len (insert tree p node) ≤ finite.len tree + 1
    by true e = omega arith
    by false e = omega arith

placed_count : (tree : Tree) (p : Path) (node : Node) (way : Option Refusal) (there : Option Node) → node_count (place tree p node way there).1 ≤ node_count tree + 1
placed_count tree p node (Some refusal) there = omega arith
placed_count tree p node None (Some other) = omega arith
placed_count tree p node None None = node_count-insert tree p node

written_count : (tree : Tree) (p : Path) (at : ℕ) (text : List ℕ) (way : Option Refusal) (there : Option Node) → get tree p ≡ there → node_count (write_at tree p at text way there).1 ≤ node_count tree + 0
written_count tree p at text (Some refusal) there is = omega arith
written_count tree p at text None None is = omega arith
written_count tree p at text None (Some (Dir attributes)) is = omega arith
written_count tree p at text None (Some (File contents attributes)) is = by (nat_lt MAX_FILE (at + length text))
  where
    node : Node
    node = File (written at text contents) attributes

    by : (b : Bool) → node_count (cond b (let a : Result Answer Refusal × Tree = (Err TooLong, tree) in a) (Ok Done, insert tree p node)).1 ≤ node_count tree + 0
    by true = omega arith
    by false = omega (arith, inserted_len tree p node (Some (File contents attributes)) is)

pub node_count-do_step : (tree : Tree) (step : Step) → node_count (do_step tree step).1 ≤ node_count tree + new_nodes step
node_count-do_step tree (Mkdir []) = omega arith
node_count-do_step tree (Mkdir (n ∷ ns)) = placed_count tree (n ∷ ns) empty_dir (walk tree (n ∷ ns)) (get tree (n ∷ ns))
node_count-do_step tree (Create []) = omega arith
node_count-do_step tree (Create (n ∷ [])) = omega arith
node_count-do_step tree (Create (n ∷ m ∷ ns)) = placed_count tree (n ∷ m ∷ ns) empty_file (walk tree (n ∷ m ∷ ns)) (get tree (n ∷ m ∷ ns))
node_count-do_step tree (Write path at text) = written_count tree path at text (walk tree path) (get tree path) refl
node_count-do_step tree (Read path at count) = omega arith
node_count-do_step tree (ListStep path) = omega arith
node_count-do_step tree (StatStep path) = omega arith

-- no directory has more children than the tree has nodes
pub few_children : (tree : Tree) (p : Path) → length (children tree p) ≤ node_count tree
few_children tree p = omega (arith, fewer (child_name p) (finite.keys tree), finite.len-entries tree, length-map (finite.entries tree) (λ (e : Path × Node). e.0))
  where
    fewer : {A B : Type 0} (h : A → Option B) (xs : List A) → length (filter_map h xs) ≤ length xs
    fewer h [] = omega arith
    fewer h (x ∷ xs) = kept (h x) (filter_map h xs) (fewer h xs)
      where
        kept : {B : Type 0} (o : Option B) (ys : List B) → length ys ≤ length xs → length (cons_option o ys) ≤ suc (length xs)
        kept None ys le = omega arith
        kept (Some y) ys le = omega arith

-- ---- many steps

pub SizesWithin-root : SizesWithin 0 (sizes_of root)
SizesWithin-root =
    let none = finite.get-empty path_cmp [] in
    let len = inserted_len finite.empty [] empty_dir None none in
    let no_len = finite.len-empty path_cmp Node in
    let attributes = inserted_sum attribute_count finite.empty [] empty_dir none in
    let blocks = inserted_sum held_count finite.empty [] empty_dir none in
    let no_attributes = finite.len-empty name_cmp (List ℕ) in
    let no_nodes = empty_values in
    record { nodes = omega arith; attributes = omega (arith, ap (sum_by attribute_count) empty_values); blocks = omega (arith, ap (sum_by held_count) empty_values) }
  where
    no_entries : {A : Type 0} (xs : List A) → length xs ≡ 0 → xs ≡ []
    no_entries [] e = refl
    no_entries (x ∷ xs) e = absurd (cc)

    empty_values : finite.values (finite.empty {K = Path} {X = Node} {R = path_cmp}) ≡ []
    empty_values = ap (map (λ (e : Path × Node). e.1)) (no_entries _ (sym (finite.len-entries finite.empty) ∙ finite.len-empty path_cmp Node))

one_more : (n : ℕ) (step : Step) (old new : Sizes) → SizesWithin n old → Grows step old new → SizesWithin (suc n) new
one_more n step old new within grows = record {
  nodes = omega (arith, few step);
  attributes = omega arith;
  blocks = omega arith;
}
  where
    few : (step : Step) → new_nodes step ≤ 1
    few (Mkdir path) = omega arith
    few (Create path) = omega arith
    few (Write path at text) = omega arith
    few (Read path at count) = omega arith
    few (ListStep path) = omega arith
    few (StatStep path) = omega arith

after : (n : ℕ) (tree : Tree) (steps : List Step) → SizesWithin n (sizes_of tree) → SizesWithin (length steps + n) (sizes_of (tree_after_steps tree steps))
after n tree [] within = record { nodes = omega arith; attributes = within.attributes; blocks = omega arith }
after n tree (step ∷ steps) within =
    let later = after (suc n) (do_step tree step).1 steps (one_more n step (sizes_of tree) (sizes_of (do_step tree step).1) within (Grows-do_step tree step)) in
    record { nodes = omega arith; attributes = later.attributes; blocks = omega arith }

pub SizesWithin-after : (steps : List Step) → SizesWithin (length steps) (sizes_of (tree_after_steps root steps))
SizesWithin-after steps =
    let all = after 0 root steps SizesWithin-root in
    record { nodes = omega arith; attributes = all.attributes; blocks = omega arith }
