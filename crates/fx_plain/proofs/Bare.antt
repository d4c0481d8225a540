-- What bare trees are, and what a step that is done changes.
use Rattle.std.proofs.Common.{◌≡◌, ℕ, ◌+◌, Bool, true, false, cond, List, [], ◌∷◌, ◌++◌, length, length-append, refl, sym, ap, ◌∙◌, arith}
use Rattle.std.specs.Prelude.{Option, None, Some, option_map, map, Result, Ok, Err, nat_lt}
use Rattle.std.specs.FinMap as finite
use Rattle.std.specs.FinMap.{get, insert, get-empty, get-from_entries, get-insert, get-entries, same_map}
use Rattle.std.specs.FinMap.Entries.{find}
use Rattle.std.specs.Ordering.{eq_by_cmp}
use Rattle.fx_plain.specs.Node.{Attributes, Contents, Node, Dir, File, empty_dir, empty_file, written}
use Rattle.fx_plain.specs.Tree.{IsTree, Tree, path_cmp, root}
use Rattle.fx_plain.specs.Table.{do_step, place, walk, write_at}
use Rattle.fx_plain.specs.Bare.{IsCreated, IsPlaced, IsWritten, bare, bare_node}
use Rattle.fx_plain.specs.declared.contents.TheConstants.{MAX_FILE}
use Rattle.fx_plain.specs.declared.step.Step.TheVariants.{Mkdir, Create, Write}
use Rattle.fx_plain.specs.declared.step.Answer.{Answer}
use Rattle.fx_plain.specs.declared.step.Answer.TheVariants.{Done}
use Rattle.fx_plain.specs.declared.step.Refusal.{Refusal}
use Rattle.fx_plain.specs.declared.step.Refusal.TheVariants.{TooLong}
use Rattle.fx_plain.proofs.Paths.{paths_total, paths_exact}
use Rattle.fx_plain.proofs.Trees.{walked}
use Rattle.fx_plain.proofs.Views.{insert_same}

abbrev Path : Type 0
Path = List (List ℕ)

-- ---- bare trees

find-bare : (q : Path) (es : List (Path × Node)) → find path_cmp q (map (λ e. (e.0, bare_node e.1)) es) ≡ option_map bare_node (find path_cmp q es)
find-bare q [] = refl
find-bare q (e ∷ es) =
    elim (eq_by_cmp path_cmp q e.0) as (λ b. cond b (Some (bare_node e.1)) (find path_cmp q (map (λ e. (e.0, bare_node e.1)) es)) ≡ option_map bare_node (cond b (Some e.1) (find path_cmp q es))) [
      | true ↦ refl
      | false ↦ find-bare q es
    ]

-- at each path lies the node that lay there, bare
pub get-bare : (tree : Tree) (path : Path) → get (bare tree) path ≡ option_map bare_node (get tree path)
unfolding bare
get-bare tree path = get-from_entries paths_total (map (λ e. (e.0, bare_node e.1)) (finite.entries tree)) path ∙ find-bare path (finite.entries tree) ∙ ap (option_map bare_node) (sym (get-entries tree path))

under : (b : Bool) (node : Node) (there : Option Node) → option_map bare_node (cond b (Some node) there) ≡ cond b (Some (bare_node node)) (option_map bare_node there)
under true node there = refl
under false node there = refl

-- an insertion into the tree is one of the bare node into the bare tree
pub bare-insert : (tree : Tree) (path : Path) (node : Node) → bare (insert tree path node) ≡ insert (bare tree) path (bare_node node)
bare-insert tree path node = same_map paths_total paths_exact _ _ (λ q.
    get-bare (insert tree path node) q
    ∙ ap (option_map bare_node) (get-insert paths_total tree path node q)
    ∙ under (eq_by_cmp path_cmp q path) node (get tree q)
    ∙ sym (get-insert paths_total (bare tree) path (bare_node node) q ∙ ap (cond (eq_by_cmp path_cmp q path) (Some (bare_node node))) (get-bare tree q)))

bare_empty : bare finite.empty ≡ finite.empty
bare_empty = same_map paths_total paths_exact _ _ (λ q. get-bare finite.empty q ∙ ap (option_map bare_node) (get-empty path_cmp q) ∙ sym (get-empty path_cmp q))

pub bare-root : bare root ≡ root
bare-root = bare-insert finite.empty [] empty_dir ∙ ap (λ tree. insert tree [] empty_dir) bare_empty

twice : (there : Option Node) → option_map bare_node (option_map bare_node there) ≡ option_map bare_node there
twice None = refl
twice (Some (Dir attributes)) = refl
twice (Some (File contents attributes)) = refl

pub bare-bare : (tree : Tree) → bare (bare tree) ≡ bare tree
bare-bare tree = same_map paths_total paths_exact _ _ (λ q. get-bare (bare tree) q ∙ ap (option_map bare_node) (get-bare tree q) ∙ twice (get tree q) ∙ sym (get-bare tree q))

-- ---- what a step that is done changes

-- a path that is not the root's ends in a name
last_apart : (first : List ℕ) (names : Path) → (above : Path) × (name : List ℕ) × (first ∷ names ≡ above ++ name ∷ [])
last_apart first [] = ([], first, refl)
last_apart first (second ∷ names) = let later = last_apart second names in (first ∷ later.0, later.1, ap (λ p. first ∷ p) later.2)

not_done : (refusal : Refusal) (answer : Answer) → (let a : Result Answer Refusal = Err refusal in a ≡ Ok answer) → ⊥
not_done refusal answer e = cc e

made : (tree : Tree) (first : List ℕ) (names : Path) (node : Node) (answer : Answer) → bare_node node ≡ node → (way : Option Refusal) (there : Option Node) → walk tree (first ∷ names) ≡ way → get tree (first ∷ names) ≡ there
    → (place tree (first ∷ names) node way there).0 ≡ Ok answer → IsPlaced tree (first ∷ names) node (place tree (first ∷ names) node way there).1
made tree first names node answer same (Some refusal) there e f done = absurd (cc done)
made tree first names node answer same None (Some other) e f done = absurd (cc done)
made tree first names node answer same None None e f done =
    let parts = last_apart first names in
    let directory = walked tree [] parts.0 parts.1 (ap (walk tree) (sym parts.2) ∙ e) in
    record {
      above = parts.0;
      name = parts.1;
      path_is = parts.2;
      attributes = directory.0;
      directory = directory.1;
      free = f;
      inserted = refl;
      bare_inserted = bare-insert tree (first ∷ names) node ∙ ap (insert (bare tree) (first ∷ names)) same;
    }

-- a directory that was made
pub mkdir_made : (tree : Tree) (path : Path) (answer : Answer) → (do_step tree (Mkdir path)).0 ≡ Ok answer → IsPlaced tree path empty_dir (do_step tree (Mkdir path)).1
mkdir_made tree [] answer done = absurd (cc done)
mkdir_made tree (first ∷ names) answer done = made tree first names empty_dir answer refl (walk tree (first ∷ names)) (get tree (first ∷ names)) refl refl done

-- a file that was made
pub create_made : (tree : Tree) (path : Path) (answer : Answer) → (do_step tree (Create path)).0 ≡ Ok answer → IsCreated tree path (do_step tree (Create path)).1
create_made tree [] answer done = absurd (cc done)
create_made tree (volume ∷ []) answer done = absurd (cc done)
create_made tree (volume ∷ name ∷ names) answer done =
    let file = made tree volume (name ∷ names) empty_file answer refl (walk tree (volume ∷ name ∷ names)) (get tree (volume ∷ name ∷ names)) refl refl done in
    record {
      made = file;
      in_volume = λ e. omega (arith, ap length file.path_is, length-append file.above (file.name ∷ []), ap length e);
    }

written_done : (tree : Tree) (path : Path) (at : ℕ) (text : List ℕ) (answer : Answer) (contents : Contents) (attributes : Attributes) → IsTree tree → get tree path ≡ Some (File contents attributes) → (b : Bool)
    → (cond b (let a : Result Answer Refusal × Tree = (Err TooLong, tree) in a) (Ok Done, insert tree path (File (written at text contents) attributes))).0 ≡ Ok answer
    → IsWritten tree path at text (cond b (let a : Result Answer Refusal × Tree = (Err TooLong, tree) in a) (Ok Done, insert tree path (File (written at text contents) attributes))).1
written_done tree path at text answer contents attributes k f true done = absurd (cc done)
written_done tree path at text answer contents attributes k f false done = record {
  contents = contents;
  attributes = attributes;
  file = f;
  below_root = λ e. absurd (cc (sym k.top ∙ ap (get tree) (sym e) ∙ f));
  inserted = refl;
  bare_kept = bare-insert tree path (File (written at text contents) attributes) ∙ insert_same (bare tree) path (bare_node (File (written at text contents) attributes)) (get-bare tree path ∙ ap (option_map bare_node) f);
}

written_where : (tree : Tree) (path : Path) (at : ℕ) (text : List ℕ) (answer : Answer) → IsTree tree → (way : Option Refusal) (there : Option Node) → get tree path ≡ there
    → (write_at tree path at text way there).0 ≡ Ok answer → IsWritten tree path at text (write_at tree path at text way there).1
written_where tree path at text answer k (Some refusal) there f done = absurd (cc done)
written_where tree path at text answer k None None f done = absurd (cc done)
written_where tree path at text answer k None (Some (Dir attributes)) f done = absurd (cc done)
written_where tree path at text answer k None (Some (File contents attributes)) f done = written_done tree path at text answer contents attributes k f (nat_lt MAX_FILE (at + length text)) done

-- a file that was written
pub write_made : (tree : Tree) (path : Path) (at : ℕ) (text : List ℕ) (answer : Answer) → IsTree tree → (do_step tree (Write path at text)).0 ≡ Ok answer → IsWritten tree path at text (do_step tree (Write path at text)).1
write_made tree path at text answer k done = written_where tree path at text answer k (walk tree path) (get tree path) refl done
