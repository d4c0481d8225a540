-- The ways of a subtree, gathered along the map in memory.
use Rattle.std.proofs.Common.{◌≡◌, ℕ, ◌≤◌, true, false, ◌&&◌, ◌++◌, List, [], ◌∷◌, length, length-append, append_assoc, refl, sym, ap, subst, ◌∙◌, cond, arith}
use Rattle.std.specs.Prelude.{map, not, filter, Option, Some, None, is_some}
use Rattle.std.specs.List.Sorted.{IsStrictlySortedBy}
use Rattle.std.specs.Map.{keys_of}
use Rattle.std.specs.Ordering.{is_le}
use Rattle.std.proofs.lemmas.List.{append-nil}
use Rattle.fx_plain.specs.Node.{Node}
use Rattle.fx_plain.specs.Tree.{Tree, path_cmp}
use Rattle.fx_plain.specs.Memory.{path_entries, tree_of}
use Rattle.fx_plain.specs.Listing.{paths_from}
use Rattle.fx_plain.proofs.Sizes.{entries-tree_of}
use Rattle.fx_plain.proofs.Views.{Entries, Key, key_cmp}
use Rattle.fx_steps.specs.Moved.{lies_below, rest_below}
use Rattle.fx_steps.proofs.Below.{Path, rest_is}
use Rattle.fx_memtree.specs.Carried.{carries_of, carry_of}
use Rattle.fx_memtree.specs.declared.carry.Carry.{Carry}
use Rattle.fx_memtree.proofs.Sought.{IsRunFrom, below_from, run_ends, run_from, run_on}

abbrev pub paths_in : Entries → List Path
paths_in es = map (λ (e : Key × Node). e.0.items) es

filtered : (from : Key) (es : Entries) → filter (λ path. is_le (path_cmp from.items path)) (map (λ e. e.0) (path_entries es)) ≡ paths_in (filter (λ e. is_le (key_cmp from e.0) && not false) es)
filtered from [] = refl
filtered from (e ∷ es) =
    elim (is_le (path_cmp from.items e.0.items)) as (λ b. cond b (e.0.items ∷ filter (λ path. is_le (path_cmp from.items path)) (map (λ e. e.0) (path_entries es))) (filter (λ path. is_le (path_cmp from.items path)) (map (λ e. e.0) (path_entries es)))
    ≡ paths_in (cond (b && not false) (e ∷ filter (λ e. is_le (key_cmp from e.0) && not false) es) (filter (λ e. is_le (key_cmp from e.0) && not false) es))) [
      | true ↦ ap (λ rest. e.0.items ∷ rest) (filtered from es)
      | false ↦ filtered from es
    ]

found : (from : Key) (es : Entries) → IsStrictlySortedBy key_cmp (keys_of es) → paths_from (tree_of es) from.items ≡ paths_in (filter (λ e. is_le (key_cmp from e.0) && not false) es)
found from es h = ap (λ (all : List (List (List ℕ) × Node)). filter (λ path. is_le (path_cmp from.items path)) (map (λ e. e.0) all)) (entries-tree_of es h) ∙ filtered from es

-- the ways so far, and those of what is left, are all ways
pub record IsGathering (t : Tree) (from to : Path) (done : List Carry) (rest : Entries) : Type 0 where
  pub run : IsRunFrom from (paths_in rest)
  pub all : done ++ map (carry_of from to) (filter (lies_below from) (paths_in rest)) ≡ carries_of t from to

pub gathering_begins : (t : Tree) (from to : Path) (first : Key) (es rest : Entries) → first.items ≡ from → tree_of es ≡ t → IsStrictlySortedBy key_cmp (keys_of es) → rest ≡ filter (λ e. is_le (key_cmp first e.0) && not false) es → IsGathering t from to [] rest
gathering_begins t from to first es rest is tree sorted left =
    let paths : paths_from t from ≡ paths_in rest = (λ i. paths_from (sym tree i) (sym is i)) ∙ found first es sorted ∙ ap paths_in (sym left) in
    record {
      run = subst (IsRunFrom from) paths (run_from t from);
      all = ap (λ ps. map (carry_of from to) (filter (lies_below from) ps)) (sym paths) ∙ ap (map (carry_of from to)) (below_from t from);
    }

pub gathering_ends : (t : Tree) (from to : Path) (done : List Carry) (entry : Key × Node) (rest : Entries) → IsGathering t from to done (entry ∷ rest) → lies_below from entry.0.items ≡ false → done ≡ carries_of t from to
gathering_ends t from to done entry rest g not = sym (append-nil done) ∙ ap (λ ps. done ++ map (carry_of from to) ps) (sym (run_ends from entry.0.items (paths_in rest) g.run not)) ∙ g.all

pub gathering_goes_on : (t : Tree) (from to : Path) (done : List Carry) (entry : Key × Node) (rest : Entries) → IsGathering t from to done (entry ∷ rest) → lies_below from entry.0.items ≡ true → IsGathering t from to (done ++ carry_of from to entry.0.items ∷ []) rest
gathering_goes_on t from to done entry rest g lies = record {
  run = run_on from entry.0.items (paths_in rest) g.run;
  all =
      append_assoc done (carry_of from to entry.0.items ∷ []) (map (carry_of from to) (filter (lies_below from) (paths_in rest)))
      ∙ ap (λ b. done ++ map (carry_of from to) (cond b (entry.0.items ∷ filter (lies_below from) (paths_in rest)) (filter (lies_below from) (paths_in rest)))) (sym lies)
      ∙ g.all;
}

-- a path that lies below another is no shorter
pub no_shorter : (from path : Path) → lies_below from path ≡ true → length from ≤ length path
no_shorter from path lies = by (rest_below from path) refl lies
  where
    by : (o : Option Path) → rest_below from path ≡ o → is_some o ≡ true → length from ≤ length path
    by None e f = absurd (cc f)
    by (Some r) e f = omega (arith, ap length (rest_is from path r e), length-append from r)
