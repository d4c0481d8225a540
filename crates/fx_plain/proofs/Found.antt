-- What a range of the map in memory is of the paths of the tree.
use Rattle.std.proofs.Common.{◌≡◌, ℕ, true, false, ◌&&◌, List, [], ◌∷◌, refl, ap, ◌∙◌, cond}
use Rattle.std.specs.Prelude.{map, not, filter}
use Rattle.std.specs.List.Sorted.{IsStrictlySortedBy}
use Rattle.std.specs.Map.{keys_of}
use Rattle.std.specs.Ordering.{is_le}
use Rattle.fx_plain.specs.Node.{Node}
use Rattle.fx_plain.specs.Tree.{path_cmp}
use Rattle.fx_plain.specs.Memory.{path_entries, tree_of}
use Rattle.fx_plain.specs.Listing.{IsFirst, paths_from}
use Rattle.fx_plain.proofs.Sizes.{entries-tree_of}
use Rattle.fx_plain.proofs.Views.{Entries, Key, key_cmp}

paths_of : Entries → List (List (List ℕ))
paths_of es = map (λ (e : Key × Node). e.0.items) es

filtered : (from : Key) (es : Entries) → filter (λ path. is_le (path_cmp from.items path)) (map (λ e. e.0) (path_entries es)) ≡ paths_of (filter (λ e. is_le (key_cmp from e.0) && not false) es)
unfolding paths_of
filtered from [] = refl
filtered from (e ∷ es) =
    elim (is_le (path_cmp from.items e.0.items)) as (λ b. cond b (e.0.items ∷ filter (λ path. is_le (path_cmp from.items path)) (map (λ e. e.0) (path_entries es))) (filter (λ path. is_le (path_cmp from.items path)) (map (λ e. e.0) (path_entries es)))
    ≡ paths_of (cond (b && not false) (e ∷ filter (λ e. is_le (key_cmp from e.0) && not false) es) (filter (λ e. is_le (key_cmp from e.0) && not false) es))) [
      | true ↦ ap (λ rest. e.0.items ∷ rest) (filtered from es)
      | false ↦ filtered from es
    ]

found : (from : Key) (es : Entries) → IsStrictlySortedBy key_cmp (keys_of es) → paths_from (tree_of es) from.items ≡ paths_of (filter (λ e. is_le (key_cmp from e.0) && not false) es)
found from es h = ap (λ (all : List (List (List ℕ) × Node)). filter (λ path. is_le (path_cmp from.items path)) (map (λ e. e.0) all)) (entries-tree_of es h) ∙ filtered from es

pub found_none : (from : Key) (es : Entries) → IsStrictlySortedBy key_cmp (keys_of es) → filter (λ e. is_le (key_cmp from e.0) && not false) es ≡ [] → paths_from (tree_of es) from.items ≡ []
unfolding paths_of
found_none from es h e = found from es h ∙ ap paths_of e

pub found_first : (from : Key) (es : Entries) → IsStrictlySortedBy key_cmp (keys_of es) → (e : Key × Node) (rest : Entries) → filter (λ e. is_le (key_cmp from e.0) && not false) es ≡ e ∷ rest → IsFirst e.0.items (paths_from (tree_of es) from.items)
unfolding paths_of
found_first from es h e rest is = (paths_of rest, found from es h ∙ ap paths_of is)
