-- The tree with what lies at a path, and below it, at another path.
use Rattle.std.specs.Prelude.{◌≡◌, ◌≢◌, ℕ, Bool, List, [], ◌∷◌, ◌++◌, Option, Some, None, if◌then◌else◌, map, is_some}
use Rattle.std.specs.List.{list_any}
use Rattle.std.specs.Ordering.{eq_by_cmp}
use Rattle.std.specs.FinMap as finite
use Rattle.fx_item.specs.Name.{name_cmp}
use Rattle.fx_plain.specs.Node.{Node}
use Rattle.fx_plain.specs.Tree.{Tree}

-- what a path has below another, if it lies at the other or below it
abbrev pub rest_below : List (List ℕ) → List (List ℕ) → Option (List (List ℕ))
rest_below [] path = Some path
rest_below (name ∷ above) [] = None
rest_below (name ∷ above) (first ∷ path) =
    if eq_by_cmp name_cmp name first then rest_below above path else None

abbrev pub lies_below : List (List ℕ) → List (List ℕ) → Bool
lies_below above path = is_some (rest_below above path)

-- whether something lies at the path or below it
abbrev pub has_below : Tree → List (List ℕ) → Bool
has_below tree above = list_any (lies_below above) (finite.keys tree)

-- the path, or where what is left of it lands
abbrev pub landed : List (List ℕ) → List (List ℕ) → Option (List (List ℕ)) → List (List ℕ)
landed to path None = path
landed to path (Some rest) = to ++ rest

-- where a path leads once `from` is moved to `to`
abbrev pub moved_path : List (List ℕ) → List (List ℕ) → List (List ℕ) → List (List ℕ)
moved_path from to path = landed to path (rest_below from path)

abbrev pub moved : Tree → List (List ℕ) → List (List ℕ) → Tree
moved tree from to =
    finite.from_entries (map (λ e. (moved_path from to e.0, e.1)) (finite.entries tree))

-- what lay at a path and below it lies at another, nothing lies where it was, and all else stays
pub record IsMoved (old new : List (List ℕ) → Option Node) (from to : List (List ℕ)) : Type 0 where
  pub inside : (rest : List (List ℕ)) → new (to ++ rest) ≡ old (from ++ rest)
  pub gone : (rest : List (List ℕ)) → new (from ++ rest) ≡ None
  pub others : (path : List (List ℕ)) → ((rest : List (List ℕ)) → path ≢ to ++ rest)
      → ((rest : List (List ℕ)) → path ≢ from ++ rest) → new path ≡ old path
