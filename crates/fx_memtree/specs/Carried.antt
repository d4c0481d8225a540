-- A subtree that is moved node by node.
use Rattle.std.specs.Prelude.{ℕ, ◌+◌, Bool, List, [], ◌∷◌, ◌++◌, Option, None, Some, if◌then◌else◌, drop, is_some, length, filter, map, nat_lt}
use Rattle.std.specs.List.{list_any}
use Rattle.std.specs.FinMap as finite
use Rattle.fx_plain.specs.Node.{Node, empty_dir}
use Rattle.fx_plain.specs.Tree.{Tree}
use Rattle.fx_plain.specs.declared.path.TheConstants.{MAX_NAMES}
use Rattle.fx_steps.specs.Moved.{lies_below}
use Rattle.fx_memtree.specs.declared.carry.Carry.{Carry}

-- the way of one node: from its path to the one that it has below the other
abbrev pub carry_of : List (List ℕ) → List (List ℕ) → List (List ℕ) → Carry
carry_of from to path = record { old = path; new = to ++ drop (length from) path }

-- the ways of all nodes at a path and below it
abbrev pub carries_of : Tree → List (List ℕ) → List (List ℕ) → List Carry
carries_of tree from to = map (carry_of from to) (filter (lies_below from) (finite.keys tree))

-- whether a way ends too deep
abbrev pub ends_deep : Carry → Bool
ends_deep carry = nat_lt MAX_NAMES (length carry.new)

-- the tree with empty directories at the ends of the ways
abbrev pub with_held_places : Tree → List Carry → Tree
with_held_places tree [] = tree
with_held_places tree (carry ∷ carries) =
    with_held_places (finite.insert tree carry.new empty_dir) carries

-- the tree with nothing at the ends of the ways
abbrev pub without_held_places : Tree → List Carry → Tree
without_held_places tree [] = tree
without_held_places tree (carry ∷ carries) =
    without_held_places (finite.remove tree carry.new) carries

-- the node in the place of what lies at a path; where nothing does, it is lost
abbrev pub put_in_place : Tree → List (List ℕ) → Option Node → Tree
put_in_place tree path None = tree
put_in_place tree path (Some node) =
    if is_some (finite.get tree path) then finite.insert tree path node else tree

abbrev pub carried : Tree → Carry → Tree
carried tree carry =
    put_in_place (finite.remove tree carry.old) carry.new (finite.get tree carry.old)

abbrev pub carried_all : Tree → List Carry → Tree
carried_all tree [] = tree
carried_all tree (carry ∷ carries) = carried_all (carried tree carry) carries
