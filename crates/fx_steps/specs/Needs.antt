-- The numbers of a line: the blocks that it writes and touches, and what it needs.
use Rattle.std.specs.Prelude.{ℕ, ◌+◌, ◌-◌, ◌/◌, ◌%◌, ◌*◌, ◌==◌, ◌&&◌, ◌||◌, not, Bool, List, [], ◌∷◌, Option, None, Some, Result, Ok, Err, if◌then◌else◌, length, nat_lt}
use Rattle.std.specs.FinMap.{get}
use Rattle.std.specs.FinSet.{contains}
use Rattle.fx_base.specs.declared.block.TheConstants.{BLOCK_BYTES}
use Rattle.fx_item.specs.declared.space.Need.{Need}
use Rattle.fx_item.specs.declared.space.Beyond.{Beyond}
use Rattle.fx_item.specs.SpaceRule.{HasRoom}
use Rattle.fx_plain.specs.Node.{Contents, Node, Dir, File, covered}
use Rattle.fx_plain.specs.Tree.{Tree, sizes_of}
use Rattle.fx_plain.specs.Growth.{new_blocks, new_nodes}
use Rattle.fx_steps.specs.declared.step.TreeStep.{TreeStep}
use Rattle.fx_steps.specs.declared.step.TreeStep.TheVariants.{Basic, Truncate, Remove, Rename, SetAttr, DelAttr, GetAttr}
use Rattle.fx_steps.specs.declared.refusal.StepRefusal.{StepRefusal}
use Rattle.fx_steps.specs.declared.refusal.StepRefusal.TheVariants.{TooBig}
use Rattle.fx_steps.specs.Rows.{do_tree_step}
use Rattle.fx_steps.specs.Groups.{do_tree_steps}

-- the most blocks that a line may write, and touch
abbrev pub most_written : ℕ
most_written = 256

abbrev pub most_touched : ℕ
most_touched = 4096

-- whether a file of these contents is cut at the size
abbrev pub cuts_file : ℕ → Contents → Bool
cuts_file size contents = nat_lt size (length contents.bytes)

-- whether the size lies inside a block, and not where one begins
abbrev pub is_inside : ℕ → Bool
is_inside size = not (size % BLOCK_BYTES == 0)

-- the cut block is written where it is held
abbrev pub cut_written : ℕ → Option Node → ℕ
cut_written size (Some (File contents attributes)) =
    if cuts_file size contents && is_inside size && contains contents.held (size / BLOCK_BYTES)
    then 1
    else 0
cut_written size there = 0

-- the blocks that begin below the old length and end past the size, held or not
abbrev pub cut_touched : ℕ → Option Node → ℕ
cut_touched size (Some (File contents attributes)) =
    if cuts_file size contents
    then (length contents.bytes + (BLOCK_BYTES - 1)) / BLOCK_BYTES - size / BLOCK_BYTES
    else 0
cut_touched size there = 0

-- the blocks that a step writes
abbrev pub step_written : Tree → TreeStep → ℕ
step_written tree (Basic step) = new_blocks step
step_written tree (Truncate path size) = cut_written size (get tree path)
step_written tree step = 0

-- the blocks that a step touches
abbrev pub step_touched : Tree → TreeStep → ℕ
step_touched tree (Basic step) = new_blocks step
step_touched tree (Truncate path size) = cut_touched size (get tree path)
step_touched tree step = 0

-- the nodes that a step makes at most
abbrev pub step_nodes : TreeStep → ℕ
step_nodes (Basic step) = new_nodes step
step_nodes step = 0

-- the attributes that a step sets
abbrev pub step_attributes : TreeStep → ℕ
step_attributes (SetAttr path name value) = 1
step_attributes step = 0

-- what a step needs on a tree
abbrev pub step_need : Tree → TreeStep → Need
step_need tree step = record {
  nodes = step_nodes step;
  attributes = step_attributes step;
  blocks = step_written tree step;
}

abbrev pub nothing_needed : Need
nothing_needed = record { nodes = 0; attributes = 0; blocks = 0 }

abbrev pub both_needs : Need → Need → Need
both_needs a b = record {
  nodes = a.nodes + b.nodes;
  attributes = a.attributes + b.attributes;
  blocks = a.blocks + b.blocks;
}

-- what a line needs: the sum over its steps, each on the tree that it meets
abbrev pub line_need : Tree → List TreeStep → Need
line_need tree [] = nothing_needed
line_need tree (step ∷ steps) =
    both_needs (step_need tree step) (line_need (do_tree_step tree step).1 steps)

-- the blocks that a line writes
abbrev pub line_written : Tree → List TreeStep → ℕ
line_written tree steps = (line_need tree steps).blocks

-- the blocks that a line touches
abbrev pub line_touched : Tree → List TreeStep → ℕ
line_touched tree [] = 0
line_touched tree (step ∷ steps) =
    step_touched tree step + line_touched (do_tree_step tree step).1 steps

abbrev pub is_too_big : Tree → List TreeStep → Bool
is_too_big tree steps =
    nat_lt most_written (line_written tree steps) || nat_lt most_touched (line_touched tree steps)

abbrev pub if_small : Bool → Result Tree (ℕ × StepRefusal) → Result Tree (ℕ × StepRefusal)
if_small big (Err refused) = Err refused
if_small big (Ok after) = if big then Err (0, TooBig) else Ok after

-- what a line does: its steps, and where none is refused it may still be too big
abbrev pub do_line : Tree → List TreeStep → Result Tree (ℕ × StepRefusal)
do_line tree steps = if_small (is_too_big tree steps) (do_tree_steps tree steps)

-- there is room for a line: on a disk and a ring of so many blocks, with what the counts hold
-- beyond the tree
abbrev pub HasLineRoom : (disk ring : ℕ) → Tree → List TreeStep → Beyond → Type 0
HasLineRoom disk ring tree steps beyond =
    HasRoom disk ring (sizes_of tree) (line_need tree steps) beyond
