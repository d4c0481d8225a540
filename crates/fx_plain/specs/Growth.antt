-- What a step adds to the sizes of a tree.
use Rattle.std.specs.Prelude.{◌≡◌, ℕ, ◌+◌, ◌*◌, ◌≤◌, List, [], ◌∷◌, length}
use Rattle.fx_item.specs.declared.Sizes.{Sizes}
use Rattle.fx_plain.specs.Node.{covered, file_blocks}
use Rattle.fx_plain.specs.Tree.{Tree}
use Rattle.fx_plain.specs.Table.{do_step}
use Rattle.fx_plain.specs.declared.step.Step.{Step}
use Rattle.fx_plain.specs.declared.step.Step.TheVariants.{Mkdir, Create, Write, Read, List as ListStep, Stat as StatStep}

-- the most nodes that a step adds
abbrev pub new_nodes : Step → ℕ
new_nodes (Mkdir path) = 1
new_nodes (Create path) = 1
new_nodes (Write path at text) = 0
new_nodes (Read path at count) = 0
new_nodes (ListStep path) = 0
new_nodes (StatStep path) = 0

-- the most blocks that a step adds: those that hold a byte of the text that it writes
abbrev pub new_blocks : Step → ℕ
new_blocks (Mkdir path) = 0
new_blocks (Create path) = 0
new_blocks (Write path at text) = length (covered at text)
new_blocks (Read path at count) = 0
new_blocks (ListStep path) = 0
new_blocks (StatStep path) = 0

-- what the step adds, at most: its nodes and its blocks, never more blocks than a file has, and no
-- attributes
pub record Grows (step : Step) (old new : Sizes) : Type 0 where
  pub nodes : new.nodes ≤ old.nodes + new_nodes step
  pub attributes : new.attributes ≡ old.attributes
  pub blocks : new.blocks ≤ old.blocks + new_blocks step
  pub file : new.blocks ≤ old.blocks + file_blocks

-- the tree after the steps, of which each was done or refused
abbrev pub tree_after_steps : Tree → List Step → Tree
tree_after_steps tree [] = tree
tree_after_steps tree (step ∷ steps) = tree_after_steps (do_step tree step).1 steps

-- what a tree holds at most, so many steps after the root alone
pub record SizesWithin (count : ℕ) (sizes : Sizes) : Type 0 where
  pub nodes : sizes.nodes ≤ count
  pub attributes : sizes.attributes ≡ 0
  pub blocks : sizes.blocks ≤ count * file_blocks
