-- What worked numbers are about.
use Rattle.std.specs.Prelude.{ℕ, List, [], ◌∷◌}
use Rattle.fx_item.specs.declared.space.Beyond.{Beyond}
use Rattle.fx_plain.specs.declared.step.Step.TheVariants.{Write}
use Rattle.fx_steps.specs.declared.step.TreeStep.{TreeStep}
use Rattle.fx_steps.specs.declared.step.TreeStep.TheVariants.{Basic}

-- a line that writes one text
abbrev pub one_write : List (List ℕ) → ℕ → List ℕ → List TreeStep
one_write path at text = Basic (Write path at text) ∷ []

-- the counts hold nothing beyond the tree
abbrev pub nothing_beyond : Beyond
nothing_beyond =
    record { nodes = 0; attributes = 0; blocks = 0; waiting = 0; given = 0 }
