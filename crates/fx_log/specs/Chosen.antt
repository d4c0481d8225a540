-- Which superblock an image has, and what it says.
use Rattle.std.specs.Prelude.{◌⊎◌, ℕ, ◌+◌, List, ◌++◌}
use Rattle.fx_super.specs.declared.choice.Which.{Which}
use Rattle.fx_super.specs.Super.{Fields}
use Rattle.fx_super.specs.Chosen.{IsChosen}
use Rattle.fx_jblock.specs.declared.Start.{Start}

-- the same superblock in the next generation
abbrev pub next_generation : Fields → Fields
next_generation f = record f { generation = f.generation + 1 }

-- In the image this superblock is chosen.
abbrev pub ChoosesSuper : Fields → List (List ℕ) → Type 0
ChoosesSuper f image = (which : Which) × IsChosen image which f

-- Or that of the next generation is.
abbrev pub ChoosesEither : Fields → List (List ℕ) → Type 0
ChoosesEither f image = ChoosesSuper f image ⊎ ChoosesSuper (next_generation f) image

-- where the superblock says that the stream begins
abbrev pub start_of : Fields → Start
start_of f = record { sequence = f.sequence; chain = f.chain; floor = f.floor }

-- the first blocks of all layers that it names
abbrev pub layers_of : Fields → List ℕ
layers_of f = f.objects ++ f.allocs
