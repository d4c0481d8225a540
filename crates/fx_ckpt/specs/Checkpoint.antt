-- A checkpoint: the superblock it begins from, the one to come, and how far it has come.
use Rattle.std.specs.Prelude.{ℕ, ◌+◌, Bool, true, false, List, ◌++◌, drop, Option, option_to_list}
use Rattle.fx_jblock.specs.declared.Start.{Start}
use Rattle.fx_super.specs.Super.{Fields}
use Rattle.fx_super.specs.Chosen.{block_number, other}
use Rattle.fx_super.specs.declared.choice.Which.{Which}
use Rattle.fx_ckpt.specs.declared.checkpoint.Phase.{Phase}
use Rattle.fx_ckpt.specs.declared.checkpoint.Phase.TheVariants as phases

-- The superblock that stands when the checkpoint begins, and its block; the one to come; and the
-- phase. When it is finished the one to come stands, in the other block.
pub record CkptState : Type 0 where
  pub current : Fields
  pub slot : Which
  pub coming : Fields
  pub phase : Phase

-- The superblock to come, before its layers are known: it has this version, the next generation,
-- the place and the floor of the journal's start, and this base.
abbrev pub begun_fields : Fields → (version : ℕ) → Start → (base : ℕ) → Fields
begun_fields f version start base = record f {
  version = version;
  generation = f.generation + 1;
  sequence = start.sequence;
  chain = start.chain;
  floor = start.floor;
  base = base;
}

-- The new layers stand before those that stay, which are all but the newest so many.
abbrev pub layers_made : (newest : ℕ) → Option ℕ → List ℕ → List ℕ
layers_made newest first layers = option_to_list first ++ drop newest layers

-- The new layers are named.
abbrev pub with_layers : CkptState → (newest : ℕ) → (objects allocs : Option ℕ) → CkptState
with_layers s newest objects allocs = record s {
  phase = phases.Named;
  coming = record s.coming {
    objects = layers_made newest objects s.current.objects;
    allocs = layers_made newest allocs s.current.allocs;
  };
}

-- the block that the superblock to come is written to
abbrev pub coming_block : CkptState → ℕ
coming_block s = block_number (other s.slot)

-- after a good call the phase is the next one; after a failed one all stays
abbrev pub in_phase : CkptState → Phase → Bool → CkptState
in_phase s phase true = record s { phase = phase }
in_phase s phase false = s
