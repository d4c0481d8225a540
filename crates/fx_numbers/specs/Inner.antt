-- What the fields stand for, and what is so of them.
use Rattle.std.specs.Prelude.{◌≡◌, ℕ, ◌+◌, ◌*◌, ◌<◌, ◌≤◌, Some, length}
use Rattle.std.specs.FinMap as finite
use Rattle.fx_events.specs.Notes.{base_number, last_commit, settled_upto}
use Rattle.fx_parts.specs.Parts.{Part}
use Rattle.fx_parts.specs.Sound.{KeysAgree}
use Rattle.fx_numbers.specs.State.{NumbersState}
use Rattle.fx_numbers.specs.Slots.{IsNumber}
use Rattle.fx_numbers.specs.declared.numbers.Numbers.TheInside.{Inside}

abbrev pub numbers_from : Inside → NumbersState
numbers_from i = record {
  kept = i.kept;
  base = i.base;
  blocks = i.blocks;
  ring = i.ring;
  notes = i.log.notes;
  levels = i.set.levels;
  table = i.table;
  parts = i.parts.parts;
  ids = i.ids;
  stores = i.stores;
  faults = i.faults;
}

-- The table and the parts hold the same keys; each number is one of 1 to 32; what is told of the
-- notes is kept beside them; each reservation has memory for its commit and for a mark of it, and so
-- has each commit that is not settled for a mark.
pub record AreNumbers (i : Inside) : Type 0 where
  pub keys : KeysAgree i.table i.parts.parts
  pub numbers : (who : ℕ) (part : Part) → finite.get i.parts.parts who ≡ Some part → IsNumber who
  pub number : i.number ≡ last_commit i.kept i.log.notes
  pub settled : i.settled ≡ settled_upto i.kept i.log.notes
  pub folded : i.folded ≡ base_number i.base i.log.notes
  pub upto : i.settled ≤ i.number
  pub notes : (length i.log.notes + i.number) + 2 * i.parts.reserved ≤ i.log.room + i.settled
  pub batches : 0 < i.parts.reserved
      → length i.set.levels.batches + i.parts.reserved ≤ i.set.room.batches
