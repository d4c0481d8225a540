-- What one number alone does after a mount, to make a directory in the root.
use Rattle.std.specs.Prelude.{ℕ, ◌+◌, List, [], ◌∷◌}
use Rattle.std.specs.FinMap as finite
use Rattle.fx_item.specs.declared.lock.Mode.TheVariants.{Change, Write}
use Rattle.fx_item.specs.declared.space.Need.{Need}
use Rattle.fx_keys.specs.Table.{Table}
use Rattle.fx_keys.specs.declared.table.Asked.TheVariants.{Held}
use Rattle.fx_plain.specs.declared.kind.Kind.TheVariants as kinds
use Rattle.fx_plain.specs.declared.step.Step.TheVariants.{Mkdir}
use Rattle.fx_history.specs.declared.entry.Entry.{Entry}
use Rattle.fx_namespace.specs.Commits.{new_items}
use Rattle.fx_namespace.specs.Nodes.{root_node}
use Rattle.fx_events.specs.Notes.{Mounted}
use Rattle.fx_parts.specs.Happening.{AskKey, Commit, Enter, MakeRoom, RaiseKey, Reserve, SharedEvent, TakeSnapshot}

-- the key tables, each after one call more: room for a key, the root's key, and that key raised
abbrev pub room_table : Table
room_table = record { holds = finite.empty; rooms = finite.insert finite.empty 1 1 }

abbrev pub asked_table : Table
asked_table = record {
  holds = finite.insert finite.empty (root_node, 1) Change;
  rooms = finite.insert room_table.rooms 1 0;
}

abbrev pub raised_table : Table
raised_table = record {
  holds = finite.insert asked_table.holds (root_node, 1) Write;
  rooms = asked_table.rooms;
}

abbrev pub one_node : Need
one_node = record { nodes = 1; attributes = 0; blocks = 0 }

abbrev pub making_entry : Mounted → List ℕ → Entry
making_entry mounted name = record {
  number = mounted.kept + 1;
  who = 1;
  line = 1;
  steps = Mkdir (name ∷ []) ∷ [];
  settled = 0;
}

-- the events by which number 1 makes a directory of this name, which is node 0 of the next store
abbrev pub making_events : Mounted → (stores : ℕ) → List ℕ → List SharedEvent
making_events mounted stores name =
    Enter 1 ∷ MakeRoom 1 1 room_table ∷ AskKey 1 root_node Change Held asked_table
    ∷ TakeSnapshot 1 ∷ Reserve 1 one_node 0 ∷ RaiseKey 1 root_node Held raised_table
    ∷ Commit 1 (making_entry mounted name)
    (new_items root_node name (record { store = stores; id = 0 }) kinds.Dir) ∷ []
