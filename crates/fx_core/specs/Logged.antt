-- The state that numbers share, and the journal that keeps its commits on a disk.
use Rattle.std.specs.Prelude.{◌≡◌, ℕ, ◌+◌, ◌≤◌, List}
use Rattle.fx_item.specs.Item.{PlainItem, PlainKey}
use Rattle.fx_item.specs.Look.{after_all}
use Rattle.fx_namespace.specs.Commits.{IsBelow}
use Rattle.fx_script.specs.Print.{StepKeepsRules}
use Rattle.fx_history.specs.declared.entry.Entry.{Entry}
use Rattle.fx_events.specs.Notes.{history_in, last_calls, settled_upto}
use Rattle.fx_image.specs.Journal.{Journal, journal_id, journal_lists, journal_store}
use Rattle.fx_parts.specs.Live.{live_in_lists, name_map}
use Rattle.fx_parts.specs.Parts.{Part, SharedState, live_now}
use Rattle.fx_parts.specs.Plans.{IsPlannedCommit}

-- The journal has the commits of the state: both began with one tree, the history is the one that
-- is read off the notes, what the journal's items make stands now, and all numbers that they use
-- were given out. So many calls of the disk were made.
pub record IsLogged (calls : ℕ) (s : SharedState) (j : Journal) : Type 0 where
  pub tree : s.mounted.tree ≡ j.opening.tree
  pub kept : s.mounted.kept ≡ j.opening.base
  pub history : j.commits.history ≡ history_in s.notes
  pub settled : j.opening.base + j.commits.marks ≡ settled_upto s.mounted.kept s.notes
  pub flushed : last_calls 0 s.notes ≤ calls
  pub items : (key : PlainKey) → after_all (journal_lists j) key ≡ name_map (live_now s) key
  pub ids : journal_id j ≤ s.ids
  pub stores : journal_store j ≤ s.stores

-- A commit that was planned over a snapshot, with ids above all that stands there, of a step that a
-- line can say.
pub record IsWritable (part : Part) (entry : Entry) (items : List PlainItem) : Type 0 where
  pub planned : IsPlannedCommit part entry items
  pub above : IsBelow (name_map (live_in_lists planned.snapshot.lists))
      planned.r.id planned.r.store
  pub sayable : StepKeepsRules planned.step
