-- What is known of a line that was checked.
use Rattle.std.specs.Prelude.{ℕ, ◌<◌, ◌≤◌, List, IsOk}
use Rattle.fx_script.specs.declared.script.Task.{Task}
use Rattle.fx_script.specs.declared.sent.TheConstants.{MAX_CLIENT}
use Rattle.fx_script.specs.Line.{line_of_words}
use Rattle.fx_script.specs.Checked.{line_read}
use Rattle.fx_script.specs.Print.{LineKeepsRules}

-- a task that a script can say: its line is one that the grammar has, and its client is one
abbrev pub TaskKeepsRules : Task → Type 0
TaskKeepsRules task = (0 < task.client) × (task.client ≤ MAX_CLIENT) × LineKeepsRules task.line

-- its words have no fault, and it is one that the grammar has, from a client
pub record IsSent (client : ℕ) (words : List (List ℕ)) : Type 0 where
  pub right : IsOk (line_of_words words)
  pub rules : LineKeepsRules (line_read (line_of_words words))
  pub from : (0 < client) × (client ≤ MAX_CLIENT)
