-- The result lines of a script of many clients.
use Rattle.std.specs.Prelude.{ℕ, ◌==◌, List, [], ◌∷◌, ◌++◌, if◌then◌else◌}
use Rattle.std.specs.List.{flat_map, range_with_len}
use Rattle.fx_script.specs.declared.script.Task.{Task}
use Rattle.fx_script.specs.declared.sent.TheConstants.{MAX_CLIENT}
use Rattle.fx_history.specs.Outcome.{LineEnd}
use Rattle.fx_history.specs.Text.{result_line}

-- the result lines of one client, in the order of its lines
abbrev pub client_text : ℕ → List Task → List LineEnd → List ℕ
client_text client [] ends = []
client_text client (task ∷ tasks) [] = []
client_text client (task ∷ tasks) (end ∷ ends) =
    (if task.client == client then result_line task end else []) ++ client_text client tasks ends

-- the result lines, client by client
abbrev pub text_by_client : List Task → List LineEnd → List ℕ
text_by_client tasks ends =
    flat_map (λ client. client_text client tasks ends) (range_with_len 1 MAX_CLIENT)
