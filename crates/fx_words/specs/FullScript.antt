-- What a script of all words says, and its first wrong line.
use Rattle.std.specs.Prelude.{ℕ, ◌+◌, ◌<◌, ◌≤◌, Bool, List, [], ◌∷◌, Option, Result, Ok, Err, if◌then◌else◌, length, nat_lt}
use Rattle.std.specs.List.{list_all}
use Rattle.std.specs.Borrow.{Bor}
use Rattle.std.specs.Char.{is_ascii}
use Rattle.fx_script.specs.declared.fault.LineFault.TheVariants as faults
use Rattle.fx_script.specs.declared.sent.TheConstants.{MAX_CLIENT, MAX_LINES}
use Rattle.fx_script.specs.Cut.{cut_rest, lines_of, words_of}
use Rattle.fx_script.specs.Script.{sender_of}
use Rattle.fx_words.specs.declared.built.Built.{Built}
use Rattle.fx_words.specs.declared.fault.WordFault.{WordFault}
use Rattle.fx_words.specs.declared.line.FullLine.{FullLine}
use Rattle.fx_words.specs.declared.line.FullLine.TheVariants.{Sync}
use Rattle.fx_words.specs.declared.script.FullTask.{FullTask}
use Rattle.fx_words.specs.declared.script.BadFullLine.{BadFullLine}
use Rattle.fx_words.specs.FullText.{FullLineKeepsRules}
use Rattle.fx_words.specs.Lines.{◌>>=◌, basic_fault, full_line_of_words, with_basic_fault}

abbrev pub full_task : ℕ → ℕ → FullLine → FullTask
full_task number client line = record { client = client; number = number; line = line }

-- the task of a line, once what it says is found
abbrev pub task_saying : ℕ → ℕ → Result FullLine WordFault → Result FullTask WordFault
task_saying number client said = said >>= λ line. Ok (full_task number client line)

-- the task of these words
abbrev pub full_task_of_words : Built → Bool → ℕ → List (List ℕ) → Result FullTask WordFault
full_task_of_words built many number words =
    with_basic_fault (sender_of many words) >>= λ (client, words).
    task_saying number client (full_line_of_words built words)

-- the task of the line with this number, or its first fault: TooManyLines, NotAscii, Empty,
-- BadClient, and then those of its words
abbrev pub full_task_of : Built → Bool → ℕ → List ℕ → Result FullTask WordFault
full_task_of built many number line =
    if nat_lt MAX_LINES number then basic_fault faults.TooManyLines
    else if list_all is_ascii line then full_task_of_words built many number (words_of line)
    else basic_fault faults.NotAscii

abbrev pub wrong_line : ℕ → WordFault → BadFullLine
wrong_line number fault = record { number = number; fault = fault }

abbrev pub before_full : ℕ → Result FullTask WordFault → Result (List FullTask) BadFullLine
    → Result (List FullTask) BadFullLine
before_full number (Err fault) tasks = Err (wrong_line number fault)
before_full number (Ok task) (Err fault) = Err fault
before_full number (Ok task) (Ok tasks) = Ok (task ∷ tasks)

-- the tasks of the lines, of which the first has this number, or the first wrong line
abbrev pub full_tasks_from : Built → Bool → ℕ → List (List ℕ) → Result (List FullTask) BadFullLine
full_tasks_from built many number [] = Ok []
full_tasks_from built many number (line ∷ lines) =
    before_full number (full_task_of built many number line)
    (full_tasks_from built many (number + 1) lines)

-- the tasks of a script, of many clients or of one, or its first wrong line; lines count from 1
abbrev pub full_script_of : Built → Bool → List ℕ → Result (List FullTask) BadFullLine
full_script_of built many script = full_tasks_from built many 1 (lines_of script)

-- ---- what was checked

-- the client, and the words behind it
abbrev pub sender_said : Result (ℕ × Option (Bor (List ℕ))) WordFault
    → Result (ℕ × List (List ℕ)) WordFault
sender_said found = found >>= λ sent. Ok (sent.0, cut_rest 32 sent.1)

-- the line that was read, where the words had no fault
abbrev pub full_line_read : Result FullLine WordFault → FullLine
full_line_read (Ok line) = line
full_line_read (Err fault) = Sync

-- the tasks that were read, where there was no wrong line
abbrev pub full_tasks_read : Result (List FullTask) BadFullLine → List FullTask
full_tasks_read (Ok tasks) = tasks
full_tasks_read (Err fault) = []

-- how many tasks there are after so many, if there is no wrong line
abbrev pub full_counted : ℕ → Result (List FullTask) BadFullLine → Result ℕ BadFullLine
full_counted before (Ok tasks) = Ok (before + length tasks)
full_counted before (Err fault) = Err fault

-- a task that a script can say: its line is one that the grammar has, and its client is one
abbrev pub FullTaskKeepsRules : FullTask → Type 0
FullTaskKeepsRules task =
    (0 < task.client) × (task.client ≤ MAX_CLIENT) × FullLineKeepsRules task.line
