-- What a script says, and its first wrong line.
use Rattle.std.specs.Prelude.{ℕ, ◌+◌, ◌&&◌, Bool, true, false, List, [], ◌∷◌, Result, Ok, Err, if◌then◌else◌, nat_lt, nat_le, length}
use Rattle.std.specs.List.{list_all}
use Rattle.std.specs.Char.{is_ascii}
use Rattle.fx_script.specs.declared.fault.ScriptFault.{ScriptFault}
use Rattle.fx_script.specs.declared.fault.ScriptFault.TheVariants.{BadLine}
use Rattle.fx_script.specs.declared.script.Task.{Task}
use Rattle.fx_script.specs.declared.sent.TheConstants.{MAX_LINES, MAX_CLIENT}
use Rattle.fx_script.specs.declared.fault.LineFault.{LineFault}
use Rattle.fx_script.specs.declared.fault.LineFault.TheVariants as faults
use Rattle.fx_script.specs.Cut.{is_blank, words_of, lines_of}
use Rattle.fx_script.specs.Word.{number_in}
use Rattle.fx_script.specs.Line.{◌>>=◌, line_of_words}

-- a client: a number from 1 to 16
abbrev pub if_client : ℕ → Result ℕ LineFault
if_client number =
    if nat_lt 0 number && nat_le number MAX_CLIENT then Ok number else Err faults.BadClient

abbrev pub client_of_number : Result ℕ LineFault → Result ℕ LineFault
client_of_number (Ok number) = if_client number
client_of_number (Err fault) = Err faults.BadClient

abbrev pub client_of : List ℕ → Result ℕ LineFault
client_of word = client_of_number (number_in word)

abbrev pub task : ℕ → ℕ → List (List ℕ) → Result Task LineFault
task number client words =
    line_of_words words >>= λ line. Ok (record { client = client; number = number; line = line })

-- the client that the first word is, and the words behind it
abbrev pub first_sender : List (List ℕ) → Result (ℕ × List (List ℕ)) LineFault
first_sender [] = Err faults.Empty
first_sender (client ∷ words) = client_of client >>= λ client. Ok (client, words)

-- the client that sends these words, and what it says: client 1, or in a script of many clients the
-- first word
abbrev pub sender_of : Bool → List (List ℕ) → Result (ℕ × List (List ℕ)) LineFault
sender_of false words = Ok (1, words)
sender_of true words = if is_blank words then Err faults.Empty else first_sender words

-- the task of these words
abbrev pub task_of_words : Bool → ℕ → List (List ℕ) → Result Task LineFault
task_of_words many number words =
    sender_of many words >>= λ (client, words). task number client words

-- the task of the line with this number, or its first fault, in this order: TooManyLines, NotAscii,
-- Empty, BadClient, UnknownWord, WordCount, and then word by word BadPath, BadNumber and BadText
abbrev pub task_of : Bool → ℕ → List ℕ → Result Task LineFault
task_of many number line =
    if nat_lt MAX_LINES number then Err faults.TooManyLines
    else if list_all is_ascii line then task_of_words many number (words_of line)
    else Err faults.NotAscii

abbrev pub before_tasks : ℕ → Result Task LineFault → Result (List Task) ScriptFault
    → Result (List Task) ScriptFault
before_tasks number (Err fault) tasks = Err (BadLine number fault)
before_tasks number (Ok task) (Err fault) = Err fault
before_tasks number (Ok task) (Ok tasks) = Ok (task ∷ tasks)

-- the tasks of the lines, of which the first has this number, or the first wrong line
abbrev pub tasks_from : Bool → ℕ → List (List ℕ) → Result (List Task) ScriptFault
tasks_from many number [] = Ok []
tasks_from many number (line ∷ lines) =
    before_tasks number (task_of many number line) (tasks_from many (number + 1) lines)

-- the tasks of a script, of many clients or of one, or its first wrong line; lines count from 1
abbrev pub script_of : Bool → List ℕ → Result (List Task) ScriptFault
script_of many script = tasks_from many 1 (lines_of script)

-- the tasks that were read, where there was no wrong line
abbrev pub tasks_read : Result (List Task) ScriptFault → List Task
tasks_read (Ok tasks) = tasks
tasks_read (Err fault) = []

-- how many tasks there are after so many, if there is no wrong line
abbrev pub counted : ℕ → Result (List Task) ScriptFault → Result ℕ ScriptFault
counted before (Ok tasks) = Ok (before + length tasks)
counted before (Err fault) = Err fault
