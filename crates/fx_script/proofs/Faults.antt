-- No line has want of memory as its fault.
use Rattle.std.proofs.Common.{◌≢◌, ℕ, ◌+◌, ◌&&◌, ◌==◌, Bool, true, false, List, [], ◌∷◌, ap, length}
use Rattle.std.specs.Prelude.{Result, Ok, Err, if◌then◌else◌, nat_le, nat_lt, codes}
use Rattle.std.specs.List.{list_all}
use Rattle.std.specs.Str.{bytes_eq}
use Rattle.std.specs.Char.{is_ascii}
use Rattle.std.specs.Str.Parse.{digits_value}
use Rattle.percent_encoding.specs.Percent.{percent_decode}
use Rattle.fx_item.specs.Name.{is_name}
use Rattle.fx_plain.specs.declared.path.TheConstants.{MAX_NAMES}
use Rattle.fx_plain.specs.declared.step.Step.{Step}
use Rattle.fx_plain.specs.declared.step.Step.TheVariants.{Mkdir, Create, Write, Read, List as ListStep, Stat as StatStep}
use Rattle.fx_script.specs.declared.line.Line.TheVariants.{Single}
use Rattle.fx_script.specs.declared.fault.ScriptFault.{ScriptFault}
use Rattle.fx_script.specs.declared.fault.ScriptFault.TheVariants.{BadLine}
use Rattle.fx_script.specs.declared.fault.LineFault.{LineFault}
use Rattle.fx_script.specs.declared.fault.LineFault.TheVariants as faults
use Rattle.fx_script.specs.declared.script.Task.{Task}
use Rattle.fx_script.specs.declared.sent.TheConstants.{MAX_LINES, MAX_CLIENT}
use Rattle.fx_script.specs.Cut.{cut, is_blank, words_of, lines_of}
use Rattle.fx_script.specs.Word.{is_decimal, number_in, max_number, text_of, name_of, in_front, names_of, below_root, path_of}
use Rattle.fx_script.specs.Line.{◌>>=◌, only_word, only_path, three_words, write_step, read_step, step_of, sync_of, single_of, has_semicolon, line_of_words}
use Rattle.fx_script.specs.Script.{client_of_number, client_of, task, first_sender, sender_of, task_of_words, task_of, before_tasks, tasks_from, script_of}

-- the fault, if there is one, is not want of memory
abbrev IsOwn : {A : Type 0} → Result A LineFault → Type 0
IsOwn found = found ≢ Err faults.OutOfMemory

then_own : {A B : Type 0} (found : Result A LineFault) (f : A → Result B LineFault) → IsOwn found → ((x : A) → IsOwn (f x)) → IsOwn (found >>= f)
then_own (Ok x) f one more e = more x e
then_own (Err fault) f one more e = one (cc)

if_own : {A : Type 0} (t : Bool) (r s : Result A LineFault) → IsOwn r → IsOwn s → IsOwn (if t then r else s)
if_own true r s one other e = one e
if_own false r s one other e = other e

number_own : (word : List ℕ) → IsOwn (number_in word)
number_own word = if_own (is_decimal word && nat_le (digits_value 10 word) max_number) (Ok (digits_value 10 word)) (Err faults.BadNumber) (λ e. cc) (λ e. cc)

text_own : (word : List ℕ) → IsOwn (text_of word)
text_own [] e = cc
text_own (b ∷ bs) e = cc

front_own : (first : Result (List ℕ) LineFault) (rest : Result (List (List ℕ)) LineFault) → IsOwn first → IsOwn rest → IsOwn (in_front first rest)
front_own (Err fault) rest one more e = one (cc)
front_own (Ok name) (Err fault) one more e = more (cc)
front_own (Ok name) (Ok names) one more e = cc

names_own : (pieces : List (List ℕ)) → IsOwn (names_of pieces)
names_own [] = λ e. cc
names_own (piece ∷ pieces) =
    front_own (name_of piece) (names_of pieces)
    (if_own (is_name (percent_decode piece)) (Ok (percent_decode piece)) (Err faults.BadPath) (λ e. cc) (λ e. cc))
    (names_own pieces)

below_own : (bytes : List ℕ) → IsOwn (below_root bytes)
below_own [] = λ e. cc
below_own (b ∷ bs) =
    let pieces = cut 47 (b ∷ bs) in
    if_own (nat_le (length pieces) MAX_NAMES) (names_of pieces) (Err faults.BadPath) (names_own pieces) (λ e. cc)

path_own : (word : List ℕ) → IsOwn (path_of word)
path_own [] = λ e. cc
path_own (b ∷ bs) = if_own (b == 47) (below_root bs) (Err faults.BadPath) (below_own bs) (λ e. cc)

only_own : (words : List (List ℕ)) → IsOwn (only_word words)
only_own [] e = cc
only_own (word ∷ []) e = cc
only_own (word ∷ next ∷ words) e = cc

three_own : (words : List (List ℕ)) → IsOwn (three_words words)
three_own [] e = cc
three_own (first ∷ []) e = cc
three_own (first ∷ second ∷ []) e = cc
three_own (first ∷ second ∷ third ∷ []) e = cc
three_own (first ∷ second ∷ third ∷ fourth ∷ words) e = cc

one_path_own : (make : List (List ℕ) → Step) (words : List (List ℕ)) → IsOwn (only_path words >>= λ path. Ok (make path))
one_path_own make words = then_own (only_path words) (λ path. Ok (make path)) (then_own (only_word words) path_of (only_own words) path_own) (λ path e. cc)

write_own : (words : List (List ℕ)) → IsOwn (write_step words)
write_own words =
    then_own (three_words words) (λ (found : List ℕ × List ℕ × List ℕ). path_of found.0 >>= λ path. number_in found.1 >>= λ at. text_of found.2 >>= λ text. Ok (Write path at text)) (three_own words)
    (λ found. then_own (path_of found.0) (λ path. number_in found.1 >>= λ at. text_of found.2 >>= λ text. Ok (Write path at text)) (path_own found.0)
    (λ path. then_own (number_in found.1) (λ at. text_of found.2 >>= λ text. Ok (Write path at text)) (number_own found.1)
    (λ at. then_own (text_of found.2) (λ text. Ok (Write path at text)) (text_own found.2) (λ text e. cc))))

read_own : (words : List (List ℕ)) → IsOwn (read_step words)
read_own words =
    then_own (three_words words) (λ (found : List ℕ × List ℕ × List ℕ). path_of found.0 >>= λ path. number_in found.1 >>= λ at. number_in found.2 >>= λ count. Ok (Read path at count)) (three_own words)
    (λ found. then_own (path_of found.0) (λ path. number_in found.1 >>= λ at. number_in found.2 >>= λ count. Ok (Read path at count)) (path_own found.0)
    (λ path. then_own (number_in found.1) (λ at. number_in found.2 >>= λ count. Ok (Read path at count)) (number_own found.1)
    (λ at. then_own (number_in found.2) (λ count. Ok (Read path at count)) (number_own found.2) (λ count e. cc))))

step_own : (words : List (List ℕ)) → IsOwn (step_of words)
step_own [] = λ e. cc
step_own (word ∷ words) =
    if_own (bytes_eq word (codes "mkdir")) _ _ (one_path_own Mkdir words)
    (if_own (bytes_eq word (codes "create")) _ _ (one_path_own Create words)
    (if_own (bytes_eq word (codes "write")) _ _ (write_own words)
    (if_own (bytes_eq word (codes "read")) _ _ (read_own words)
    (if_own (bytes_eq word (codes "list")) _ _ (one_path_own ListStep words)
    (if_own (bytes_eq word (codes "stat")) _ (Err faults.UnknownWord) (one_path_own StatStep words) (λ e. cc))))))

sync_own : (words : List (List ℕ)) → IsOwn (sync_of words)
sync_own [] e = cc
sync_own (word ∷ words) e = cc

single_own : (words : List (List ℕ)) → IsOwn (single_of words)
single_own [] = λ e. cc
single_own (word ∷ words) =
    if_own (bytes_eq word (codes "sync")) (sync_of words) (step_of (word ∷ words) >>= λ step. Ok (Single step)) (sync_own words)
    (then_own (step_of (word ∷ words)) (λ step. Ok (Single step)) (step_own (word ∷ words)) (λ step e. cc))

words_own : (words : List (List ℕ)) → IsOwn (line_of_words words)
words_own words =
    if_own (is_blank words) (Err faults.Empty) (if has_semicolon words then Err faults.UnknownWord else single_of words) (λ e. cc)
    (if_own (has_semicolon words) (Err faults.UnknownWord) (single_of words) (λ e. cc) (single_own words))

client_own : (number : Result ℕ LineFault) → IsOwn (client_of_number number)
client_own (Ok number) = if_own (nat_lt 0 number && nat_le number MAX_CLIENT) (Ok number) (Err faults.BadClient) (λ e. cc) (λ e. cc)
client_own (Err fault) = λ e. cc

first_own : (words : List (List ℕ)) → IsOwn (first_sender words)
first_own [] = λ e. cc
first_own (client ∷ words) = then_own (client_of client) (λ (client : ℕ). Ok (client, words)) (client_own (number_in client)) (λ client e. cc)

sender_own : (many : Bool) (words : List (List ℕ)) → IsOwn (sender_of many words)
sender_own false words = λ e. cc
sender_own true words = if_own (is_blank words) (Err faults.Empty) (first_sender words) (λ e. cc) (first_own words)

task_words_own : (many : Bool) (number : ℕ) (words : List (List ℕ)) → IsOwn (task_of_words many number words)
task_words_own many number words =
    then_own (sender_of many words) (λ (found : ℕ × List (List ℕ)). task number found.0 found.1) (sender_own many words)
    (λ found. then_own (line_of_words found.1) (λ line. Ok (let t : Task = record { client = found.0; number = number; line = line } in t)) (words_own found.1) (λ line e. cc))

task_own : (many : Bool) (number : ℕ) (line : List ℕ) → IsOwn (task_of many number line)
task_own many number line =
    if_own (nat_lt MAX_LINES number) (Err faults.TooManyLines) (if list_all is_ascii line then task_of_words many number (words_of line) else Err faults.NotAscii) (λ e. cc)
    (if_own (list_all is_ascii line) (task_of_words many number (words_of line)) (Err faults.NotAscii) (task_words_own many number (words_of line)) (λ e. cc))

abbrev memory_at : ℕ → Result (List Task) ScriptFault
memory_at number = Err (BadLine number faults.OutOfMemory)

abbrev fault_of : Result (List Task) ScriptFault → LineFault
fault_of (Ok tasks) = faults.Empty
fault_of (Err (BadLine number fault)) = fault

before_own : (number : ℕ) (first : Result Task LineFault) (rest : Result (List Task) ScriptFault) (at : ℕ) → IsOwn first → rest ≢ memory_at at → before_tasks number first rest ≢ memory_at at
before_own number (Err fault) rest at one more e = one (ap (λ f. Err f) (ap fault_of e))
before_own number (Ok sent) (Err bad) at one more e = more e
before_own number (Ok sent) (Ok tasks) at one more e = cc

from_own : (many : Bool) (number : ℕ) (lines : List (List ℕ)) (at : ℕ) → tasks_from many number lines ≢ memory_at at
from_own many number [] at = λ e. cc
from_own many number (line ∷ lines) at =
    before_own number (task_of many number line) (tasks_from many (number + 1) lines) at (task_own many number line) (from_own many (number + 1) lines at)

pub script_own : (many : Bool) (script : List ℕ) (at : ℕ) → script_of many script ≢ memory_at at
script_own many script at = from_own many 1 (lines_of script) at
