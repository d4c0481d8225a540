-- Lines after those that were checked.
use Rattle.std.proofs.Common.{◌≡◌, ℕ, ◌≤◌, Bool, true, false, ◌+◌, ◌∙◌, List, ◌∷◌, refl, sym, ap, subst, length, arith}
use Rattle.std.specs.Prelude.{Result, Ok, Err, IsOk, nat_lt, if◌then◌else◌}
use Rattle.std.specs.List.{list_all}
use Rattle.std.specs.Char.{is_ascii}
use Rattle.std.proofs.lemmas.Bool.Decides.{nat_tests}
use Rattle.fx_script.specs.declared.fault.ScriptFault.{ScriptFault}
use Rattle.fx_script.specs.declared.fault.ScriptFault.TheVariants.{BadLine}
use Rattle.fx_script.specs.declared.fault.LineFault.{LineFault}
use Rattle.fx_script.specs.declared.fault.LineFault.TheVariants.{TooManyLines, NotAscii}
use Rattle.fx_script.specs.declared.line.Line.{Line}
use Rattle.fx_script.specs.declared.script.Task.{Task}
use Rattle.fx_script.specs.declared.sent.TheConstants.{MAX_LINES}
use Rattle.fx_script.specs.Cut.{words_of}
use Rattle.fx_script.specs.Line.{◌>>=◌, line_of_words}
use Rattle.fx_script.specs.Checked.{line_read}
use Rattle.fx_script.specs.Script.{before_tasks, sender_of, task_of_words, task_of, tasks_from, tasks_read, counted}

-- a line that is right is not past the last
pub is_numbered : (many : Bool) (number : ℕ) (line : List ℕ) (task : Task) → Ok task ≡ task_of many number line → number ≤ 65536
is_numbered many number line task h = by_test (nat_lt 65536 number) refl
  where
    by_test : (t : Bool) → nat_lt 65536 number ≡ t → number ≤ 65536
    by_test true e = let k : Ok task ≡ Err TooManyLines = rw e at h in absurd (cc)
    by_test false e = grind (arith, nat_tests)

-- one more line is right
pub count_more : (many : Bool) (count : ℕ) (line : List ℕ) (lines : List (List ℕ)) (task : Task) → Ok task ≡ task_of many (count + 1) line
    → counted (count + 1) (tasks_from many (count + 1 + 1) lines) ≡ counted count (tasks_from many (count + 1) (line ∷ lines))
count_more many count line lines task h = onto (tasks_from many (count + 1 + 1) lines) ∙ ap (λ (first : Result Task LineFault). counted count (before_tasks (count + 1) first (tasks_from many (count + 1 + 1) lines))) h
  where
    onto : (rest : Result (List Task) ScriptFault) → counted (count + 1) rest ≡ counted count (before_tasks (count + 1) (Ok task) rest)
    onto (Ok tasks) = ap Ok (let e : count + 1 + length tasks ≡ count + length (task ∷ tasks) = omega arith in e)
    onto (Err fault) = refl

-- the next line is wrong
pub count_wrong : (many : Bool) (count : ℕ) (line : List ℕ) (lines : List (List ℕ)) (fault : LineFault) → Err fault ≡ task_of many (count + 1) line
    → Err (BadLine (count + 1) fault) ≡ counted count (tasks_from many (count + 1) (line ∷ lines))
count_wrong many count line lines fault h = ap (λ (first : Result Task LineFault). counted count (before_tasks (count + 1) first (tasks_from many (count + 1 + 1) lines))) h

-- ---- tasks that were read

right_parts : (number : ℕ) (first : Result Task LineFault) (rest : Result (List Task) ScriptFault) → IsOk (before_tasks number first rest) → IsOk first × IsOk rest
right_parts number (Err fault) rest e = absurd (cc)
right_parts number (Ok task) (Err fault) e = absurd (cc)
right_parts number (Ok task) (Ok tasks) e = (refl, refl)

pub first_right : (many : Bool) (number : ℕ) (line : List ℕ) (lines : List (List ℕ)) → IsOk (tasks_from many number (line ∷ lines)) → IsOk (task_of many number line)
first_right many number line lines h = (right_parts number (task_of many number line) (tasks_from many (number + 1) lines) h).0

pub rest_right : (many : Bool) (number : ℕ) (line : List ℕ) (lines : List (List ℕ)) → IsOk (tasks_from many number (line ∷ lines)) → IsOk (tasks_from many (number + 1) lines)
rest_right many number line lines h = (right_parts number (task_of many number line) (tasks_from many (number + 1) lines) h).1

pub read_first : (many : Bool) (number : ℕ) (line : List ℕ) (lines : List (List ℕ)) (task : Task) → IsOk (tasks_from many number (line ∷ lines)) → Ok task ≡ task_of many number line
    → tasks_read (tasks_from many number (line ∷ lines)) ≡ task ∷ tasks_read (tasks_from many (number + 1) lines)
read_first many number line lines task h e = by (tasks_from many (number + 1) lines) (rest_right many number line lines h)
  where
    by : (rest : Result (List Task) ScriptFault) → IsOk rest → tasks_read (before_tasks number (task_of many number line) rest) ≡ task ∷ tasks_read rest
    by (Err fault) k = absurd (cc)
    by (Ok tasks) k = sym (ap (λ (first : Result Task LineFault). tasks_read (before_tasks number first (let r : Result (List Task) ScriptFault = Ok tasks in r))) e)

-- a script whose lines are counted is right
pub right_counted : (count before : ℕ) (found : Result (List Task) ScriptFault) → Ok count ≡ counted before found → IsOk found
right_counted count before (Ok tasks) e = refl
right_counted count before (Err fault) e = absurd (cc)

pub read_is : (found : Result (List Task) ScriptFault) → IsOk found → found ≡ Ok (tasks_read found)
read_is (Ok tasks) e = refl
read_is (Err fault) e = absurd (cc)

-- ---- one line

-- a line that is right says what its words say
words_say : (many : Bool) (number : ℕ) (line : List ℕ) → IsOk (task_of many number line) → task_of many number line ≡ task_of_words many number (words_of line)
words_say many number line h = by (nat_lt MAX_LINES number) (list_all is_ascii line) h
  where
    by : (late ascii : Bool) → IsOk (if late then Err TooManyLines else if ascii then task_of_words many number (words_of line) else Err NotAscii)
        → (if late then Err TooManyLines else if ascii then task_of_words many number (words_of line) else Err NotAscii) ≡ task_of_words many number (words_of line)
    by true ascii h = absurd (cc)
    by false true h = refl
    by false false h = absurd (cc)

pub right_ascii : (many : Bool) (number : ℕ) (line : List ℕ) → IsOk (task_of many number line) → list_all is_ascii line ≡ true
right_ascii many number line h = by (nat_lt MAX_LINES number) (list_all is_ascii line) h
  where
    by : (late ascii : Bool) → IsOk (if late then Err TooManyLines else if ascii then task_of_words many number (words_of line) else Err NotAscii) → ascii ≡ true
    by true ascii h = absurd (cc)
    by false true h = refl
    by false false h = absurd (cc)

abbrev task_said : ℕ → ℕ → Result Line LineFault → Result Task LineFault
task_said number client said = said >>= λ line. Ok (let t : Task = record { client = client; number = number; line = line } in t)

said_right : (number client : ℕ) (said : Result Line LineFault) → IsOk (task_said number client said) → IsOk said
said_right number client (Ok line) h = refl
said_right number client (Err fault) h = absurd (cc)

said_is : (number client : ℕ) (said : Result Line LineFault) → IsOk said → Ok (let t : Task = record { client = client; number = number; line = line_read said } in t) ≡ task_said number client said
said_is number client (Ok line) h = refl
said_is number client (Err fault) h = absurd (cc)

-- what the sender's words say is the task
sent_says : (many : Bool) (number : ℕ) (line : List ℕ) (client : ℕ) (words : List (List ℕ)) → IsOk (task_of many number line) → Ok (client, words) ≡ sender_of many (words_of line)
    → task_of many number line ≡ task_said number client (line_of_words words)
sent_says many number line client words h sent =
    words_say many number line h ∙ sym (ap (λ (found : Result (ℕ × List (List ℕ)) LineFault). found >>= λ (sent : ℕ × List (List ℕ)). task_said number sent.0 (line_of_words sent.1)) sent)

pub sent_right : (many : Bool) (number : ℕ) (line : List ℕ) (client : ℕ) (words : List (List ℕ)) → IsOk (task_of many number line) → Ok (client, words) ≡ sender_of many (words_of line)
    → IsOk (line_of_words words)
sent_right many number line client words h sent =
    said_right number client (line_of_words words) (subst (λ (t : Result Task LineFault). IsOk t) (sent_says many number line client words h sent) h)

pub sent_is : (many : Bool) (number : ℕ) (line : List ℕ) (client : ℕ) (words : List (List ℕ)) → IsOk (task_of many number line) → Ok (client, words) ≡ sender_of many (words_of line)
    → Ok (let t : Task = record { client = client; number = number; line = line_read (line_of_words words) } in t) ≡ task_of many number line
sent_is many number line client words h sent =
    said_is number client (line_of_words words) (sent_right many number line client words h sent) ∙ sym (sent_says many number line client words h sent)
