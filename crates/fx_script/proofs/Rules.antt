-- A line that is read keeps the rules of the grammar.
use Rattle.std.proofs.Common.{◌≡◌, ℕ, ◌+◌, ◌<◌, ◌≤◌, ◌&&◌, ◌==◌, Bool, true, false, List, [], ◌∷◌, refl, sym, subst, length, arith}
use Rattle.std.specs.Prelude.{Result, Ok, Err, IsOk, All, if◌then◌else◌, nat_le, nat_lt, codes}
use Rattle.std.specs.List.{list_all, AllByRecursion}
use Rattle.std.specs.Str.{bytes_eq}
use Rattle.std.specs.Char.{is_ascii}
use Rattle.std.specs.Str.Parse.{digits_value}
use Rattle.std.proofs.lemmas.Bool.{and_parts, leb-true, ltb-true}
use Rattle.std.proofs.lemmas.List.Elements.{All-from_recursion, All-cons, All-nil, All-head, All-tail}
use Rattle.percent_encoding.specs.Percent.{percent_decode}
use Rattle.percent_encoding.proofs.PercentLemmas.{All-percent_decode, length-percent_decode}
use Rattle.fx_item.specs.Name.{is_name}
use Rattle.fx_plain.specs.declared.path.TheConstants.{MAX_NAMES}
use Rattle.fx_plain.specs.declared.step.Step.{Step}
use Rattle.fx_plain.specs.declared.step.Step.TheVariants.{Mkdir, Create, Write, Read, List as ListStep, Stat as StatStep}
use Rattle.fx_script.specs.declared.line.Line.{Line}
use Rattle.fx_script.specs.declared.line.Line.TheVariants.{Single, Sync}
use Rattle.fx_script.specs.declared.fault.LineFault.{LineFault}
use Rattle.fx_script.specs.declared.fault.LineFault.TheVariants as faults
use Rattle.fx_script.specs.declared.script.Task.{Task}
use Rattle.fx_script.specs.declared.fault.ScriptFault.{ScriptFault}
use Rattle.fx_script.specs.declared.sent.TheConstants.{MAX_LINES, MAX_CLIENT}
use Rattle.fx_script.specs.Cut.{onto_first, cut, is_blank, words_of, lines_of}
use Rattle.fx_script.specs.Word.{is_decimal, number_in, max_number, text_of, name_of, in_front, names_of, few_names_of, below_root, path_of}
use Rattle.fx_script.specs.Line.{◌>>=◌, only_word, only_path, three_words, mkdir_of, create_of, write_step, read_step, list_of, stat_of, step_of, sync_of, single_of, has_semicolon, line_of_words}
use Rattle.fx_script.specs.Checked.{line_read}
use Rattle.fx_script.specs.Sent.{IsSent}
use Rattle.fx_script.specs.Print.{IsPath, IsText, StepKeepsRules, LineKeepsRules}
use Rattle.fx_script.specs.Script.{client_of_number, client_of, task, first_sender, sender_of, task_of_words, task_of, before_tasks, tasks_from, script_of}
use Rattle.fx_script.proofs.Utf8.{IsByte, AreBytes}

-- ---- what is made of a value

pub record IsMade {A B : Type 0} (r : Result A LineFault) (f : A → Result B LineFault) (y : B) : Type 0 where
  pub x : A
  pub is : r ≡ Ok x
  pub gives : f x ≡ Ok y

made_of : {A B : Type 0} (r : Result A LineFault) (f : A → Result B LineFault) (y : B) → (r >>= f) ≡ Ok y → IsMade r f y
made_of (Ok x) f y e = record { x = x; is = refl; gives = e }
made_of (Err fault) f y e = absurd (cc)

-- a test that gives a value was true
if_ok : {A : Type 0} (t : Bool) (r : Result A LineFault) (fault : LineFault) (y : A) → (if t then r else Err fault) ≡ Ok y → (t ≡ true) × (r ≡ Ok y)
if_ok true r fault y e = (refl, e)
if_ok false r fault y e = absurd (cc)

unless_ok : {A : Type 0} (t : Bool) (r : Result A LineFault) (fault : LineFault) (y : A) → (if t then Err fault else r) ≡ Ok y → r ≡ Ok y
unless_ok true r fault y e = absurd (cc)
unless_ok false r fault y e = e

-- ---- words

pub number_small : (word : List ℕ) (n : ℕ) → number_in word ≡ Ok n → n ≤ max_number
number_small word n e =
    let value : ℕ = digits_value 10 word in
    let told = if_ok (is_decimal word && nat_le value max_number) (Ok value) faults.BadNumber n e in
    let parts = and_parts (is_decimal word) (nat_le value max_number) told.0 in
    let same : value ≡ n = cc told.1 in
    omega (arith, same, leb-true value max_number parts.1)

name_named : (piece name : List ℕ) → name_of piece ≡ Ok name → is_name name ≡ true
name_named piece name e =
    let told = if_ok (is_name (percent_decode piece)) (Ok (percent_decode piece)) faults.BadPath name e in
    let same : percent_decode piece ≡ name = cc told.1 in
    subst (λ (text : List ℕ). is_name text ≡ true) same told.0

-- so many names, of which each may name a node
pub record AreNames (count : ℕ) (names : List (List ℕ)) : Type 0 where
  pub long : length names ≡ count
  pub each : AllByRecursion (λ name. is_name name ≡ true) names

in_front_named : (count : ℕ) (first : Result (List ℕ) LineFault) (rest : Result (List (List ℕ)) LineFault) (names : List (List ℕ))
    → ((name : List ℕ) → first ≡ Ok name → is_name name ≡ true) → ((others : List (List ℕ)) → rest ≡ Ok others → AreNames count others)
    → in_front first rest ≡ Ok names → AreNames (count + 1) names
in_front_named count (Err fault) rest names one more e = absurd (cc)
in_front_named count (Ok name) (Err fault) names one more e = absurd (cc)
in_front_named count (Ok name) (Ok others) names one more e =
    let same : name ∷ others ≡ names = cc in
    let k = more others refl in
    subst (AreNames (count + 1)) same (record { long = omega (arith, k.long); each = (one name refl, k.each) })

names_named : (pieces names : List (List ℕ)) → names_of pieces ≡ Ok names → AreNames (length pieces) names
names_named [] names e =
    let same : [] ≡ names = cc in
    subst (AreNames 0) same (record { long = refl; each = tt })
names_named (piece ∷ pieces) names e =
    let k = in_front_named (length pieces) (name_of piece) (names_of pieces) names (λ name one. name_named piece name one) (λ others more. names_named pieces others more) e in
    record { long = omega (arith, k.long); each = k.each }

few_named : (pieces names : List (List ℕ)) → few_names_of pieces ≡ Ok names → IsPath names
few_named pieces names e =
    let told = if_ok (nat_le (length pieces) MAX_NAMES) (names_of pieces) faults.BadPath names e in
    let k = names_named pieces names told.1 in
    record { few = omega (arith, k.long, leb-true (length pieces) MAX_NAMES told.0); names = k.each }

below_named : (bytes : List ℕ) (names : List (List ℕ)) → below_root bytes ≡ Ok names → IsPath names
below_named [] names e =
    let same : [] ≡ names = cc in
    subst IsPath same (record { few = omega arith; names = tt })
below_named (b ∷ bs) names e = few_named (cut 47 (b ∷ bs)) names e

pub path_named : (word : List ℕ) (path : List (List ℕ)) → path_of word ≡ Ok path → IsPath path
path_named [] path e = absurd (cc)
path_named (b ∷ bs) path e = below_named bs path (if_ok (b == 47) (below_root bs) faults.BadPath path e).1

pub by_recursion : (bs : List ℕ) → All IsByte bs → AreBytes bs
by_recursion [] all = tt
by_recursion (b ∷ bs) all = (All-head IsByte b bs all, by_recursion bs (All-tail IsByte b bs all))

text_bytes : (word text : List ℕ) → AreBytes word → text_of word ≡ Ok text → IsText text
text_bytes [] text h e = absurd (cc)
text_bytes (b ∷ bs) text h e =
    let same : percent_decode (b ∷ bs) ≡ text = cc in
    subst IsText same (record {
      some = omega (arith, (length-percent_decode (b ∷ bs)).1);
      bytes = by_recursion (percent_decode (b ∷ bs)) (All-percent_decode (b ∷ bs) (All-from_recursion IsByte (b ∷ bs) h));
    })

-- ---- the words of a line

abbrev pub AreWords : List (List ℕ) → Type 0
AreWords words = AllByRecursion AreBytes words

onto_words : (b : ℕ) (pieces : List (List ℕ)) → b < 256 → AreWords pieces → AreWords (onto_first b pieces)
onto_words b [] small h = ((small, tt), tt)
onto_words b (piece ∷ pieces) small h = ((small, h.0), h.1)

-- the pieces of a line of ASCII are bytes
pub cut_words : (at : ℕ) (line : List ℕ) → list_all is_ascii line ≡ true → AreWords (cut at line)
cut_words at [] h = (tt, tt)
cut_words at (b ∷ bs) h = by (b == at) (cut_words at bs parts.1)
  where
    parts : (is_ascii b ≡ true) × (list_all is_ascii bs ≡ true)
    parts = and_parts (is_ascii b) (list_all is_ascii bs) h

    by : (t : Bool) → AreWords (cut at bs) → AreWords (if t then [] ∷ cut at bs else onto_first b (cut at bs))
    by true k = (tt, k)
    by false k = onto_words b (cut at bs) (let small : b < 128 = ltb-true b 128 parts.0 in omega arith) k

-- ---- steps

third_word : (words : List (List ℕ)) (found : List ℕ × List ℕ × List ℕ) → AreWords words → three_words words ≡ Ok found → AreBytes found.2
third_word [] found h e = absurd (cc)
third_word (first ∷ []) found h e = absurd (cc)
third_word (first ∷ second ∷ []) found h e = absurd (cc)
third_word (first ∷ second ∷ third ∷ []) found h e =
    let same : (first, second, third) ≡ found = cc in
    subst (λ (f : List ℕ × List ℕ × List ℕ). AreBytes f.2) same h.1.1.0
third_word (first ∷ second ∷ third ∷ fourth ∷ words) found h e = absurd (cc)

-- the step that is answered
answered : (made step : Step) → (let r : Result Step LineFault = Ok made in r) ≡ Ok step → StepKeepsRules made → StepKeepsRules step
answered made step e h = let same : made ≡ step = cc in subst StepKeepsRules same h

-- a step whose one word is a path
path_step : (make : List (List ℕ) → Step) (words : List (List ℕ)) (step : Step) → ((path : List (List ℕ)) → IsPath path → StepKeepsRules (make path))
    → (only_path words >>= λ path. Ok (make path)) ≡ Ok step → StepKeepsRules step
path_step make words step keeps e =
    let path = made_of (only_path words) (λ path. Ok (make path)) step e in
    let word = made_of (only_word words) path_of path.x path.is in
    answered (make path.x) step path.gives (keeps path.x (path_named word.x path.x word.gives))

write_rules : (words : List (List ℕ)) (step : Step) → AreWords words → write_step words ≡ Ok step → StepKeepsRules step
write_rules words step h e =
    let found = made_of (three_words words) (λ (found : List ℕ × List ℕ × List ℕ). path_of found.0 >>= λ path. number_in found.1 >>= λ at. text_of found.2 >>= λ text. Ok (Write path at text)) step e in
    let path = made_of (path_of found.x.0) (λ path. number_in found.x.1 >>= λ at. text_of found.x.2 >>= λ text. Ok (Write path at text)) step found.gives in
    let at = made_of (number_in found.x.1) (λ at. text_of found.x.2 >>= λ text. Ok (Write path.x at text)) step path.gives in
    let text = made_of (text_of found.x.2) (λ text. Ok (Write path.x at.x text)) step at.gives in
    answered (Write path.x at.x text.x) step text.gives (path_named found.x.0 path.x path.is, number_small found.x.1 at.x at.is, text_bytes found.x.2 text.x (third_word words found.x h found.is) text.is)

read_rules : (words : List (List ℕ)) (step : Step) → read_step words ≡ Ok step → StepKeepsRules step
read_rules words step e =
    let found = made_of (three_words words) (λ (found : List ℕ × List ℕ × List ℕ). path_of found.0 >>= λ path. number_in found.1 >>= λ at. number_in found.2 >>= λ count. Ok (Read path at count)) step e in
    let path = made_of (path_of found.x.0) (λ path. number_in found.x.1 >>= λ at. number_in found.x.2 >>= λ count. Ok (Read path at count)) step found.gives in
    let at = made_of (number_in found.x.1) (λ at. number_in found.x.2 >>= λ count. Ok (Read path.x at count)) step path.gives in
    let count = made_of (number_in found.x.2) (λ count. Ok (Read path.x at.x count)) step at.gives in
    answered (Read path.x at.x count.x) step count.gives (path_named found.x.0 path.x path.is, number_small found.x.1 at.x at.is, number_small found.x.2 count.x count.is)

-- one of two, by a test
either_step : (t : Bool) (r s : Result Step LineFault) (step : Step) → (r ≡ Ok step → StepKeepsRules step) → (s ≡ Ok step → StepKeepsRules step)
    → (if t then r else s) ≡ Ok step → StepKeepsRules step
either_step true r s step one other e = one e
either_step false r s step one other e = other e

pub step_rules : (words : List (List ℕ)) (step : Step) → AreWords words → step_of words ≡ Ok step → StepKeepsRules step
step_rules [] step h e = absurd (cc)
step_rules (word ∷ words) step h e =
    either_step (bytes_eq word (codes "mkdir")) (mkdir_of words) _ step (path_step Mkdir words step (λ path k. k))
    (either_step (bytes_eq word (codes "create")) (create_of words) _ step (path_step Create words step (λ path k. k))
    (either_step (bytes_eq word (codes "write")) (write_step words) _ step (write_rules words step h.1)
    (either_step (bytes_eq word (codes "read")) (read_step words) _ step (read_rules words step)
    (either_step (bytes_eq word (codes "list")) (list_of words) _ step (path_step ListStep words step (λ path k. k))
    (either_step (bytes_eq word (codes "stat")) (stat_of words) (Err faults.UnknownWord) step (path_step StatStep words step (λ path k. k)) (λ none. absurd (cc none))))))) e

-- ---- lines

sync_rules : (words : List (List ℕ)) (line : Line) → sync_of words ≡ Ok line → LineKeepsRules line
sync_rules [] line e = let same : Sync ≡ line = cc in subst LineKeepsRules same tt
sync_rules (word ∷ words) line e = absurd (cc)

single_rules : (words : List (List ℕ)) (line : Line) → AreWords words → single_of words ≡ Ok line → LineKeepsRules line
single_rules [] line h e = absurd (cc)
single_rules (word ∷ words) line h e = by (bytes_eq word (codes "sync")) e
  where
    by : (t : Bool) → (if t then sync_of words else (step_of (word ∷ words) >>= λ step. Ok (Single step))) ≡ Ok line → LineKeepsRules line
    by true e = sync_rules words line e
    by false e =
        let step = made_of (step_of (word ∷ words)) (λ step. Ok (Single step)) line e in
        let same : Single step.x ≡ line = cc step.gives in
        subst LineKeepsRules same (step_rules (word ∷ words) step.x h step.is)

words_rules : (words : List (List ℕ)) (line : Line) → AreWords words → line_of_words words ≡ Ok line → LineKeepsRules line
words_rules words line h e =
    let some = unless_ok (is_blank words) (if has_semicolon words then Err faults.UnknownWord else single_of words) faults.Empty line e in
    single_rules words line h (unless_ok (has_semicolon words) (single_of words) faults.UnknownWord line some)

-- a line of ASCII that is read keeps the rules
pub line_rules : (bytes : List ℕ) (line : Line) → list_all is_ascii bytes ≡ true → line_of_words (words_of bytes) ≡ Ok line → LineKeepsRules line
line_rules bytes line ascii e = words_rules (words_of bytes) line (cut_words 32 bytes ascii) e

-- ---- scripts

task_rules : (number client : ℕ) (words : List (List ℕ)) (t : Task) → AreWords words → task number client words ≡ Ok t → LineKeepsRules t.line
task_rules number client words t h e =
    let line = made_of (line_of_words words) (λ line. Ok (let x : Task = record { client = client; number = number; line = line } in x)) t e in
    let same : (let x : Task = record { client = client; number = number; line = line.x } in x) ≡ t = cc line.gives in
    subst (λ (x : Task). LineKeepsRules x.line) same (words_rules words line.x h line.is)

first_rules : (words : List (List ℕ)) (found : ℕ × List (List ℕ)) → AreWords words → first_sender words ≡ Ok found → AreWords found.1
first_rules [] found h e = absurd (cc)
first_rules (client ∷ words) found h e =
    let sender = made_of (client_of client) (λ (client : ℕ). Ok (client, words)) found e in
    let same : (sender.x, words) ≡ found = cc sender.gives in
    subst (λ (f : ℕ × List (List ℕ)). AreWords f.1) same h.1

pub sender_rules : (many : Bool) (words : List (List ℕ)) (found : ℕ × List (List ℕ)) → AreWords words → sender_of many words ≡ Ok found → AreWords found.1
sender_rules false words found h e =
    let same : (1, words) ≡ found = cc in
    subst (λ (f : ℕ × List (List ℕ)). AreWords f.1) same h
sender_rules true words found h e = first_rules words found h (unless_ok (is_blank words) (first_sender words) faults.Empty found e)

read_line_is : (found : Result Line LineFault) → IsOk found → found ≡ Ok (line_read found)
read_line_is (Ok line) e = refl
read_line_is (Err fault) e = absurd (cc)

abbrev pub IsClient : ℕ → Type 0
IsClient client = (0 < client) × (client ≤ MAX_CLIENT)

number_client : (number : Result ℕ LineFault) (client : ℕ) → client_of_number number ≡ Ok client → IsClient client
number_client (Err fault) client e = absurd (cc)
number_client (Ok number) client e =
    let told = if_ok (nat_lt 0 number && nat_le number MAX_CLIENT) (Ok number) faults.BadClient client e in
    let parts = and_parts (nat_lt 0 number) (nat_le number MAX_CLIENT) told.0 in
    let same : number ≡ client = cc told.1 in
    subst IsClient same (ltb-true 0 number parts.0, leb-true number MAX_CLIENT parts.1)

first_client : (words : List (List ℕ)) (found : ℕ × List (List ℕ)) → first_sender words ≡ Ok found → IsClient found.0
first_client [] found e = absurd (cc)
first_client (client ∷ words) found e =
    let sender = made_of (client_of client) (λ (client : ℕ). Ok (client, words)) found e in
    let same : (sender.x, words) ≡ found = cc sender.gives in
    subst (λ (f : ℕ × List (List ℕ)). IsClient f.0) same (number_client (number_in client) sender.x sender.is)

pub sender_client : (many : Bool) (words : List (List ℕ)) (found : ℕ × List (List ℕ)) → sender_of many words ≡ Ok found → IsClient found.0
sender_client false words found e =
    let same : (1, words) ≡ found = cc in
    subst (λ (f : ℕ × List (List ℕ)). IsClient f.0) same (omega arith, omega arith)
sender_client true words found e = first_client words found (unless_ok (is_blank words) (first_sender words) faults.Empty found e)

-- a line that was checked
pub is_sent : (many : Bool) (line : List ℕ) (client : ℕ) (words : List (List ℕ)) → list_all is_ascii line ≡ true → Ok (client, words) ≡ sender_of many (words_of line) → IsOk (line_of_words words) → IsSent client words
is_sent many line client words ascii sent right = record {
  right = right;
  rules = words_rules words (line_read (line_of_words words)) (sender_rules many (words_of line) (client, words) (cut_words 32 line ascii) (sym sent)) (read_line_is (line_of_words words) right);
  from = sender_client many (words_of line) (client, words) (sym sent);
}

task_words_rules : (many : Bool) (number : ℕ) (words : List (List ℕ)) (t : Task) → AreWords words → task_of_words many number words ≡ Ok t → LineKeepsRules t.line
task_words_rules many number words t h e =
    let found = made_of (sender_of many words) (λ (found : ℕ × List (List ℕ)). task number found.0 found.1) t e in
    task_rules number found.x.0 found.x.1 t (sender_rules many words found.x h found.is) found.gives

one_task_rules : (many : Bool) (number : ℕ) (line : List ℕ) (t : Task) → task_of many number line ≡ Ok t → LineKeepsRules t.line
one_task_rules many number line t e =
    let few = unless_ok (nat_lt MAX_LINES number) (if list_all is_ascii line then task_of_words many number (words_of line) else Err faults.NotAscii) faults.TooManyLines t e in
    let told = if_ok (list_all is_ascii line) (task_of_words many number (words_of line)) faults.NotAscii t few in
    task_words_rules many number (words_of line) t (cut_words 32 line told.0) told.1

abbrev pub AllKeepRules : List Task → Type 0
AllKeepRules tasks = All (λ task. LineKeepsRules task.line) tasks

before_rules : (number : ℕ) (first : Result Task LineFault) (rest : Result (List Task) ScriptFault) (ts : List Task) → ((t : Task) → first ≡ Ok t → LineKeepsRules t.line)
    → ((us : List Task) → rest ≡ Ok us → AllKeepRules us) → before_tasks number first rest ≡ Ok ts → AllKeepRules ts
before_rules number (Err fault) rest ts one more e = absurd (cc)
before_rules number (Ok t) (Err fault) ts one more e = absurd (cc)
before_rules number (Ok t) (Ok us) ts one more e =
    let same : t ∷ us ≡ ts = cc in
    subst AllKeepRules same (All-cons (λ (task : Task). LineKeepsRules task.line) t us (one t refl) (more us refl))

from_rules : (many : Bool) (number : ℕ) (lines : List (List ℕ)) (ts : List Task) → tasks_from many number lines ≡ Ok ts → AllKeepRules ts
from_rules many number [] ts e =
    let none : [] ≡ ts = cc in
    subst AllKeepRules none (All-nil (λ (task : Task). LineKeepsRules task.line))
from_rules many number (line ∷ lines) ts e =
    before_rules number (task_of many number line) (tasks_from many (number + 1) lines) ts
    (λ t one. one_task_rules many number line t one) (λ us more. from_rules many (number + 1) lines us more) e

-- each line of a script keeps the rules
pub script_rules : (many : Bool) (script : List ℕ) (ts : List Task) → script_of many script ≡ Ok ts → AllKeepRules ts
script_rules many script ts e = from_rules many 1 (lines_of script) ts e
