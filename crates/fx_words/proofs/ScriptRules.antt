-- Each task of a script of all words that is read keeps the rules.
use Rattle.std.proofs.Common.{◌≡◌, ℕ, ◌+◌, Bool, cond, List, [], ◌∷◌, refl, subst}
use Rattle.std.specs.Prelude.{Result, Ok, Err, All, nat_lt}
use Rattle.std.specs.List.{list_all}
use Rattle.std.specs.Char.{is_ascii}
use Rattle.std.proofs.lemmas.List.Elements.{All-cons, All-nil}
use Rattle.fx_script.specs.declared.fault.LineFault.TheVariants as faults
use Rattle.fx_script.specs.declared.sent.TheConstants.{MAX_LINES}
use Rattle.fx_script.specs.Cut.{lines_of, words_of}
use Rattle.fx_script.specs.Script.{sender_of}
use Rattle.fx_script.proofs.Rules.{AreWords, cut_words, sender_client, sender_rules}
use Rattle.fx_words.specs.declared.built.Built.{Built}
use Rattle.fx_words.specs.declared.fault.WordFault.{WordFault}
use Rattle.fx_words.specs.declared.fault.WordFault.TheVariants.{Basic as BasicFault}
use Rattle.fx_words.specs.declared.script.FullTask.{FullTask}
use Rattle.fx_words.specs.declared.script.BadFullLine.{BadFullLine}
use Rattle.fx_words.specs.Lines.{basic_fault, full_line_of_words, with_basic_fault}
use Rattle.fx_words.specs.FullScript.{FullTaskKeepsRules, before_full, full_counted, full_script_of, full_task, full_task_of, full_task_of_words, full_tasks_from, full_tasks_read, task_saying}
use Rattle.fx_words.proofs.FullRules.{basic_is, full_words_rules, makes, when_not, when_ok}

words_task : (built : Built) (many : Bool) (number : ℕ) (words : List (List ℕ)) (task : FullTask) → AreWords words → full_task_of_words built many number words ≡ Ok task → FullTaskKeepsRules task
words_task built many number words task h e =
    let sent = makes (with_basic_fault (sender_of many words)) (λ (sent : ℕ × List (List ℕ)). task_saying number sent.0 (full_line_of_words built sent.1)) task e in
    let sender : sender_of many words ≡ Ok sent.x = basic_is (sender_of many words) sent.x sent.is in
    let line = makes (full_line_of_words built sent.x.1) (λ line. Ok (full_task number sent.x.0 line)) task sent.gives in
    let client = sender_client many words sent.x sender in
    let same : full_task number sent.x.0 line.x ≡ task = cc (line.gives) in
    subst FullTaskKeepsRules same (client.0, client.1, full_words_rules built sent.x.1 line.x (sender_rules many words sent.x h sender) line.is)

one_task : (built : Built) (many : Bool) (number : ℕ) (line : List ℕ) (task : FullTask) → full_task_of built many number line ≡ Ok task → FullTaskKeepsRules task
one_task built many number line task e =
    let few = when_not (nat_lt MAX_LINES number) (cond (list_all is_ascii line) (full_task_of_words built many number (words_of line)) (basic_fault faults.NotAscii)) (BasicFault faults.TooManyLines) task e in
    let told = when_ok (list_all is_ascii line) (full_task_of_words built many number (words_of line)) (BasicFault faults.NotAscii) task few.1 in
    words_task built many number (words_of line) task (cut_words 32 line told.0) told.1

before_task : (number : ℕ) (first : Result FullTask WordFault) (rest : Result (List FullTask) BadFullLine) (tasks : List FullTask) → ((task : FullTask) → first ≡ Ok task → FullTaskKeepsRules task)
    → ((others : List FullTask) → rest ≡ Ok others → All FullTaskKeepsRules others) → before_full number first rest ≡ Ok tasks → All FullTaskKeepsRules tasks
before_task number (Err fault) rest tasks one more e = absurd (cc (e))
before_task number (Ok task) (Err fault) tasks one more e = absurd (cc (e))
before_task number (Ok task) (Ok others) tasks one more e =
    let same : task ∷ others ≡ tasks = cc (e) in
    subst (All FullTaskKeepsRules) same (All-cons FullTaskKeepsRules task others (one task refl) (more others refl))

tasks_rules : (built : Built) (many : Bool) (number : ℕ) (lines : List (List ℕ)) (tasks : List FullTask) → full_tasks_from built many number lines ≡ Ok tasks → All FullTaskKeepsRules tasks
tasks_rules built many number [] tasks e =
    let none : [] ≡ tasks = cc (e) in
    subst (All FullTaskKeepsRules) none (All-nil FullTaskKeepsRules)
tasks_rules built many number (line ∷ lines) tasks e =
    before_task number (full_task_of built many number line) (full_tasks_from built many (number + 1) lines) tasks
    (λ task one. one_task built many number line task one) (λ others more. tasks_rules built many (number + 1) lines others more) e

-- each task of a script whose lines are counted keeps the rules
pub read_rules : (built : Built) (many : Bool) (script : List ℕ) (count : ℕ) → Ok count ≡ full_counted 0 (full_script_of built many script) → All FullTaskKeepsRules (full_tasks_read (full_script_of built many script))
read_rules built many script count told =
    tasks_rules built many 1 (lines_of script) (full_tasks_read (full_script_of built many script)) (read_is (full_script_of built many script) told)
  where
    read_is : (found : Result (List FullTask) BadFullLine) → Ok count ≡ full_counted 0 found → found ≡ Ok (full_tasks_read found)
    read_is (Ok tasks) e = refl
    read_is (Err fault) e = absurd (cc (e))
