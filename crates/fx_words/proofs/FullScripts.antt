-- Lines of a script of all words after those that were checked.
use Rattle.std.proofs.Common.{◌≡◌, ℕ, ◌≤◌, Bool, true, false, cond, ◌+◌, ◌∙◌, List, [], ◌∷◌, ◌++◌, refl, sym, ap, subst, length, arith, inl, inr, length-append}
use Rattle.std.specs.Prelude.{◌⊎◌, Result, Ok, Err, IsOk, nat_lt}
use Rattle.std.specs.List.{list_all}
use Rattle.std.specs.Char.{is_ascii}
use Rattle.std.proofs.lemmas.Bool.Decides.{nat_tests}
use Rattle.fx_script.specs.declared.fault.LineFault.{LineFault}
use Rattle.fx_script.specs.declared.fault.LineFault.TheVariants as faults
use Rattle.fx_script.specs.declared.sent.TheConstants.{MAX_LINES}
use Rattle.fx_script.specs.Cut.{cut, words_of}
use Rattle.fx_script.specs.Line as script
use Rattle.fx_script.specs.Script.{client_of, first_sender, sender_of}
use Rattle.fx_words.specs.declared.built.Built.{Built}
use Rattle.fx_words.specs.declared.fault.WordFault.{WordFault}
use Rattle.fx_words.specs.declared.line.FullLine.{FullLine}
use Rattle.fx_words.specs.declared.script.FullTask.{FullTask}
use Rattle.fx_words.specs.declared.script.BadFullLine.{BadFullLine}
use Rattle.fx_words.specs.Lines.{◌>>=◌, basic_fault, full_line_of_words, with_basic_fault}
use Rattle.fx_words.specs.Parts.{words_from}
use Rattle.fx_words.specs.FullScript.{before_full, full_counted, full_line_read, full_task, full_task_of, full_task_of_words, full_tasks_from, full_tasks_read, task_saying, wrong_line}
use Rattle.fx_words.proofs.PartEnds.{Ends, GoesOn, first_of, from_is, past_end}

-- the words behind the first
pub words_behind : (text word : List ℕ) (rest : List (List ℕ)) → cut 32 text ≡ word ∷ rest → words_from (length word + 1) text ≡ rest
words_behind text word rest e = by (first_of text word rest e).how
  where
    by : Ends text word rest ⊎ GoesOn text word rest → words_from (length word + 1) text ≡ rest
    by (inl end) = past_end text (length word + 1) (omega (arith, ap length end.0)) ∙ sym end.1
    by (inr g) =
        let split : text ≡ (word ++ 32 ∷ []) ++ g.tail = g.is ∙ rejoin word g.tail in
        ap (words_from (length word + 1)) split ∙ from_is (word ++ 32 ∷ []) g.tail (length word + 1) (omega (arith, length-append word (32 ∷ []))) ∙ sym g.rest_is
      where
        rejoin : (xs ys : List ℕ) → xs ++ 32 ∷ ys ≡ (xs ++ 32 ∷ []) ++ ys
        rejoin [] ys = refl
        rejoin (x ∷ xs) ys = ap (λ t. x ∷ t) (rejoin xs ys)

-- the client that the first word is, and the words behind it
pub client_first : (text word : List ℕ) (rest words : List (List ℕ)) (client : ℕ) → cut 32 text ≡ word ∷ rest → Ok client ≡ client_of word → words ≡ words_from (length word + 1) text
    → Ok (client, words) ≡ with_basic_fault (first_sender (cut 32 text))
client_first text word rest words client cuts read behind =
    let all : words ≡ rest = behind ∙ words_behind text word rest cuts in
    ap (λ (ws : List (List ℕ)). Ok (client, ws)) all
    ∙ ap (λ (found : Result ℕ LineFault). with_basic_fault (script.◌>>=◌ found (λ (c : ℕ). Ok (c, rest)))) read
    ∙ ap (λ (ws : List (List ℕ)). with_basic_fault (first_sender ws)) (sym cuts)

-- a line that is right is not past the last
pub is_numbered : (built : Built) (many : Bool) (number : ℕ) (line : List ℕ) (task : FullTask) → Ok task ≡ full_task_of built many number line → number ≤ 65536
is_numbered built many number line task h = by_test (nat_lt 65536 number) refl
  where
    by_test : (t : Bool) → nat_lt 65536 number ≡ t → number ≤ 65536
    by_test true e = let k : Ok task ≡ basic_fault faults.TooManyLines = rw e at h in absurd (cc)
    by_test false e = grind (arith, nat_tests)

-- one more line is right
pub count_line : (built : Built) (many : Bool) (count : ℕ) (line : List ℕ) (lines : List (List ℕ)) (task : FullTask) → Ok task ≡ full_task_of built many (count + 1) line
    → full_counted (count + 1) (full_tasks_from built many (count + 1 + 1) lines) ≡ full_counted count (full_tasks_from built many (count + 1) (line ∷ lines))
count_line built many count line lines task h =
    onto (full_tasks_from built many (count + 1 + 1) lines)
    ∙ ap (λ (first : Result FullTask WordFault). full_counted count (before_full (count + 1) first (full_tasks_from built many (count + 1 + 1) lines))) h
  where
    onto : (rest : Result (List FullTask) BadFullLine) → full_counted (count + 1) rest ≡ full_counted count (before_full (count + 1) (Ok task) rest)
    onto (Ok tasks) = ap Ok (let e : count + 1 + length tasks ≡ count + length (task ∷ tasks) = omega arith in e)
    onto (Err fault) = refl

-- the next line is wrong
pub count_bad : (built : Built) (many : Bool) (count : ℕ) (line : List ℕ) (lines : List (List ℕ)) (fault : WordFault) → Err fault ≡ full_task_of built many (count + 1) line
    → Err (wrong_line (count + 1) fault) ≡ full_counted count (full_tasks_from built many (count + 1) (line ∷ lines))
count_bad built many count line lines fault h =
    ap (λ (first : Result FullTask WordFault). full_counted count (before_full (count + 1) first (full_tasks_from built many (count + 1 + 1) lines))) h

-- ---- tasks that were read

right_parts : (number : ℕ) (first : Result FullTask WordFault) (rest : Result (List FullTask) BadFullLine) → IsOk (before_full number first rest) → IsOk first × IsOk rest
right_parts number (Err fault) rest e = absurd (cc)
right_parts number (Ok task) (Err fault) e = absurd (cc)
right_parts number (Ok task) (Ok tasks) e = (refl, refl)

pub first_is_right : (built : Built) (many : Bool) (number : ℕ) (line : List ℕ) (lines : List (List ℕ)) → IsOk (full_tasks_from built many number (line ∷ lines)) → IsOk (full_task_of built many number line)
first_is_right built many number line lines h = (right_parts number (full_task_of built many number line) (full_tasks_from built many (number + 1) lines) h).0

pub rest_is_right : (built : Built) (many : Bool) (number : ℕ) (line : List ℕ) (lines : List (List ℕ)) → IsOk (full_tasks_from built many number (line ∷ lines)) → IsOk (full_tasks_from built many (number + 1) lines)
rest_is_right built many number line lines h = (right_parts number (full_task_of built many number line) (full_tasks_from built many (number + 1) lines) h).1

pub read_first_task : (built : Built) (many : Bool) (number : ℕ) (line : List ℕ) (lines : List (List ℕ)) (task : FullTask) → IsOk (full_tasks_from built many number (line ∷ lines)) → Ok task ≡ full_task_of built many number line
    → full_tasks_read (full_tasks_from built many number (line ∷ lines)) ≡ task ∷ full_tasks_read (full_tasks_from built many (number + 1) lines)
read_first_task built many number line lines task h e = by (full_tasks_from built many (number + 1) lines) (rest_is_right built many number line lines h)
  where
    by : (rest : Result (List FullTask) BadFullLine) → IsOk rest → full_tasks_read (before_full number (full_task_of built many number line) rest) ≡ task ∷ full_tasks_read rest
    by (Err fault) k = absurd (cc)
    by (Ok tasks) k = sym (ap (λ (first : Result FullTask WordFault). full_tasks_read (before_full number first (let r : Result (List FullTask) BadFullLine = Ok tasks in r))) e)

-- ---- one line

abbrev task_by_tests : Built → Bool → ℕ → List ℕ → Bool → Bool → Result FullTask WordFault
task_by_tests built many number line late ascii =
    cond late (basic_fault faults.TooManyLines) (cond ascii (full_task_of_words built many number (words_of line)) (basic_fault faults.NotAscii))

-- a line that is right says what its words say
words_say_task : (built : Built) (many : Bool) (number : ℕ) (line : List ℕ) → IsOk (full_task_of built many number line) → full_task_of built many number line ≡ full_task_of_words built many number (words_of line)
words_say_task built many number line h = by (nat_lt MAX_LINES number) (list_all is_ascii line) h
  where
    by : (late ascii : Bool) → IsOk (task_by_tests built many number line late ascii) → task_by_tests built many number line late ascii ≡ full_task_of_words built many number (words_of line)
    by true ascii h = absurd (cc)
    by false true h = refl
    by false false h = absurd (cc)

saying_right : (number client : ℕ) (said : Result FullLine WordFault) → IsOk (task_saying number client said) → IsOk said
saying_right number client (Ok line) h = refl
saying_right number client (Err fault) h = absurd (cc)

saying_is : (number client : ℕ) (said : Result FullLine WordFault) → IsOk said → Ok (full_task number client (full_line_read said)) ≡ task_saying number client said
saying_is number client (Ok line) h = refl
saying_is number client (Err fault) h = absurd (cc)

sender_says : (built : Built) (many : Bool) (number : ℕ) (line : List ℕ) (client : ℕ) (words : List (List ℕ)) → Ok (client, words) ≡ with_basic_fault (sender_of many (words_of line))
    → full_task_of_words built many number (words_of line) ≡ task_saying number client (full_line_of_words built words)
sender_says built many number line client words sent =
    sym (ap (λ (found : Result (ℕ × List (List ℕ)) WordFault). found >>= λ (sent : ℕ × List (List ℕ)). task_saying number sent.0 (full_line_of_words built sent.1)) sent)

pub sent_task_right : (built : Built) (many : Bool) (number : ℕ) (line : List ℕ) (client : ℕ) (words : List (List ℕ)) → IsOk (full_task_of built many number line) → Ok (client, words) ≡ with_basic_fault (sender_of many (words_of line))
    → IsOk (full_line_of_words built words)
sent_task_right built many number line client words h sent =
    saying_right number client (full_line_of_words built words)
    (subst (λ (t : Result FullTask WordFault). IsOk t) (words_say_task built many number line h ∙ sender_says built many number line client words sent) h)

pub sent_task_is : (built : Built) (many : Bool) (number : ℕ) (line : List ℕ) (client : ℕ) (words : List (List ℕ)) → IsOk (full_task_of built many number line) → Ok (client, words) ≡ with_basic_fault (sender_of many (words_of line))
    → Ok (full_task number client (full_line_read (full_line_of_words built words))) ≡ full_task_of built many number line
sent_task_is built many number line client words h sent =
    saying_is number client (full_line_of_words built words) (sent_task_right built many number line client words h sent)
    ∙ sym (words_say_task built many number line h ∙ sender_says built many number line client words sent)
