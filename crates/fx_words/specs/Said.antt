-- What words stand for that were checked, in lines of all words: each is seen through the reference
-- to it.
use Rattle.std.specs.Prelude.{ℕ, ◌+◌, List, [], ◌++◌, Option, None, Some, Result, Ok, Err, length}
use Rattle.std.specs.Borrow.{Bor}
use Rattle.percent_encoding.specs.Percent.{percent_decode}
use Rattle.fx_steps.specs.declared.step.TreeStep.{TreeStep}
use Rattle.fx_steps.specs.declared.step.TreeStep.TheVariants as steps
use Rattle.fx_script.specs.Checked.{path_in, step_in}
use Rattle.fx_script.specs.Cut.{cut_rest}
use Rattle.fx_words.specs.declared.fault.WordFault.{WordFault}
use Rattle.fx_words.specs.declared.steps.FullStepWords.{FullStepWords}
use Rattle.fx_words.specs.declared.steps.FullStepWords.TheVariants as words
use Rattle.fx_words.specs.Lines.{◌>>=◌, cut_parts}

-- a value, where the check of it found no fault
abbrev pub word_checked : {A B : Type 0} → Result B WordFault → A → Result A WordFault
word_checked found value = found >>= λ _. Ok value

abbrev pub seen_one : Result (Bor (List ℕ)) WordFault → Result (List ℕ) WordFault
seen_one found = found >>= λ word. Ok word.now

abbrev pub seen_two : Result (Bor (List ℕ) × Bor (List ℕ)) WordFault
    → Result (List ℕ × List ℕ) WordFault
seen_two found = found >>= λ words. Ok (words.0.now, words.1.now)

abbrev pub seen_three : Result (Bor (List ℕ) × Bor (List ℕ) × Bor (List ℕ)) WordFault
    → Result (List ℕ × List ℕ × List ℕ) WordFault
seen_three found = found >>= λ words. Ok (words.0.now, words.1.now, words.2.now)

abbrev pub full_step_in : FullStepWords → TreeStep
full_step_in (words.Basic step) = steps.Basic (step_in step)
full_step_in (words.Truncate path size) = steps.Truncate (path_in path.now) size
full_step_in (words.Remove path) = steps.Remove (path_in path.now)
full_step_in (words.Rename from to) = steps.Rename (path_in from.now) (path_in to.now)
full_step_in (words.SetAttr path name value) =
    steps.SetAttr (path_in path.now) (percent_decode name.now) (percent_decode value.now)
full_step_in (words.DelAttr path name) = steps.DelAttr (path_in path.now) (percent_decode name.now)
full_step_in (words.GetAttr path name) = steps.GetAttr (path_in path.now) (percent_decode name.now)

abbrev pub full_step_said : Result FullStepWords WordFault → Result TreeStep WordFault
full_step_said found = found >>= λ step. Ok (full_step_in step)

-- the parts of the words that are left, if any part is
abbrev pub parts_left : Option (Option (Bor (List ℕ))) → List (List (List ℕ))
parts_left None = []
parts_left (Some text) = cut_parts (cut_rest 32 text)

-- how many steps there are after so many, if there is no fault
abbrev pub steps_counted : ℕ → Result (List TreeStep) WordFault → Result ℕ WordFault
steps_counted before (Ok steps) = Ok (before + length steps)
steps_counted before (Err fault) = Err fault

-- the steps that were read, where there was no fault
abbrev pub steps_read : Result (List TreeStep) WordFault → List TreeStep
steps_read (Ok steps) = steps
steps_read (Err fault) = []

-- the steps behind those that were read before
abbrev pub behind_steps : List TreeStep → Result (List TreeStep) WordFault
    → Result (List TreeStep) WordFault
behind_steps before (Ok steps) = Ok (before ++ steps)
behind_steps before (Err fault) = Err fault
