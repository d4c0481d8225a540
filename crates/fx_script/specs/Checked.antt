-- What words stand for that were checked: each is seen through the reference to it.
use Rattle.std.specs.Prelude.{ℕ, List, [], ◌∷◌, Result, Ok, Err, map}
use Rattle.std.specs.Borrow.{Bor}
use Rattle.percent_encoding.specs.Percent.{percent_decode}
use Rattle.fx_plain.specs.declared.step.Step.{Step}
use Rattle.fx_plain.specs.declared.step.Step.TheVariants as steps
use Rattle.fx_script.specs.declared.fault.LineFault.{LineFault}
use Rattle.fx_script.specs.declared.steps.StepWords.{StepWords}
use Rattle.fx_script.specs.declared.steps.StepWords.TheVariants as words
use Rattle.fx_script.specs.declared.line.Line.{Line}
use Rattle.fx_script.specs.declared.line.Line.TheVariants as lines
use Rattle.fx_script.specs.declared.line.LineWords.{LineWords}
use Rattle.fx_script.specs.declared.line.LineWords.TheVariants as line_words
use Rattle.fx_script.specs.Cut.{cut}
use Rattle.fx_script.specs.Line.{◌>>=◌}

-- a value, where the check of it found no fault
abbrev pub checked : {A B : Type 0} → Result B LineFault → A → Result A LineFault
checked found value = found >>= λ _. Ok value

-- the names that pieces stand for, if each stands for one
abbrev pub names_in : List (List ℕ) → List (List ℕ)
names_in pieces = map percent_decode pieces

-- the names that a path has, if it is one
abbrev pub path_in : List ℕ → List (List ℕ)
path_in [] = []
path_in (b ∷ []) = []
path_in (b ∷ c ∷ cs) = names_in (cut 47 (c ∷ cs))

abbrev pub path_said : Result (Bor (List ℕ)) LineFault → Result (List (List ℕ)) LineFault
path_said found = found >>= λ word. Ok (path_in word.now)

abbrev pub step_in : StepWords → Step
step_in (words.Mkdir path) = steps.Mkdir (path_in path.now)
step_in (words.Create path) = steps.Create (path_in path.now)
step_in (words.Write path at text) = steps.Write (path_in path.now) at (percent_decode text.now)
step_in (words.Read path at count) = steps.Read (path_in path.now) at count
step_in (words.List path) = steps.List (path_in path.now)
step_in (words.Stat path) = steps.Stat (path_in path.now)

abbrev pub step_said : Result StepWords LineFault → Result Step LineFault
step_said found = found >>= λ step. Ok (step_in step)

abbrev pub line_in : LineWords → Line
line_in (line_words.Single step) = lines.Single (step_in step)
line_in line_words.Sync = lines.Sync

abbrev pub line_said : Result LineWords LineFault → Result Line LineFault
line_said found = found >>= λ line. Ok (line_in line)

-- the line that was read, where the words had no fault
abbrev pub line_read : Result Line LineFault → Line
line_read (Ok line) = line
line_read (Err fault) = lines.Sync
