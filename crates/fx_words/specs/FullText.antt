-- How a line of all words is printed, and which lines the grammar reads again.
use Rattle.std.specs.Prelude.{◌≡◌, ℕ, ◌<◌, ◌≤◌, true, false, List, [], ◌∷◌, ◌++◌, length, codes}
use Rattle.std.specs.List.{AllByRecursion}
use Rattle.std.specs.Fmt.{decimal}
use Rattle.fx_item.specs.Name.{is_name}
use Rattle.fx_steps.specs.declared.step.TreeStep.{TreeStep}
use Rattle.fx_steps.specs.declared.step.TreeStep.TheVariants.{Basic, Truncate, Remove, Rename, SetAttr, DelAttr, GetAttr}
use Rattle.fx_steps.specs.Rows.{is_look}
use Rattle.fx_script.specs.Escape.{escaped}
use Rattle.fx_script.specs.Print.{IsPath, StepKeepsRules, path_text, spaced, step_words}
use Rattle.fx_script.specs.Word.{max_number}
use Rattle.fx_words.specs.declared.line.FullLine.{FullLine}
use Rattle.fx_words.specs.declared.line.FullLine.TheVariants.{Single, Group, Sync, Compact}
use Rattle.fx_words.specs.declared.line.TheConstants.{MAX_STEPS, MAX_VALUE}

abbrev pub full_step_words : TreeStep → List (List ℕ)
full_step_words (Basic step) = step_words step
full_step_words (Truncate path size) = codes "trunc" ∷ path_text path ∷ decimal size ∷ []
full_step_words (Remove path) = codes "rm" ∷ path_text path ∷ []
full_step_words (Rename from to) = codes "mv" ∷ path_text from ∷ path_text to ∷ []
full_step_words (SetAttr path name value) =
    codes "setattr" ∷ path_text path ∷ escaped name ∷ escaped value ∷ []
full_step_words (DelAttr path name) = codes "delattr" ∷ path_text path ∷ escaped name ∷ []
full_step_words (GetAttr path name) = codes "attr" ∷ path_text path ∷ escaped name ∷ []

-- the steps with a word `;` between them
abbrev pub group_words : List TreeStep → List (List ℕ)
group_words [] = []
group_words (step ∷ []) = full_step_words step
group_words (step ∷ next ∷ steps) =
    full_step_words step ++ codes ";" ∷ group_words (next ∷ steps)

abbrev pub full_line_words : FullLine → List (List ℕ)
full_line_words (Single step) = full_step_words step
full_line_words (Group steps) = group_words steps
full_line_words Sync = codes "sync" ∷ []
full_line_words Compact = codes "compact" ∷ []

abbrev pub full_line_text : FullLine → List ℕ
full_line_text line = spaced (full_line_words line)

-- the text of an attribute: 1 to 256 bytes
pub record IsValue (value : List ℕ) : Type 0 where
  pub some : 0 < length value
  pub few : length value ≤ MAX_VALUE
  pub bytes : AllByRecursion (λ b. b < 256) value

abbrev pub FullStepKeepsRules : TreeStep → Type 0
FullStepKeepsRules (Basic step) = StepKeepsRules step
FullStepKeepsRules (Truncate path size) = IsPath path × (size ≤ max_number)
FullStepKeepsRules (Remove path) = IsPath path
FullStepKeepsRules (Rename from to) = IsPath from × IsPath to
FullStepKeepsRules (SetAttr path name value) =
    IsPath path × (is_name name ≡ true) × IsValue value
FullStepKeepsRules (DelAttr path name) = IsPath path × (is_name name ≡ true)
FullStepKeepsRules (GetAttr path name) = IsPath path × (is_name name ≡ true)

-- a step that may be part of a group: it changes the tree
abbrev pub GroupStepKeepsRules : TreeStep → Type 0
GroupStepKeepsRules step = FullStepKeepsRules step × (is_look step ≡ false)

-- 2 to 64 steps that change the tree
pub record IsGroup (steps : List TreeStep) : Type 0 where
  pub some : 1 < length steps
  pub few : length steps ≤ MAX_STEPS
  pub each : AllByRecursion GroupStepKeepsRules steps

-- a line that the grammar of all words has
abbrev pub FullLineKeepsRules : FullLine → Type 0
FullLineKeepsRules (Single step) = FullStepKeepsRules step
FullLineKeepsRules (Group steps) = IsGroup steps
FullLineKeepsRules Sync = Unit {0}
FullLineKeepsRules Compact = Unit {0}
