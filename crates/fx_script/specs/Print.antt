-- How a line is printed, and which lines the grammar reads again.
use Rattle.std.specs.Prelude.{◌≡◌, ℕ, ◌<◌, ◌≤◌, true, List, [], ◌∷◌, ◌++◌, length, codes}
use Rattle.std.specs.List.{AllByRecursion}
use Rattle.std.specs.Fmt.{decimal}
use Rattle.fx_item.specs.Name.{is_name}
use Rattle.fx_plain.specs.declared.path.TheConstants.{MAX_NAMES}
use Rattle.fx_plain.specs.declared.step.Step.{Step}
use Rattle.fx_plain.specs.declared.step.Step.TheVariants.{Mkdir, Create, Write, Read, List as ListStep, Stat as StatStep}
use Rattle.fx_script.specs.declared.line.Line.{Line}
use Rattle.fx_script.specs.declared.line.Line.TheVariants.{Single, Sync}
use Rattle.fx_script.specs.Escape.{escaped}
use Rattle.fx_script.specs.Word.{max_number}

-- a slash and a name, again and again
abbrev pub names_text : List (List ℕ) → List ℕ
names_text [] = []
names_text (name ∷ names) = 47 ∷ escaped name ++ names_text names

abbrev pub path_text : List (List ℕ) → List ℕ
path_text [] = 47 ∷ []
path_text (name ∷ names) = names_text (name ∷ names)

abbrev pub step_words : Step → List (List ℕ)
step_words (Mkdir path) = codes "mkdir" ∷ path_text path ∷ []
step_words (Create path) = codes "create" ∷ path_text path ∷ []
step_words (Write path at text) = codes "write" ∷ path_text path ∷ decimal at ∷ escaped text ∷ []
step_words (Read path at count) = codes "read" ∷ path_text path ∷ decimal at ∷ decimal count ∷ []
step_words (ListStep path) = codes "list" ∷ path_text path ∷ []
step_words (StatStep path) = codes "stat" ∷ path_text path ∷ []

abbrev pub line_words : Line → List (List ℕ)
line_words (Single step) = step_words step
line_words Sync = codes "sync" ∷ []

-- the words with one space between them
abbrev pub spaced : List (List ℕ) → List ℕ
spaced [] = []
spaced (word ∷ []) = word
spaced (word ∷ next ∷ words) = word ++ 32 ∷ spaced (next ∷ words)

abbrev pub line_text : Line → List ℕ
line_text line = spaced (line_words line)

-- at most 64 names, of which each may name a node
pub record IsPath (path : List (List ℕ)) : Type 0 where
  pub few : length path ≤ MAX_NAMES
  pub names : AllByRecursion (λ name. is_name name ≡ true) path

-- one byte or more
pub record IsText (text : List ℕ) : Type 0 where
  pub some : 0 < length text
  pub bytes : AllByRecursion (λ b. b < 256) text

abbrev pub StepKeepsRules : Step → Type 0
StepKeepsRules (Mkdir path) = IsPath path
StepKeepsRules (Create path) = IsPath path
StepKeepsRules (Write path at text) = IsPath path × (at ≤ max_number) × IsText text
StepKeepsRules (Read path at count) = IsPath path × (at ≤ max_number) × (count ≤ max_number)
StepKeepsRules (ListStep path) = IsPath path
StepKeepsRules (StatStep path) = IsPath path

-- a line that the grammar has: its paths, numbers and texts are those of words
abbrev pub LineKeepsRules : Line → Type 0
LineKeepsRules (Single step) = StepKeepsRules step
LineKeepsRules Sync = Unit {0}
