-- What a line of any words says, and its first fault.
use Rattle.std.specs.Prelude.{◌≡◌, ℕ, Bool, true, false, ◌&&◌, ◌||◌, List, [], ◌∷◌, Result, Ok, Err, if◌then◌else◌, codes, length, nat_le, nat_lt}
use Rattle.std.specs.List.{list_all}
use Rattle.std.specs.Str.{bytes_eq}
use Rattle.std.specs.Char.{is_ascii}
use Rattle.percent_encoding.specs.Percent.{percent_decode}
use Rattle.fx_item.specs.Name.{is_name}
use Rattle.fx_plain.specs.declared.step.Step.{Step}
use Rattle.fx_steps.specs.declared.step.TreeStep.{TreeStep}
use Rattle.fx_steps.specs.declared.step.TreeStep.TheVariants.{Basic, Truncate, Remove, Rename, SetAttr, DelAttr, GetAttr}
use Rattle.fx_script.specs.declared.fault.LineFault.{LineFault}
use Rattle.fx_script.specs.declared.fault.LineFault.TheVariants as faults
use Rattle.fx_script.specs.declared.line.Line.{Line}
use Rattle.fx_script.specs.declared.line.Line.TheVariants as lines
use Rattle.fx_script.specs.Cut.{is_blank, words_of}
use Rattle.fx_script.specs.Word.{path_of, number_in}
use Rattle.fx_script.specs.Line.{has_semicolon, step_of}
use Rattle.fx_words.specs.declared.built.Built.{Built}
use Rattle.fx_words.specs.declared.fault.WordFault.{WordFault}
use Rattle.fx_words.specs.declared.fault.WordFault.TheVariants.{Basic as BasicFault, GroupedLine, BadName, TooManySteps}
use Rattle.fx_words.specs.declared.line.FullLine.{FullLine}
use Rattle.fx_words.specs.declared.line.FullLine.TheVariants.{Single, Group, Sync, Compact}
use Rattle.fx_words.specs.declared.line.TheConstants.{MAX_STEPS, MAX_VALUE}

-- what is made of a value, or the fault that there is in place of it
infixl 10 ◌>>=◌
abbrev pub ◌>>=◌ : {A B : Type 0} → Result A WordFault → (A → Result B WordFault)
    → Result B WordFault
(Ok x) >>= f = f x
(Err fault) >>= f = Err fault

-- a fault of those that every line may have
abbrev pub basic_fault : {A : Type 0} → LineFault → Result A WordFault
basic_fault fault = Err (BasicFault fault)

abbrev pub with_basic_fault : {A : Type 0} → Result A LineFault → Result A WordFault
with_basic_fault (Ok x) = Ok x
with_basic_fault (Err fault) = basic_fault fault

abbrev pub path_word : List ℕ → Result (List (List ℕ)) WordFault
path_word word = with_basic_fault (path_of word)

abbrev pub number_word : List ℕ → Result ℕ WordFault
number_word word = with_basic_fault (number_in word)

-- the name of an attribute
abbrev pub name_word : List ℕ → Result (List ℕ) WordFault
name_word word =
    if is_name (percent_decode word) then Ok (percent_decode word) else Err BadName

-- the text of an attribute: 1 to 256 bytes
abbrev pub value_word : List ℕ → Result (List ℕ) WordFault
value_word word =
    if nat_lt 0 (length (percent_decode word)) && nat_le (length (percent_decode word)) MAX_VALUE
    then Ok (percent_decode word)
    else basic_fault faults.BadText

-- so many words
abbrev pub one_word : List (List ℕ) → Result (List ℕ) WordFault
one_word (word ∷ []) = Ok word
one_word words = basic_fault faults.WordCount

abbrev pub two_words : List (List ℕ) → Result (List ℕ × List ℕ) WordFault
two_words (first ∷ second ∷ []) = Ok (first, second)
two_words words = basic_fault faults.WordCount

abbrev pub words_of_three : List (List ℕ) → Result (List ℕ × List ℕ × List ℕ) WordFault
words_of_three (first ∷ second ∷ third ∷ []) = Ok (first, second, third)
words_of_three words = basic_fault faults.WordCount

-- `trunc PATH SIZE`
abbrev pub trunc_of : List (List ℕ) → Result TreeStep WordFault
trunc_of words =
    two_words words >>= λ (path, size).
    path_word path >>= λ path.
    number_word size >>= λ size.
    Ok (Truncate path size)

-- `rm PATH`
abbrev pub rm_of : List (List ℕ) → Result TreeStep WordFault
rm_of words = one_word words >>= λ path. path_word path >>= λ path. Ok (Remove path)

-- `mv PATH PATH`
abbrev pub mv_of : List (List ℕ) → Result TreeStep WordFault
mv_of words =
    two_words words >>= λ (from, to).
    path_word from >>= λ from.
    path_word to >>= λ to.
    Ok (Rename from to)

-- `setattr PATH NAME TEXT`
abbrev pub setattr_of : List (List ℕ) → Result TreeStep WordFault
setattr_of words =
    words_of_three words >>= λ (path, name, value).
    path_word path >>= λ path.
    name_word name >>= λ name.
    value_word value >>= λ value.
    Ok (SetAttr path name value)

-- `delattr PATH NAME`
abbrev pub delattr_of : List (List ℕ) → Result TreeStep WordFault
delattr_of words =
    two_words words >>= λ (path, name).
    path_word path >>= λ path.
    name_word name >>= λ name.
    Ok (DelAttr path name)

-- `attr PATH NAME`
abbrev pub attr_of : List (List ℕ) → Result TreeStep WordFault
attr_of words =
    two_words words >>= λ (path, name).
    path_word path >>= λ path.
    name_word name >>= λ name.
    Ok (GetAttr path name)

-- a word counts only where it is built
abbrev pub if_built : {A : Type 0} → Bool → Result A WordFault → Result A WordFault
if_built built found = if built then found else basic_fault faults.UnknownWord

abbrev pub as_basic : Result Step LineFault → Result TreeStep WordFault
as_basic (Ok step) = Ok (Basic step)
as_basic (Err fault) = basic_fault fault

-- the step that its first word names
abbrev pub full_step_of : Built → List (List ℕ) → Result TreeStep WordFault
full_step_of built [] = basic_fault faults.UnknownWord
full_step_of built (word ∷ words) =
    if bytes_eq word (codes "trunc") then if_built built.truncation (trunc_of words)
    else if bytes_eq word (codes "rm") then if_built built.removal (rm_of words)
    else if bytes_eq word (codes "mv") then if_built built.removal (mv_of words)
    else if bytes_eq word (codes "setattr") then if_built built.removal (setattr_of words)
    else if bytes_eq word (codes "delattr") then if_built built.removal (delattr_of words)
    else if bytes_eq word (codes "attr") then if_built built.removal (attr_of words)
    else as_basic (step_of (word ∷ words))

-- ---- groups

-- whether a word begins a line that cannot be part of a group
abbrev pub is_alone : Built → List ℕ → Bool
is_alone built word =
    bytes_eq word (codes "sync") || bytes_eq word (codes "read") || bytes_eq word (codes "list")
    || bytes_eq word (codes "stat") || built.compaction && bytes_eq word (codes "compact")
    || built.removal && bytes_eq word (codes "attr")

-- one part of a group: a step that changes the tree
abbrev pub group_step_of : Built → List (List ℕ) → Result TreeStep WordFault
group_step_of built [] = basic_fault faults.UnknownWord
group_step_of built (word ∷ words) =
    if is_alone built word then Err GroupedLine else full_step_of built (word ∷ words)

abbrev pub onto_part : List ℕ → List (List (List ℕ)) → List (List (List ℕ))
onto_part word [] = (word ∷ []) ∷ []
onto_part word (part ∷ parts) = (word ∷ part) ∷ parts

-- the words between the words `;`
abbrev pub cut_parts : List (List ℕ) → List (List (List ℕ))
cut_parts [] = [] ∷ []
cut_parts (word ∷ words) =
    if bytes_eq word (codes ";") then [] ∷ cut_parts words else onto_part word (cut_parts words)

-- the steps of the parts, or the first fault of the first wrong one
abbrev pub group_steps_of : Built → List (List (List ℕ)) → Result (List TreeStep) WordFault
group_steps_of built [] = Ok []
group_steps_of built (part ∷ parts) =
    group_step_of built part >>= λ step. group_steps_of built parts >>= λ steps. Ok (step ∷ steps)

abbrev pub if_few : List TreeStep → Result FullLine WordFault
if_few steps = if nat_le (length steps) MAX_STEPS then Ok (Group steps) else Err TooManySteps

abbrev pub group_of : Built → List (List ℕ) → Result FullLine WordFault
group_of built words = group_steps_of built (cut_parts words) >>= if_few

-- ---- lines

-- a word that stands alone
abbrev pub lone_word : FullLine → List (List ℕ) → Result FullLine WordFault
lone_word line [] = Ok line
lone_word line (word ∷ words) = basic_fault faults.WordCount

-- a line that is no group: `sync`, `compact`, or one step
abbrev pub lone_line : Built → List (List ℕ) → Result FullLine WordFault
lone_line built [] = basic_fault faults.Empty
lone_line built (word ∷ words) =
    if bytes_eq word (codes "sync") then lone_word Sync words
    else if built.compaction && bytes_eq word (codes "compact") then lone_word Compact words
    else full_step_of built (word ∷ words) >>= λ step. Ok (Single step)

-- what the words of a line say, or their first fault
abbrev pub full_line_of_words : Built → List (List ℕ) → Result FullLine WordFault
full_line_of_words built words =
    if is_blank words then basic_fault faults.Empty
    else if has_semicolon words then if_built built.groups (group_of built words)
    else lone_line built words

-- what a line says, or its first fault
abbrev pub full_line_of : Built → List ℕ → Result FullLine WordFault
full_line_of built line =
    if list_all is_ascii line then full_line_of_words built (words_of line)
    else basic_fault faults.NotAscii

-- ---- the lines of the first steps

abbrev pub as_full : Result Line LineFault → Result FullLine WordFault
as_full (Ok (lines.Single step)) = Ok (Single (Basic step))
as_full (Ok lines.Sync) = Ok Sync
as_full (Err fault) = basic_fault fault

abbrev pub none_built : Built
none_built =
    record { truncation = false; groups = false; compaction = false; removal = false }

abbrev pub all_built : Built
all_built =
    record { truncation = true; groups = true; compaction = true; removal = true }

-- what a line says, or its first fault, where all words are built
abbrev pub Says : List ℕ → Result FullLine WordFault → Type 0
Says line said = full_line_of all_built line ≡ said
