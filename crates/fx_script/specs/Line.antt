-- What a line says, and its first fault.
use Rattle.std.specs.Prelude.{◌≡◌, ℕ, Bool, List, [], ◌∷◌, Result, Ok, Err, if◌then◌else◌, codes}
use Rattle.std.specs.List.{list_all, list_any}
use Rattle.std.specs.Borrow.{Bor}
use Rattle.std.specs.Str.{bytes_eq}
use Rattle.std.specs.Char.{is_ascii}
use Rattle.fx_plain.specs.declared.step.Step.{Step}
use Rattle.fx_plain.specs.declared.step.Step.TheVariants.{Mkdir, Create, Write, Read, List as ListStep, Stat as StatStep}
use Rattle.fx_script.specs.declared.line.Line.{Line}
use Rattle.fx_script.specs.declared.line.Line.TheVariants.{Single, Sync}
use Rattle.fx_script.specs.declared.fault.LineFault.{LineFault}
use Rattle.fx_script.specs.declared.fault.LineFault.TheVariants as faults
use Rattle.fx_script.specs.Cut.{is_blank, words_of}
use Rattle.fx_script.specs.Word.{path_of, number_in, text_of}

-- what is made of a value, or the fault that there is in place of it
infixl 10 ◌>>=◌
abbrev pub ◌>>=◌ : {A B : Type 0} → Result A LineFault → (A → Result B LineFault)
    → Result B LineFault
(Ok x) >>= f = f x
(Err fault) >>= f = Err fault

-- the one word
abbrev pub only_word : List (List ℕ) → Result (List ℕ) LineFault
only_word (word ∷ []) = Ok word
only_word words = Err faults.WordCount

-- the three words
abbrev pub three_words : List (List ℕ) → Result (List ℕ × List ℕ × List ℕ) LineFault
three_words (first ∷ second ∷ third ∷ []) = Ok (first, second, third)
three_words words = Err faults.WordCount

-- what a word stands for, seen through the reference to it
abbrev pub seen_word : Result (Bor (List ℕ)) LineFault → Result (List ℕ) LineFault
seen_word found = found >>= λ word. Ok word.now

abbrev pub seen_words : Result (Bor (List ℕ) × Bor (List ℕ) × Bor (List ℕ)) LineFault
    → Result (List ℕ × List ℕ × List ℕ) LineFault
seen_words found = found >>= λ words. Ok (words.0.now, words.1.now, words.2.now)

-- the one word, which is a path
abbrev pub only_path : List (List ℕ) → Result (List (List ℕ)) LineFault
only_path words = only_word words >>= path_of

-- `mkdir PATH`
abbrev pub mkdir_of : List (List ℕ) → Result Step LineFault
mkdir_of words = only_path words >>= λ path. Ok (Mkdir path)

-- `create PATH`
abbrev pub create_of : List (List ℕ) → Result Step LineFault
create_of words = only_path words >>= λ path. Ok (Create path)

-- `write PATH AT TEXT`
abbrev pub write_step : List (List ℕ) → Result Step LineFault
write_step words =
    three_words words >>= λ (path, at, text).
    path_of path >>= λ path.
    number_in at >>= λ at.
    text_of text >>= λ text.
    Ok (Write path at text)

-- `read PATH AT COUNT`
abbrev pub read_step : List (List ℕ) → Result Step LineFault
read_step words =
    three_words words >>= λ (path, at, count).
    path_of path >>= λ path.
    number_in at >>= λ at.
    number_in count >>= λ count.
    Ok (Read path at count)

-- `list PATH`
abbrev pub list_of : List (List ℕ) → Result Step LineFault
list_of words = only_path words >>= λ path. Ok (ListStep path)

-- `stat PATH`
abbrev pub stat_of : List (List ℕ) → Result Step LineFault
stat_of words = only_path words >>= λ path. Ok (StatStep path)

-- the step that its first word names
abbrev pub step_of : List (List ℕ) → Result Step LineFault
step_of [] = Err faults.UnknownWord
step_of (word ∷ words) =
    if bytes_eq word (codes "mkdir") then mkdir_of words
    else if bytes_eq word (codes "create") then create_of words
    else if bytes_eq word (codes "write") then write_step words
    else if bytes_eq word (codes "read") then read_step words
    else if bytes_eq word (codes "list") then list_of words
    else if bytes_eq word (codes "stat") then stat_of words
    else Err faults.UnknownWord

-- `sync`, alone
abbrev pub sync_of : List (List ℕ) → Result Line LineFault
sync_of [] = Ok Sync
sync_of (word ∷ words) = Err faults.WordCount

-- a line that is no group: `sync`, or one step
abbrev pub single_of : List (List ℕ) → Result Line LineFault
single_of [] = Err faults.Empty
single_of (word ∷ words) =
    if bytes_eq word (codes "sync") then sync_of words
    else step_of (word ∷ words) >>= λ step. Ok (Single step)

-- whether a word is the `;` that parts the steps of a group
abbrev pub has_semicolon : List (List ℕ) → Bool
has_semicolon words = list_any (λ word. bytes_eq word (codes ";")) words

-- what the words of a line say, or their first fault: that there are none, a group, then those of
-- `sync` or of the step
abbrev pub line_of_words : List (List ℕ) → Result Line LineFault
line_of_words words =
    if is_blank words then Err faults.Empty
    else if has_semicolon words then Err faults.UnknownWord
    else single_of words

-- what a line says, or its first fault
abbrev pub line_of : List ℕ → Result Line LineFault
line_of line = if list_all is_ascii line then line_of_words (words_of line) else Err faults.NotAscii

-- a line was read so, or memory ran out
abbrev pub IsLine : Result Line LineFault → Result Line LineFault → Type 0
IsLine (Ok line) wanted = wanted ≡ Ok line
IsLine (Err faults.OutOfMemory) wanted = Unit {0}
IsLine (Err fault) wanted = wanted ≡ Err fault
