-- What is printed for a line.
use Rattle.std.specs.Prelude.{ℕ, List, [], ◌∷◌, ◌++◌, codes, length}
use Rattle.std.specs.Fmt.{decimal}
use Rattle.fx_plain.specs.declared.kind.Kind.{Kind}
use Rattle.fx_plain.specs.declared.kind.Kind.TheVariants as kinds
use Rattle.fx_plain.specs.declared.step.Answer.{Answer}
use Rattle.fx_plain.specs.declared.step.Answer.TheVariants as answers
use Rattle.fx_plain.specs.Words.{refusal_word}
use Rattle.fx_script.specs.Escape.{escaped}
use Rattle.fx_script.specs.declared.script.Task.{Task}
use Rattle.fx_history.specs.declared.outcome.EndKind.{EndKind}
use Rattle.fx_history.specs.declared.outcome.EndKind.TheVariants as ends
use Rattle.fx_history.specs.Outcome.{LineEnd}

-- a space and the escaped bytes, where there are any
abbrev pub after_count : List ℕ → List ℕ
after_count [] = []
after_count (b ∷ bs) = codes " " ++ escaped (b ∷ bs)

-- what was read, at a commit
abbrev pub read_text : ℕ → List ℕ → List ℕ
read_text at bytes =
    codes "read " ++ decimal at ++ codes " " ++ decimal (length bytes) ++ after_count bytes

-- a space and the escaped name, again and again
abbrev pub spaced_names : List (List ℕ) → List ℕ
spaced_names [] = []
spaced_names (name ∷ names) = codes " " ++ escaped name ++ spaced_names names

-- the names in a directory, at a commit
abbrev pub list_text : ℕ → List (List ℕ) → List ℕ
list_text at names =
    codes "list " ++ decimal at ++ codes " " ++ decimal (length names) ++ spaced_names names

-- what lies at a path, at a commit: a directory has no blocks
abbrev pub stat_text : ℕ → Kind → ℕ → ℕ → List ℕ
stat_text at kinds.Dir size blocks =
    codes "stat " ++ decimal at ++ codes " dir " ++ decimal size ++ codes " 0"
stat_text at kinds.File size blocks =
    codes "stat " ++ decimal at ++ codes " file " ++ decimal size ++ codes " " ++ decimal blocks

-- what was seen of the tree, at a commit
abbrev pub seen_text : ℕ → Answer → List ℕ
seen_text at answers.Done = codes "ok " ++ decimal at
seen_text at (answers.Text bytes) = read_text at bytes
seen_text at (answers.Names names) = list_text at names
seen_text at (answers.Stat kind size blocks) = stat_text at kind size blocks

-- the end of a line, at a commit
abbrev pub end_text : ℕ → EndKind → List ℕ
end_text at ends.Committed = codes "ok " ++ decimal at
end_text at (ends.Seen answer) = seen_text at answer
end_text at (ends.Refused index refusal) =
    codes "err " ++ decimal at ++ codes " " ++ decimal index ++ codes " " ++ refusal_word refusal
end_text at (ends.Full full) = codes "err " ++ decimal at ++ codes " 0 full"
end_text at (ends.Synced calls) = codes "synced " ++ decimal at ++ codes " " ++ decimal calls
end_text at (ends.DeviceFault count) = codes "err " ++ decimal at ++ codes " 0 device"
end_text at ends.OutOfMemory = codes "err " ++ decimal at ++ codes " 0 memory"

-- the result line of a line: its client, its number and its end
abbrev pub result_line : Task → LineEnd → List ℕ
result_line task end =
    decimal task.client ++ codes " " ++ decimal task.number ++ codes " " ++ end_text end.at end.kind
    ++ codes "\n"

-- the result lines, in the order of the lines
abbrev pub result_text : List Task → List LineEnd → List ℕ
result_text [] ends = []
result_text (task ∷ tasks) [] = []
result_text (task ∷ tasks) (end ∷ ends) = result_line task end ++ result_text tasks ends
