-- What each step answers on a tree, and the tree after it.
use Rattle.std.specs.Prelude.{ℕ, ◌+◌, Bool, true, false, List, [], ◌∷◌, ◌++◌, Option, None, Some, Result, Ok, Err, if◌then◌else◌, nat_lt, length, take, drop}
use Rattle.std.specs.FinMap.{get, insert}
use Rattle.std.specs.FinSet.{len}
use Rattle.fx_plain.specs.Node.{Node, Dir, File, empty_dir, empty_file, written}
use Rattle.fx_plain.specs.Tree.{Tree, children}
use Rattle.fx_plain.specs.declared.contents.TheConstants.{MAX_FILE, MAX_READ}
use Rattle.fx_plain.specs.declared.kind.Kind.TheVariants as kind
use Rattle.fx_plain.specs.declared.step.Step.{Step}
use Rattle.fx_plain.specs.declared.step.Step.TheVariants.{Mkdir, Create, Write, Read, List as ListStep, Stat as StatStep}
use Rattle.fx_plain.specs.declared.step.Answer.{Answer}
use Rattle.fx_plain.specs.declared.step.Answer.TheVariants.{Done, Text, Names, Stat}
use Rattle.fx_plain.specs.declared.step.Refusal.{Refusal}
use Rattle.fx_plain.specs.declared.step.Refusal.TheVariants.{NotFound, NotDir, IsDir, Exists, NotVolume, TooLong}

-- what stands in the way where a path goes through a directory: there is none, or it is a file
abbrev pub obstacle : Option Node → Option Refusal
obstacle None = Some NotFound
obstacle (Some (Dir attributes)) = None
obstacle (Some (File contents attributes)) = Some NotDir

abbrev pub or_else : Option Refusal → Option Refusal → Option Refusal
or_else None next = next
or_else (Some refusal) next = Some refusal

-- the first obstacle at a proper prefix of `before ++ names` that has at least the names of
-- `before`
abbrev pub walk_from : Tree → List (List ℕ) → List (List ℕ) → Option Refusal
walk_from tree before [] = None
walk_from tree before (name ∷ names) =
    or_else (obstacle (get tree before)) (walk_from tree (before ++ name ∷ []) names)

-- the first obstacle at a proper prefix of the path
abbrev pub walk : Tree → List (List ℕ) → Option Refusal
walk tree path = walk_from tree [] path

-- a new node at a path where nothing lies
abbrev pub place : Tree → List (List ℕ) → Node → Option Refusal → Option Node
    → Result Answer Refusal × Tree
place tree path node (Some refusal) there = (Err refusal, tree)
place tree path node None (Some other) = (Err Exists, tree)
place tree path node None None = (Ok Done, insert tree path node)

abbrev pub mkdir : Tree → List (List ℕ) → Result Answer Refusal × Tree
mkdir tree [] = (Err Exists, tree)
mkdir tree (name ∷ names) =
    place tree (name ∷ names) empty_dir (walk tree (name ∷ names)) (get tree (name ∷ names))

abbrev pub create : Tree → List (List ℕ) → Result Answer Refusal × Tree
create tree [] = (Err NotVolume, tree)
create tree (volume ∷ []) = (Err NotVolume, tree)
create tree (volume ∷ name ∷ names) =
    place tree (volume ∷ name ∷ names) empty_file (walk tree (volume ∷ name ∷ names))
    (get tree (volume ∷ name ∷ names))

-- the text in the file at a path, by what the walk meets and what lies there
abbrev pub write_at : Tree → List (List ℕ) → ℕ → List ℕ → Option Refusal → Option Node
    → Result Answer Refusal × Tree
write_at tree path at text (Some refusal) there = (Err refusal, tree)
write_at tree path at text None None = (Err NotFound, tree)
write_at tree path at text None (Some (Dir attributes)) = (Err IsDir, tree)
write_at tree path at text None (Some (File contents attributes)) =
    if nat_lt MAX_FILE (at + length text) then (Err TooLong, tree)
    else (Ok Done, insert tree path (File (written at text contents) attributes))

-- the bytes of a file from `at` on, at most `count` and none past its end
abbrev pub read_at : ℕ → ℕ → Option Refusal → Option Node → Result Answer Refusal
read_at at count (Some refusal) there = Err refusal
read_at at count None None = Err NotFound
read_at at count None (Some (Dir attributes)) = Err IsDir
read_at at count None (Some (File contents attributes)) =
    if nat_lt MAX_READ count then Err TooLong else Ok (Text (take count (drop at contents.bytes)))

-- the names of a directory's children
abbrev pub list_at : Tree → List (List ℕ) → Option Refusal → Option Node → Result Answer Refusal
list_at tree path (Some refusal) there = Err refusal
list_at tree path None None = Err NotFound
list_at tree path None (Some (Dir attributes)) = Ok (Names (children tree path))
list_at tree path None (Some (File contents attributes)) = Err NotDir

-- the kind of a node, with the number of a directory's children, or with the bytes and the held
-- blocks of a file
abbrev pub stat_at : Tree → List (List ℕ) → Option Refusal → Option Node → Result Answer Refusal
stat_at tree path (Some refusal) there = Err refusal
stat_at tree path None None = Err NotFound
stat_at tree path None (Some (Dir attributes)) = Ok (Stat kind.Dir (length (children tree path)) 0)
stat_at tree path None (Some (File contents attributes)) =
    Ok (Stat kind.File (length contents.bytes) (len contents.held))

-- what a step answers, or its first refusal, and the tree after it
abbrev pub do_step : Tree → Step → Result Answer Refusal × Tree
do_step tree (Mkdir path) = mkdir tree path
do_step tree (Create path) = create tree path
do_step tree (Write path at text) = write_at tree path at text (walk tree path) (get tree path)
do_step tree (Read path at count) = (read_at at count (walk tree path) (get tree path), tree)
do_step tree (ListStep path) = (list_at tree path (walk tree path) (get tree path), tree)
do_step tree (StatStep path) = (stat_at tree path (walk tree path) (get tree path), tree)

-- why a step was refused, if it was
abbrev pub refused : Result Answer Refusal → Option Refusal
refused (Ok answer) = None
refused (Err refusal) = Some refusal

-- the step looks at the tree and leaves it
abbrev pub is_reading : Step → Bool
is_reading (Mkdir path) = false
is_reading (Create path) = false
is_reading (Write path at text) = false
is_reading (Read path at count) = true
is_reading (ListStep path) = true
is_reading (StatStep path) = true

abbrev pub go_on : ℕ → Result Answer Refusal → Result Tree (ℕ × Refusal) → Result Tree (ℕ × Refusal)
go_on index (Ok answer) rest = rest
go_on index (Err refusal) rest = Err (index, refusal)

-- the steps from the one with this index on, one after another
abbrev pub do_from : ℕ → Tree → List Step → Result Tree (ℕ × Refusal)
do_from index tree [] = Ok tree
do_from index tree (step ∷ steps) =
    go_on index (do_step tree step).0 (do_from (index + 1) (do_step tree step).1 steps)

-- the tree after all of the steps, or the first refusal and the index of its step, from 1
abbrev pub do_all : Tree → List Step → Result Tree (ℕ × Refusal)
do_all tree steps = do_from 1 tree steps
