-- How the tree in memory is seen.
use Rattle.std.specs.Prelude.{ℕ, suc, ◌+◌, ◌≤◌, Bool, true, false, List, [], ◌∷◌, Option, None, Some, Result, Ok, Err, Vec, if◌then◌else◌, length, nat_lt}
use Rattle.std.specs.Global.{Global}
use Rattle.std.specs.FinMap as map
use Rattle.std.specs.FinSet as set
use Rattle.fx_plain.specs.Node.{Blocks, Contents, Node, Dir, File, file_blocks, written}
use Rattle.fx_plain.specs.Tree.{Tree}
use Rattle.fx_plain.specs.declared.step.Refusal.{Refusal}
use Rattle.fx_plain.specs.declared.contents.TheConstants.{MAX_FILE}
use Rattle.fx_plain.specs.declared.step.Answer.{Answer}
use Rattle.fx_plain.specs.declared.step.Answer.TheVariants.{Done}
use Rattle.fx_plain.specs.declared.step.Refusal.TheVariants.{NotFound, IsDir, TooLong}

-- the places of the marks that are set, the first mark being at n
abbrev pub places_from : ℕ → List Bool → List ℕ
places_from n [] = []
places_from n (true ∷ marks) = n ∷ places_from (suc n) marks
places_from n (false ∷ marks) = places_from (suc n) marks

-- the numbers whose mark is set
abbrev pub marked : List Bool → Blocks
marked marks = set.from_list (places_from 0 marks)

-- no more bytes and marks than the longest file has bytes and blocks
abbrev pub IsFileSize : List ℕ → List Bool → Type 0
IsFileSize bytes marks = (length bytes ≤ MAX_FILE) × (length marks ≤ file_blocks)

-- the entries, each key as the list of its names
abbrev pub path_entries : List (Vec (List ℕ) Global × Node) → List (List (List ℕ) × Node)
path_entries [] = []
path_entries (e ∷ es) = (e.0.items, e.1) ∷ path_entries es

abbrev pub tree_of : List (Vec (List ℕ) Global × Node) → Tree
tree_of es = map.from_entries (path_entries es)

-- the contents of a file
abbrev pub contents_of : Node → Option Contents
contents_of (Dir attributes) = None
contents_of (File contents attributes) = Some contents

-- what a write into the node answers, and the node after it
abbrev pub write_node : ℕ → List ℕ → Node → Result Answer Refusal × Node
write_node at text (Dir attributes) = (Err IsDir, Dir attributes)
write_node at text (File contents attributes) =
    if nat_lt MAX_FILE (at + length text) then (Err TooLong, File contents attributes)
    else (Ok Done, File (written at text contents) attributes)

-- the file that a step on a file meets, by what the walk meets and what lies at the path
abbrev pub file_at : Option Refusal → Option Node → Result Contents Refusal
file_at (Some refusal) there = Err refusal
file_at None None = Err NotFound
file_at None (Some (Dir attributes)) = Err IsDir
file_at None (Some (File contents attributes)) = Ok contents
