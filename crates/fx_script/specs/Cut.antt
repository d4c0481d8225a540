-- Texts cut into pieces.
use Rattle.std.specs.Prelude.{ℕ, ◌==◌, if◌then◌else◌, Bool, true, false, List, [], ◌∷◌, Option, None, Some}
use Rattle.std.specs.Borrow.{Bor}

-- the pieces, with a byte in front of the first
abbrev pub onto_first : ℕ → List (List ℕ) → List (List ℕ)
onto_first b [] = (b ∷ []) ∷ []
onto_first b (piece ∷ pieces) = (b ∷ piece) ∷ pieces

-- the pieces between the bytes that are the separator: one more than there are such bytes
abbrev pub cut : ℕ → List ℕ → List (List ℕ)
cut separator [] = [] ∷ []
cut separator (b ∷ bs) =
    if b == separator then [] ∷ cut separator bs else onto_first b (cut separator bs)

-- the pieces of what is left, if anything is
abbrev pub cut_rest : ℕ → Option (Bor (List ℕ)) → List (List ℕ)
cut_rest separator None = []
cut_rest separator (Some text) = cut separator text.now

-- whether there is no piece, or nothing but an empty one
abbrev pub is_blank : List (List ℕ) → Bool
is_blank [] = true
is_blank ([] ∷ []) = true
is_blank (piece ∷ pieces) = false

-- the pieces but a last one that is empty
abbrev pub without_last_empty : List (List ℕ) → List (List ℕ)
without_last_empty [] = []
without_last_empty (piece ∷ []) = if is_blank (piece ∷ []) then [] else piece ∷ []
without_last_empty (piece ∷ next ∷ pieces) = piece ∷ without_last_empty (next ∷ pieces)

-- the words of a line, parted by one space each
abbrev pub words_of : List ℕ → List (List ℕ)
words_of line = cut 32 line

-- the lines of a script, cut at each line feed
abbrev pub lines_of : List ℕ → List (List ℕ)
lines_of script = without_last_empty (cut 10 script)
