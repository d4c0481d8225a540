-- Where the part of a group ends, in the bytes of its line.
use Rattle.std.specs.Prelude.{◌≡◌, ℕ, ◌+◌, ◌-◌, ◌<◌, ◌==◌, List, [], ◌∷◌, Option, None, Some, if◌then◌else◌, length, nat_le, take, drop}
use Rattle.fx_script.specs.Cut.{cut}
use Rattle.fx_words.specs.Lines.{cut_parts}

-- the words before the one that begins at this byte
abbrev pub words_before : ℕ → List ℕ → List (List ℕ)
words_before at text = if at == 0 then [] else cut 32 (take (at - 1) text)

-- the words from the one that begins at this byte on, if there is one
abbrev pub words_from : ℕ → List ℕ → List (List ℕ)
words_from at text = if nat_le at (length text) then cut 32 (drop at text) else []

-- the first word `;` begins at this byte, or there is none
abbrev pub EndsPart : List ℕ → Option ℕ → Type 0
EndsPart text None = cut_parts (cut 32 text) ≡ cut 32 text ∷ []
EndsPart text (Some at) =
    (at < length text)
    × (cut_parts (cut 32 text) ≡ words_before at text ∷ cut_parts (words_from (at + 2) text))
