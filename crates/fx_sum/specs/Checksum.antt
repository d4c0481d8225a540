-- Fletcher's checksum of a list of bytes: a fold over its words of four bytes, the lowest byte first,
-- modulo 2^32.
use Rattle.std.specs.Prelude.{ℕ, ◌+◌, ◌*◌, ◌/◌, ◌%◌, ◌^◌, List, [], ◌∷◌, fold}
use Rattle.std.specs.Int.{w32, from_le_bytes}

-- the whole words of the bytes
abbrev pub words : List ℕ → List ℕ
words (a ∷ b ∷ c ∷ d ∷ rest) = from_le_bytes w32 (a ∷ b ∷ c ∷ d ∷ []) ∷ words rest
words _ = []

-- two running sums modulo 2^32: of the words, and of the sums so far
pub record Sums : Type 0 where
  pub low : ℕ
  pub high : ℕ

abbrev pub add_word : Sums → ℕ → Sums
add_word s w =
    let low = (s.low + w) % 2 ^ 32 in
    record { low = low; high = (s.high + low) % 2 ^ 32 }

-- a checksum as the two sums that it is made of, and back
abbrev pub sums_of : ℕ → Sums
sums_of n = record { low = n % 2 ^ 32; high = n / 2 ^ 32 }

abbrev pub checksum_of : Sums → ℕ
checksum_of s = s.high * 2 ^ 32 + s.low

-- the checksum of the bytes, begun at the checksum of what stands before them
abbrev pub fletch : ℕ → List ℕ → ℕ
fletch start bytes = checksum_of (fold add_word (sums_of start) (words bytes))
