-- The words of bytes that are read four at a time.
use Rattle.std.proofs.Common.{◌≡◌, ℕ, ◌+◌, ◌*◌, ◌^◌, ◌<◌, ◌≤◌, ◌%◌, List, [], ◌∷◌, length, take, drop, refl, arith, ◌∙◌, sym, ap, bit_or, bit_and}
use Rattle.std.specs.Prelude.{fold}
use Rattle.std.specs.Int.{w32, from_le_bytes}
use Rattle.std.proofs.lemmas.Nat.{or_shifted, and_mask}
use Rattle.std.proofs.Math.Nat.{mod-eq_of_lt}
use Rattle.fx_sum.specs.Checksum.{Sums, add_word, words}

pub words-step : (xs : List ℕ) → 4 ≤ length xs → words xs ≡ from_le_bytes w32 (take 4 xs) ∷ words (drop 4 xs)
words-step [] le = absurd (omega arith)
words-step (a ∷ []) le = absurd (omega arith)
words-step (a ∷ b ∷ []) le = absurd (omega arith)
words-step (a ∷ b ∷ c ∷ []) le = absurd (omega arith)
words-step (a ∷ b ∷ c ∷ d ∷ rest) le = refl

pub words-short : (xs : List ℕ) → length xs < 4 → words xs ≡ []
words-short [] lt = refl
words-short (a ∷ []) lt = refl
words-short (a ∷ b ∷ []) lt = refl
words-short (a ∷ b ∷ c ∷ []) lt = refl
words-short (a ∷ b ∷ c ∷ d ∷ rest) lt = absurd (omega arith)

-- two halves put together
pub joined : (high low : ℕ) → high < 2 ^ 32 → low < 2 ^ 32 → bit_or (high * 2 ^ 32 % 2 ^ 64) low ≡ high * 2 ^ 32 + low
joined high low h l =
    let small : high * 2 ^ 32 % 2 ^ 64 ≡ high * 2 ^ 32 = mod-eq_of_lt (omega arith) in
    rw small (or_shifted high 32 low l)

-- one word more
pub goes_on : (s : Sums) (word rest after : List ℕ) (n : ℕ) (total : Sums) → n ≡ from_le_bytes w32 word → word ≡ take 4 rest → after ≡ drop 4 rest → 4 ≤ length rest
    → fold add_word s (words rest) ≡ total → fold add_word (add_word s n) (words after) ≡ total
goes_on s word rest after n total e1 e2 e3 le so_far =
    rw (e1, e2, e3) (sym (ap (fold add_word s) (words-step rest le)) ∙ so_far)

-- less than a word is left
pub is_done : (s : Sums) (rest : List ℕ) (total : Sums) → length rest < 4 → fold add_word s (words rest) ≡ total → s ≡ total
is_done s rest total lt so_far = sym (ap (fold add_word s) (words-short rest lt)) ∙ so_far

pub low_half : (n : ℕ) → bit_and n 4294967295 ≡ n % 2 ^ 32
low_half n = and_mask n 32
