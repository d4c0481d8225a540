-- Numbers that stand in bytes, the lowest byte first: what is read is what was written, byte for byte.
use Rattle.std.proofs.Common.{◌≡◌, ℕ, suc, ◌+◌, ◌<◌, ◌≤◌, ◌^◌, List, ◌∷◌, ◌++◌, length, get_or, take, drop, sym, ap, ◌∙◌, arith, inl, inr, length-take}
use Rattle.std.specs.Int.{w16, w32, w64, from_le_bytes}
use Rattle.std.proofs.lemmas.Bool.{cases_lt}
use Rattle.std.proofs.lemmas.List.{get_or-drop, get_or-take, get_or_past}
use Rattle.std.proofs.lemmas.Nat.{le_bytes_2, le_bytes_4, le_bytes_8}
use Rattle.byteorder.specs.Endian.{little_bytes, little_number}
use Rattle.byteorder.specs.Numbers.{little_from-take, little_from-lt, little_number-reads_back}

-- Each number of the list is a byte.
abbrev pub IsBytes : List ℕ → Type 0
IsBytes bytes = (i : ℕ) → get_or bytes i 0 < 256

pub IsBytes-drop : (n : ℕ) (bytes : List ℕ) → IsBytes bytes → IsBytes (drop n bytes)
IsBytes-drop n bytes h i = rw get_or-drop (h (n + i))

pub IsBytes-take : (n : ℕ) (bytes : List ℕ) → IsBytes bytes → IsBytes (take n bytes)
IsBytes-take n bytes h i =
    elim (cases_lt i n) [
      | inl lt ↦ rw (get_or-take n bytes i 0 lt) (h i)
      | inr le ↦ rw (get_or_past (take n bytes) i 0 (omega (arith, length-take n bytes))) (omega arith)
    ]

pub IsBytes-rest : (b : ℕ) (bytes : List ℕ) → IsBytes (b ∷ bytes) → IsBytes bytes
IsBytes-rest b bytes h i = h (suc i)

-- ---- a number that is read stands there

number_is_2 : (xs : List ℕ) → little_number 2 xs ≡ from_le_bytes w16 xs
number_is_2 xs = omega arith

number_is_4 : (xs : List ℕ) → little_number 4 xs ≡ from_le_bytes w32 xs
number_is_4 xs = omega arith

number_is_8 : (xs : List ℕ) → little_number 8 xs ≡ from_le_bytes w64 xs
number_is_8 xs = omega arith

-- A number of n bytes that is read stands in the first n bytes.
pub record IsWide (n : ℕ) : Type 0 where
  pub stands : (xs : List ℕ) → n ≤ length xs → IsBytes xs → little_bytes n (little_number n xs) ≡ take n xs

pub wide2 : IsWide 2
wide2 = record {
  stands = λ xs le fits. le_bytes_2 (take 2 xs) (little_number 2 xs) (omega (arith, length-take 2 xs)) (IsBytes-take 2 xs fits) (sym (little_from-take 0 2 2 xs (omega arith)) ∙ number_is_2 (take 2 xs));
}

pub wide4 : IsWide 4
wide4 = record {
  stands = λ xs le fits. le_bytes_4 (take 4 xs) (little_number 4 xs) (omega (arith, length-take 4 xs)) (IsBytes-take 4 xs fits) (sym (little_from-take 0 4 4 xs (omega arith)) ∙ number_is_4 (take 4 xs));
}

pub wide8 : IsWide 8
wide8 = record {
  stands = λ xs le fits. le_bytes_8 (take 8 xs) (little_number 8 xs) (omega (arith, length-take 8 xs)) (IsBytes-take 8 xs fits) (sym (little_from-take 0 8 8 xs (omega arith)) ∙ number_is_8 (take 8 xs));
}

pub number_fits_4 : (xs : List ℕ) → IsBytes xs → little_number 4 xs < 2 ^ 32
number_fits_4 xs fits = little_from-lt 0 4 xs fits

-- ---- a number at the front of bytes

pub reads_4 : (bytes rest : List ℕ) (x : ℕ) → x < 2 ^ 32 → bytes ≡ little_bytes 4 x ++ rest → little_number 4 bytes ≡ x
reads_4 bytes rest x h e = ap (little_number 4) e ∙ little_number-reads_back 4 x rest h

pub reads_8 : (bytes rest : List ℕ) (x : ℕ) → x < 2 ^ 64 → bytes ≡ little_bytes 8 x ++ rest → little_number 8 bytes ≡ x
reads_8 bytes rest x h e = ap (little_number 8) e ∙ little_number-reads_back 8 x rest h

-- two numbers at the front of the same bytes are one, and what follows them is the same
pub same_4 : (bytes r s : List ℕ) (x y : ℕ) → x < 2 ^ 32 → y < 2 ^ 32 → bytes ≡ little_bytes 4 x ++ r → bytes ≡ little_bytes 4 y ++ s → (x ≡ y) × (r ≡ s)
same_4 bytes r s x y hx hy p q =
    let rests : drop 4 (little_bytes 4 x ++ r) ≡ drop 4 (little_bytes 4 y ++ s) = ap (drop 4) (sym p ∙ q) in
    (sym (reads_4 bytes r x hx p) ∙ reads_4 bytes s y hy q, rests)

pub same_8 : (bytes r s : List ℕ) (x y : ℕ) → x < 2 ^ 64 → y < 2 ^ 64 → bytes ≡ little_bytes 8 x ++ r → bytes ≡ little_bytes 8 y ++ s → (x ≡ y) × (r ≡ s)
same_8 bytes r s x y hx hy p q =
    let rests : drop 8 (little_bytes 8 x ++ r) ≡ drop 8 (little_bytes 8 y ++ s) = ap (drop 8) (sym p ∙ q) in
    (sym (reads_8 bytes r x hx p) ∙ reads_8 bytes s y hy q, rests)
