-- What a word of digits is.
use Rattle.std.proofs.Common.{◌≡◌, ℕ, ◌^◌, ◌<◌, ◌&&◌, Bool, true, false, List, length, refl, sym, arith, rules}
use Rattle.std.specs.Prelude.{Result, Err, nat_le, nat_lt, ◌||◌, not, ◌==◌, slice_index}
use Rattle.std.specs.List.{list_all}
use Rattle.std.specs.Char.{is_ascii_digit}
use Rattle.std.specs.Str.{IsUtf8}
use Rattle.std.specs.Str.Parse.{digits_value, ParsesUnsigned}
use Rattle.std.proofs.lemmas.Bool.{leb-true, ltb-true, and_parts, cond-false}
use Rattle.std.proofs.lemmas.Result.{OkIff-at_err}
use Rattle.std.proofs.lemmas.Fmt.{IsAscii-from_digits}
use Rattle.std.proofs.lemmas.Str.{IsUtf8-from_ascii}
use Rattle.std.proofs.lemmas.Str.Parse.{IsNumeralModel, IsDigitsTest, numerals_by_value, parse_digits}
use Rattle.fx_script.specs.declared.fault.LineFault.TheVariants.{BadNumber}
use Rattle.fx_script.specs.Word.{is_decimal, number_in, max_number}

abbrev pub are_digits : List ℕ → Bool
are_digits ds = list_all is_ascii_digit ds

digits_test : IsDigitsTest (λ ds. are_digits ds ≡ true)
digits_test = search rules

pub own : IsNumeralModel (λ ds. are_digits ds ≡ true) (digits_value 10)
own = numerals_by_value _ digits_test

pub IsUtf8-digits : (ds : List ℕ) → are_digits ds ≡ true → IsUtf8 ds
IsUtf8-digits ds h = IsUtf8-from_ascii ds (IsAscii-from_digits ds (own.to ds h))

-- what `is_decimal` tells
pub record IsDecimal (word : List ℕ) : Type 0 where
  pub some : 0 < length word
  pub digits : are_digits word ≡ true
  pub lead : (length word == 1 || not (slice_index word 0 == 48)) ≡ true

pub IsDecimal-from_test : (word : List ℕ) → is_decimal word ≡ true → IsDecimal word
IsDecimal-from_test word h =
    let parts = and_parts (nat_lt 0 (length word) && are_digits word) _ h in
    let first = and_parts (nat_lt 0 (length word)) (are_digits word) parts.0 in
    record { some = ltb-true 0 (length word) first.0; digits = first.1; lead = parts.1 }

-- digits of a number that is too large
pub too_large : {E : Type 0} (word : List ℕ) (read : Result ℕ E) (error : E) → is_decimal word ≡ true → ParsesUnsigned 32 10 word read → read ≡ Err error → Err BadNumber ≡ number_in word
too_large word read error h parsed is =
    let d = IsDecimal-from_test word h in
    let none = OkIff-at_err read ((0 < length word) × (digits_value 10 word < 2 ^ 32)) (digits_value 10 word) error (parse_digits own 32 word read parsed d.digits) is in
    let large : nat_le (digits_value 10 word) max_number ≡ false = by_test (nat_le (digits_value 10 word) max_number) (λ e. none (d.some, omega (arith, leb-true (digits_value 10 word) max_number e))) in
    sym (cond-false _ _ _ (and_false (is_decimal word) _ large))
  where
    by_test : (t : Bool) → (t ≡ true → ⊥) → t ≡ false
    by_test true no_way = absurd (no_way refl)
    by_test false no_way = refl

    and_false : (a b : Bool) → b ≡ false → (a && b) ≡ false
    and_false true b e = e
    and_false false b e = refl
