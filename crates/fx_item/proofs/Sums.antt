-- Sums one after another: how many bytes they are, and that they are read as they were written.
use Rattle.std.proofs.Common.{◌≡◌, ℕ, zero, suc, ◌*◌, ◌^◌, ◌<◌, List, [], ◌∷◌, ◌++◌, length, take, drop, refl, sym, ap, ◌∙◌, arith, length-append, length-drop}
use Rattle.std.specs.Prelude.{All}
use Rattle.std.proofs.lemmas.List.{drop_at, take-append-drop, drop-drop}
use Rattle.std.proofs.lemmas.List.Elements.{All-cons, All-nil, All-tail, All-head}
use Rattle.byteorder.specs.Endian.{little_bytes, little_number, IsRead}
use Rattle.byteorder.specs.Numbers.{little_from-lt, little_number-reads_back, length-bytes_low_first}
use Rattle.fx_item.specs.Item.{sums_bytes}
use Rattle.fx_item.specs.Reading.{numbers_in}
use Rattle.fx_base.proofs.Bytes.{IsBytes, IsBytes-drop, wide8}

pub sums_len : (sums : List ℕ) → length (sums_bytes sums) ≡ 8 * length sums
sums_len [] = refl
sums_len (s ∷ sums) =
    let rest = sums_len sums in
    omega (arith, rest, length-append (little_bytes 8 s) (sums_bytes sums), length-bytes_low_first 0 8 s)

-- ---- what was read is what stands there

pub numbers_len : (n : ℕ) (bytes : List ℕ) → length (numbers_in n bytes) ≡ n
numbers_len zero bytes = refl
numbers_len (suc n) bytes = let rest = numbers_len n (drop 8 bytes) in omega (arith, rest)

pub numbers_wide : (n : ℕ) (bytes : List ℕ) → IsBytes bytes → All (λ sum. sum < 2 ^ 64) (numbers_in n bytes)
numbers_wide zero bytes fits = All-nil (λ sum. sum < 2 ^ 64)
numbers_wide (suc n) bytes fits =
    All-cons (λ sum. sum < 2 ^ 64) (little_number 8 bytes) (numbers_in n (drop 8 bytes)) (little_from-lt 0 8 bytes fits) (numbers_wide n (drop 8 bytes) (IsBytes-drop 8 bytes fits))

pub numbers_stand : (n : ℕ) (bytes : List ℕ) → length bytes ≡ 8 * n → IsBytes bytes → sums_bytes (numbers_in n bytes) ≡ bytes
numbers_stand zero [] len fits = refl
numbers_stand zero (b ∷ bytes) len fits = absurd (omega (arith, len))
numbers_stand (suc n) bytes len fits =
    let first = wide8.stands bytes (omega (arith, len)) fits in
    let rest = numbers_stand n (drop 8 bytes) (omega (arith, len, length-drop 8 bytes)) (IsBytes-drop 8 bytes fits) in
    ap (λ (w : List ℕ). w ++ sums_bytes (numbers_in n (drop 8 bytes))) first
    ∙ ap (λ (w : List ℕ). take 8 bytes ++ w) rest ∙ take-append-drop 8 bytes

-- ---- what was written is read again

pub numbers_again : (sums : List ℕ) → All (λ sum. sum < 2 ^ 64) sums → numbers_in (length sums) (sums_bytes sums) ≡ sums
numbers_again [] wide = refl
numbers_again (s ∷ sums) wide =
    let read : little_number 8 (little_bytes 8 s ++ sums_bytes sums) ≡ s = little_number-reads_back 8 s (sums_bytes sums) (All-head (λ sum. sum < 2 ^ 64) s sums wide) in
    let left : drop 8 (little_bytes 8 s ++ sums_bytes sums) ≡ sums_bytes sums = drop_at (little_bytes 8 s) (sums_bytes sums) 8 (length-bytes_low_first 0 8 s) in
    let rest = numbers_again sums (All-tail (λ sum. sum < 2 ^ 64) s sums wide) in
    ap (λ (x : ℕ). x ∷ numbers_in (length sums) (drop 8 (little_bytes 8 s ++ sums_bytes sums))) read
    ∙ ap (λ (w : List ℕ). s ∷ numbers_in (length sums) w) left ∙ ap (λ (w : List ℕ). s ∷ w) rest

-- what `read_u64_into` leaves
pub numbers_read : (sums bytes : List ℕ) → IsRead little_number 8 bytes sums → sums ≡ numbers_in (length sums) bytes
numbers_read [] bytes read = refl
numbers_read (s ∷ sums) bytes read =
    let tail : IsRead little_number 8 (drop 8 bytes) sums = λ k less. read (suc k) (omega (arith, less)) ∙ ap (little_number 8) (shifted k) in
    let first : s ≡ little_number 8 bytes = read 0 (omega arith) in
    ap (λ (x : ℕ). x ∷ sums) first ∙ ap (λ (w : List ℕ). little_number 8 bytes ∷ w) (numbers_read sums (drop 8 bytes) tail)
  where
    shifted : (k : ℕ) → drop (8 * suc k) bytes ≡ drop (8 * k) (drop 8 bytes)
    shifted k = ap (λ (m : ℕ). drop m bytes) (omega arith) ∙ sym (drop-drop (8 * k) 8 bytes)
