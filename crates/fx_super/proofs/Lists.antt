-- Lists of layers: in their 32 places, and as bytes.
use Rattle.std.proofs.Common.{◌≡◌, ℕ, zero, suc, ◌+◌, ◌-◌, ◌*◌, ◌^◌, ◌<◌, ◌≤◌, List, [], ◌∷◌, ◌++◌, length, get_or, take, drop, replicate, refl, sym, ap, ◌∙◌, inl, inr, arith, length-append, length-take, length-drop, take-append-drop}
use Rattle.std.specs.List.{flat_map}
use Rattle.std.proofs.Math.Seq.{drop-append_seam, take-append_seam}
use Rattle.std.proofs.Math.ListN.{set, length-set}
use Rattle.std.proofs.lemmas.List.{drop-replicate, drop-set-lt, drop-drop, length-replicate, nil_from_length, get_or-take, get_or_past, take_at, drop_at}
use Rattle.std.proofs.lemmas.Bool.{cases_lt}
use Rattle.byteorder.specs.Endian.{little_bytes, little_number, IsRead}
use Rattle.fx_super.specs.Layers.{padded_layers, layer_bytes, IsPadded, HoldsLayers}
use Rattle.fx_base.proofs.Bytes.{IsBytes, IsBytes-drop, wide4, number_fits_4, same_4}

-- a list copied to the front of 32 zeros
pub copied_is_padded : (xs : List ℕ) → length xs ≤ 32 → IsPadded (xs ++ drop (length xs) (replicate 32 0)) (length xs)
copied_is_padded xs le =
    let rest : drop (length xs) (replicate 32 0) ≡ replicate (32 - length xs) 0 = drop-replicate (length xs) 32 0 in
    let rest_len : length (drop (length xs) (replicate 32 0)) ≡ 32 - length xs = ap length rest ∙ length-replicate {A = ℕ} (32 - length xs) 0 in
    record {
      count_fits = le;
      places = omega (arith, length-append xs (drop (length xs) (replicate 32 0)), rest_len);
      unused = drop-append_seam xs (drop (length xs) (replicate 32 0)) ∙ rest;
    }

-- one more place is used
pub pushed_is_padded : (firsts : List ℕ) (count block : ℕ) → count < 32 → IsPadded firsts count → IsPadded (set firsts count block) (count + 1)
pushed_is_padded firsts count block lt h =
    record {
      count_fits = omega arith;
      places = length-set firsts count block ∙ h.places;
      unused = drop-set-lt (count + 1) firsts count block (omega arith) ∙ sym (drop-drop 1 count firsts) ∙ ap (drop 1) h.unused ∙ drop-replicate 1 (32 - count) 0 ∙ ap (λ (k : ℕ). replicate k 0) (omega arith);
    }

-- each number fits four bytes
abbrev pub EachFits : List ℕ → Type 0
EachFits xs = (i : ℕ) → get_or xs i 0 < 2 ^ 32

fits_tail : (x : ℕ) (xs : List ℕ) → EachFits (x ∷ xs) → EachFits xs
fits_tail x xs h i = h (suc i)

fits_zeros : (n : ℕ) → EachFits (replicate n 0)
fits_zeros zero i = omega arith
fits_zeros (suc n) zero = omega arith
fits_zeros (suc n) (suc i) = fits_zeros n i

fits_append : (xs ys : List ℕ) → EachFits xs → EachFits ys → EachFits (xs ++ ys)
fits_append [] ys h k i = k i
fits_append (x ∷ xs) ys h k zero = h 0
fits_append (x ∷ xs) ys h k (suc i) = fits_append xs ys (fits_tail x xs h) k i

pub fits_padded : (list : List ℕ) → EachFits list → EachFits (padded_layers list)
fits_padded list h = fits_append list (replicate (32 - length list) 0) h (fits_zeros (32 - length list))

pub fits_take : (n : ℕ) (xs : List ℕ) → EachFits xs → EachFits (take n xs)
fits_take n xs h i =
    elim (cases_lt i n) [
      | inl lt ↦ rw (get_or-take n xs i 0 lt) (h i)
      | inr le ↦ rw (get_or_past (take n xs) i 0 (omega (arith, length-take n xs))) (omega arith)
    ]

pub length-padded : (list : List ℕ) → length list ≤ 32 → length (padded_layers list) ≡ 32
length-padded list le = omega (arith, length-append list (replicate (32 - length list) 0), length-replicate {A = ℕ} (32 - length list) 0)

pub length-numbers : (xs : List ℕ) → length (flat_map (little_bytes 4) xs) ≡ 4 * length xs
length-numbers [] = refl
length-numbers (x ∷ xs) = let ih = length-numbers xs in omega (arith, ih)

pub length-layer_bytes : (list : List ℕ) → length list ≤ 32 → length (layer_bytes list) ≡ 128
length-layer_bytes list le = omega (arith, length-numbers (padded_layers list), length-padded list le)

-- numbers that are spelled by the same bytes are the same
pub same_numbers : (xs ys : List ℕ) → length xs ≡ length ys → EachFits xs → EachFits ys → flat_map (little_bytes 4) xs ≡ flat_map (little_bytes 4) ys → xs ≡ ys
same_numbers [] [] e h k s = refl
same_numbers [] (y ∷ ys) e h k s = absurd (omega arith)
same_numbers (x ∷ xs) [] e h k s = absurd (omega arith)
same_numbers (x ∷ xs) (y ∷ ys) e h k s =
    let both = same_4 (flat_map (little_bytes 4) (x ∷ xs)) (flat_map (little_bytes 4) xs) (flat_map (little_bytes 4) ys) x y (h 0) (k 0) refl s in
    ap (λ (n : ℕ). n ∷ xs) both.0 ∙ ap (λ (ns : List ℕ). y ∷ ns) (same_numbers xs ys (omega arith) (fits_tail x xs h) (fits_tail y ys k) both.1)

-- the numbers that were read spell the bytes
pub read_spells : (src dst : List ℕ) → length src ≡ 4 * length dst → IsBytes src → IsRead little_number 4 src dst → flat_map (little_bytes 4) dst ≡ src
read_spells src [] len fits h = sym (nil_from_length src (omega arith))
read_spells src (x ∷ xs) len fits h =
    let x_is : x ≡ little_number 4 src = h 0 (omega arith) in
    let front : little_bytes 4 x ≡ take 4 src = ap (little_bytes 4) x_is ∙ wide4.stands src (omega arith) fits in
    let after : IsRead little_number 4 (drop 4 src) xs = λ k lt. h (suc k) (omega arith) ∙ ap (little_number 4) (ap (λ (n : ℕ). drop n src) (omega arith) ∙ sym (drop-drop (4 * k) 4 src)) in
    let rest : flat_map (little_bytes 4) xs ≡ drop 4 src = read_spells (drop 4 src) xs (omega (arith, length-drop 4 src)) (IsBytes-drop 4 src fits) after in
    ap (λ (a : List ℕ). a ++ flat_map (little_bytes 4) xs) front ∙ ap (λ (b : List ℕ). take 4 src ++ b) rest ∙ take-append-drop 4 src

-- and each of them fits four bytes
pub read_fits : (src dst : List ℕ) → IsBytes src → IsRead little_number 4 src dst → EachFits dst
read_fits src dst fits h i =
    elim (cases_lt i (length dst)) [
      | inl lt ↦ rw (h i lt) (number_fits_4 (drop (4 * i) src) (IsBytes-drop (4 * i) src fits))
      | inr le ↦ rw (get_or_past dst i 0 le) (omega arith)
    ]

-- the list that was read
pub read_is_listed : (bytes dst : List ℕ) (count : ℕ) → count ≤ 32 → length dst ≡ 32 → EachFits dst → flat_map (little_bytes 4) dst ≡ bytes → drop count dst ≡ replicate (32 - count) 0 → HoldsLayers bytes count (take count dst)
read_is_listed bytes dst count le len fits spells unused =
    let count_is : length (take count dst) ≡ count = omega (arith, length-take count dst) in
    let whole : padded_layers (take count dst) ≡ dst =
    ap (λ (n : ℕ). take count dst ++ replicate (32 - n) 0) count_is ∙ ap (λ (rest : List ℕ). take count dst ++ rest) (sym unused) ∙ take-append-drop count dst in
    record {
      count_is = count_is;
      count_fits = le;
      each_fits = fits_take count dst fits;
      bytes_are = sym spells ∙ ap (flat_map (little_bytes 4)) (sym whole);
    }

-- where a list stands, the places that it does not use are zero
pub listed_unused : (bytes dst : List ℕ) (count : ℕ) (list : List ℕ) → length dst ≡ 32 → EachFits dst → flat_map (little_bytes 4) dst ≡ bytes → HoldsLayers bytes count list → drop count dst ≡ replicate (32 - count) 0
listed_unused bytes dst count list len fits spells h =
    let whole : dst ≡ padded_layers list = same_numbers dst (padded_layers list) (omega (arith, length-padded list (omega (arith, h.count_is, h.count_fits)))) fits (fits_padded list h.each_fits) (spells ∙ h.bytes_are) in
    ap (drop count) whole ∙ drop_at list (replicate (32 - length list) 0) count h.count_is ∙ ap (λ (n : ℕ). replicate (32 - n) 0) h.count_is

-- one list stands in the bytes
pub same_list : (bytes : List ℕ) (m n : ℕ) (xs ys : List ℕ) → m ≡ n → HoldsLayers bytes m xs → HoldsLayers bytes n ys → xs ≡ ys
same_list bytes m n xs ys e h k =
    let len : length xs ≡ length ys = omega (arith, h.count_is, k.count_is) in
    let xs_most : length xs ≤ 32 = omega (arith, h.count_is, h.count_fits) in
    let ys_most : length ys ≤ 32 = omega (arith, k.count_is, k.count_fits) in
    let whole : padded_layers xs ≡ padded_layers ys = same_numbers (padded_layers xs) (padded_layers ys) (omega (arith, length-padded xs xs_most, length-padded ys ys_most)) (fits_padded xs h.each_fits) (fits_padded ys k.each_fits) (sym h.bytes_are ∙ k.bytes_are) in
    sym (take-append_seam xs (replicate (32 - length xs) 0)) ∙ ap (take (length xs)) whole ∙ take_at ys (replicate (32 - length ys) 0) (length xs) (sym len)
