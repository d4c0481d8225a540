-- Bytes and held blocks of a file.
use Rattle.std.proofs.Common.{◌≡◌, ◌⊎◌, inl, inr, ℕ, zero, suc, ◌+◌, ◌-◌, ◌*◌, ◌/◌, ◌<◌, ◌≤◌, Bool, true, false, ◌||◌, ◌&&◌, List, [], ◌∷◌, ◌++◌, length, take, drop, replicate, get_or, cond, refl, sym, ap, ◌∙◌, arith, max, nat_eq, length-append, length-take}
use Rattle.std.specs.Prelude.{Option, is_some, nat_lt, filter}
use Rattle.std.specs.Cmp.{nat_cmp_total}
use Rattle.std.specs.List.{list_any, range_with_len}
use Rattle.std.specs.FinSet as set
use Rattle.std.specs.FinMap.{nat_cmp-IsAntisymmetric}
use Rattle.std.proofs.lemmas.Bool.{cases_lt, eqb-true, ltb-true, ltb-false, lt-ltb, le-ltb, and_parts, and_cases, and_from, and_left, and_right}
use Rattle.std.proofs.lemmas.Map.Views.{any-filter_same}
use Rattle.std.proofs.lemmas.List.{ext_get_or, get_or_append_left, get_or-append_right, get_or-drop, get_or-take, get_or_past, length-replicate, length-drop}
use Rattle.std.proofs.lemmas.List.FromFn.{length-map-range_with_len, get_or-map-range_with_len}
use Rattle.fx_plain.specs.Node.{Contents, grown, overwritten, written, covered}
use Rattle.fx_base.specs.declared.block.TheConstants.{BLOCK_BYTES}
use Rattle.fx_contents.specs.Files.{byte_at, blocks_for, file_of}
use Rattle.fx_contents.specs.Writes.{written_byte, is_covered}

-- ---- numbers in a range

apart : (n q : ℕ) → q < n → nat_eq n q ≡ false
apart n q h = grind arith

below : (n q : ℕ) → n < q → nat_eq n q ≡ false
below n q h = grind arith

equal : (n q : ℕ) → n ≡ q → nat_eq n q ≡ true
equal n q h = grind arith

range_above : (a n q : ℕ) → q < a → list_any (λ y. nat_eq y q) (range_with_len a n) ≡ false
range_above a zero q h = refl
range_above a (suc n) q h = ap (λ b. b || list_any (λ y. nat_eq y q) (range_with_len (a + 1) n)) (apart a q h) ∙ range_above (a + 1) n q (omega arith)

range_past : (a n q : ℕ) → a + n ≤ q → list_any (λ y. nat_eq y q) (range_with_len a n) ≡ false
range_past a zero q h = refl
range_past a (suc n) q h = ap (λ b. b || list_any (λ y. nat_eq y q) (range_with_len (a + 1) n)) (below a q (omega arith)) ∙ range_past (a + 1) n q (omega arith)

range_within : (a n i q : ℕ) → a + i ≡ q → i < n → list_any (λ y. nat_eq y q) (range_with_len a n) ≡ true
range_within a zero i q e h = absurd (omega arith)
range_within a (suc n) zero q e h = ap (λ b. b || list_any (λ y. nat_eq y q) (range_with_len (a + 1) n)) (equal a q (omega arith))
range_within a (suc n) (suc i) q e h = by (nat_eq a q) (range_within (a + 1) n i q (omega arith) (omega arith))
  where
    by : (b : Bool) → list_any (λ y. nat_eq y q) (range_with_len (a + 1) n) ≡ true → (b || list_any (λ y. nat_eq y q) (range_with_len (a + 1) n)) ≡ true
    by true h = refl
    by false h = h

-- a number is in what passes a test where it is in the list and passes
kept_by : (q : ℕ) (xs : List ℕ) (p : ℕ → Bool) → list_any (λ y. nat_eq y q) (filter p xs) ≡ (p q && list_any (λ y. nat_eq y q) xs)
kept_by q xs p = any-filter_same (λ y. nat_eq y q) p (p q) (λ k e. ap p (eqb-true k q e)) xs

and_true : (b : Bool) → (b && true) ≡ b
and_true true = refl
and_true false = refl

and_false : (b : Bool) → (b && false) ≡ false
and_false true = refl
and_false false = refl

-- ---- the two parts of a file

module _ (f : ℕ → List ℕ) (len : ℕ) (held : ℕ → Option ℕ) where
  pub length-bytes : length (file_of f len held).bytes ≡ len
  unfolding file_of
  length-bytes = length-map-range_with_len (byte_at f held) 0 len

  pub get_or-bytes : (i : ℕ) → i < len → get_or (file_of f len held).bytes i 0 ≡ byte_at f held i
  unfolding file_of
  get_or-bytes i h = get_or-map-range_with_len (byte_at f held) 0 len i i 0 h (omega arith)

  pub past-bytes : (i : ℕ) → len ≤ i → get_or (file_of f len held).bytes i 0 ≡ 0
  past-bytes i h = get_or_past (file_of f len held).bytes i 0 (omega (arith, length-bytes))

  held-is : (n : ℕ) → set.contains (file_of f len held).held n ≡ (is_some (held n) && list_any (λ y. nat_eq y n) (range_with_len 0 (blocks_for len)))
  unfolding file_of
  held-is n = set.contains-from_list_nat (filter (λ n. is_some (held n)) (range_with_len 0 (blocks_for len))) n ∙ kept_by n (range_with_len 0 (blocks_for len)) (λ n. is_some (held n))

  pub contains-held : (n : ℕ) → n * BLOCK_BYTES < len → set.contains (file_of f len held).held n ≡ is_some (held n)
  contains-held n h = held-is n ∙ ap (λ b. is_some (held n) && b) (range_within 0 (blocks_for len) n n (omega arith) (omega arith)) ∙ and_true (is_some (held n))

  pub past-held : (n : ℕ) → len ≤ n * BLOCK_BYTES → set.contains (file_of f len held).held n ≡ false
  past-held n h = held-is n ∙ ap (λ b. is_some (held n) && b) (range_past 0 (blocks_for len) n (omega arith)) ∙ and_false (is_some (held n))

pub same_contents : (c d : Contents) → length c.bytes ≡ length d.bytes → ((i : ℕ) → i < length c.bytes → get_or c.bytes i 0 ≡ get_or d.bytes i 0) → ((n : ℕ) → set.contains c.held n ≡ set.contains d.held n) → c ≡ d
same_contents c d l b h =
    let bytes = ext_get_or 0 c.bytes d.bytes l b in
    let held = set.same_set nat_cmp_total nat_cmp-IsAntisymmetric c.held d.held h in
    λ i. record { bytes = bytes i; held = held i }

-- ---- a text in the place of bytes

padded : (bytes : List ℕ) (m i : ℕ) → get_or (bytes ++ replicate m 0) i 0 ≡ get_or bytes i 0
padded [] zero i = refl
padded [] (suc m) zero = refl
padded [] (suc m) (suc i) = padded [] m i
padded (b ∷ bytes) m zero = refl
padded (b ∷ bytes) m (suc i) = padded bytes m i

pub get_or-grown : (n : ℕ) (bytes : List ℕ) (i : ℕ) → get_or (grown n bytes) i 0 ≡ get_or bytes i 0
get_or-grown n bytes i = padded bytes (n - length bytes) i

pub length-grown : (n : ℕ) (bytes : List ℕ) → length bytes ≤ length (grown n bytes)
length-grown n bytes = omega (arith, length-append bytes (replicate (n - length bytes) 0))

pub length-grown-to : (n : ℕ) (bytes : List ℕ) → n ≤ length (grown n bytes)
length-grown-to n bytes = omega (arith, length-append bytes (replicate (n - length bytes) 0), length-replicate {A = ℕ} (n - length bytes) 0)

module _ (at : ℕ) (text : List ℕ) (old : ℕ → ℕ) (i : ℕ) where
  pub before : i < at → written_byte at text old i ≡ old i
  before h = ap (λ b. cond b (old i) (cond (nat_lt i (at + length text)) (get_or text (i - at) 0) (old i))) (lt-ltb i at h)

  pub within : at ≤ i → i < at + length text → written_byte at text old i ≡ get_or text (i - at) 0
  within h l = ap (λ b. cond b (old i) (cond (nat_lt i (at + length text)) (get_or text (i - at) 0) (old i))) (le-ltb i at h)
      ∙ ap (λ b. cond b (get_or text (i - at) 0) (old i)) (lt-ltb i (at + length text) l)

  pub behind : at + length text ≤ i → written_byte at text old i ≡ old i
  behind h = ap (λ b. cond b (old i) (cond (nat_lt i (at + length text)) (get_or text (i - at) 0) (old i))) (le-ltb i at (omega arith))
      ∙ ap (λ b. cond b (get_or text (i - at) 0) (old i)) (le-ltb i (at + length text) h)

-- two files that have the same byte there
pub same_byte : (at : ℕ) (text : List ℕ) (old new : ℕ → ℕ) (i : ℕ) → old i ≡ new i → written_byte at text old i ≡ written_byte at text new i
same_byte at text old new i e = ap (λ x. cond (nat_lt i at) x (cond (nat_lt i (at + length text)) (get_or text (i - at) 0) x)) e

-- byte i of bytes with a text put over them
pub get_or-overwritten : (at : ℕ) (text bytes : List ℕ) (i : ℕ) → at ≤ length bytes → get_or (overwritten at text bytes) i 0 ≡ written_byte at text (λ i. get_or bytes i 0) i
get_or-overwritten at text bytes i h = by (cases_lt i at) (cases_lt i (at + length text))
  where
    front : length (take at bytes) ≡ at
    front = omega (arith, length-take at bytes)

    both : length (take at bytes ++ text) ≡ at + length text
    both = length-append (take at bytes) text ∙ ap (λ n. n + length text) front

    by : (i < at) ⊎ (at ≤ i) → (i < at + length text) ⊎ (at + length text ≤ i) → get_or (overwritten at text bytes) i 0 ≡ written_byte at text (λ i. get_or bytes i 0) i
    by (inl a) c = get_or_append_left (take at bytes ++ text) (drop (at + length text) bytes) 0 i (omega (arith, both)) ∙ get_or_append_left (take at bytes) text 0 i (omega (arith, front)) ∙ get_or-take at bytes i 0 a
        ∙ sym (before at text (λ i. get_or bytes i 0) i a)
    by (inr a) (inl c) = get_or_append_left (take at bytes ++ text) (drop (at + length text) bytes) 0 i (omega (arith, both)) ∙ get_or-append_right (take at bytes) text at i 0 front a
        ∙ sym (within at text (λ i. get_or bytes i 0) i a c)
    by (inr a) (inr c) = get_or-append_right (take at bytes ++ text) (drop (at + length text) bytes) (at + length text) i 0 both c ∙ get_or-drop (at + length text) bytes (i - (at + length text)) 0
        ∙ ap (λ k. get_or bytes k 0) (let e : at + length text + (i - (at + length text)) ≡ i = omega arith in e)
        ∙ sym (behind at text (λ i. get_or bytes i 0) i c)

pub length-overwritten : (at : ℕ) (text bytes : List ℕ) → at + length text ≤ length bytes → length (overwritten at text bytes) ≡ length bytes
length-overwritten at text bytes h = length-append (take at bytes ++ text) (drop (at + length text) bytes) ∙ omega (arith, length-append (take at bytes) text, length-take at bytes, length-drop (at + length text) bytes)

-- ---- which blocks a text covers

pub is-covered : (at : ℕ) (text : List ℕ) (n : ℕ) → at < (n + 1) * BLOCK_BYTES → n * BLOCK_BYTES < at + length text → is_covered at text n ≡ true
is-covered at text n h l = and_from (nat_lt at ((n + 1) * BLOCK_BYTES)) (nat_lt (n * BLOCK_BYTES) (at + length text)) (lt-ltb at ((n + 1) * BLOCK_BYTES) h) (lt-ltb (n * BLOCK_BYTES) (at + length text) l)

pub covered-before : (at : ℕ) (text : List ℕ) (n : ℕ) → (n + 1) * BLOCK_BYTES ≤ at → is_covered at text n ≡ false
covered-before at text n h = and_left (nat_lt at ((n + 1) * BLOCK_BYTES)) (nat_lt (n * BLOCK_BYTES) (at + length text)) (le-ltb at ((n + 1) * BLOCK_BYTES) h)

pub covered-past : (at : ℕ) (text : List ℕ) (n : ℕ) → at + length text ≤ n * BLOCK_BYTES → is_covered at text n ≡ false
covered-past at text n h = and_right (nat_lt at ((n + 1) * BLOCK_BYTES)) (nat_lt (n * BLOCK_BYTES) (at + length text)) (le-ltb (n * BLOCK_BYTES) (at + length text) h)

pub covered-parts : (at : ℕ) (text : List ℕ) (n : ℕ) → is_covered at text n ≡ true → (at < (n + 1) * BLOCK_BYTES) × (n * BLOCK_BYTES < at + length text)
covered-parts at text n e =
    let p = and_parts (nat_lt at ((n + 1) * BLOCK_BYTES)) (nat_lt (n * BLOCK_BYTES) (at + length text)) e in
    (ltb-true at ((n + 1) * BLOCK_BYTES) p.0, ltb-true (n * BLOCK_BYTES) (at + length text) p.1)

pub not_covered : (at : ℕ) (text : List ℕ) (n : ℕ) → is_covered at text n ≡ false → ((n + 1) * BLOCK_BYTES ≤ at) ⊎ (at + length text ≤ n * BLOCK_BYTES)
not_covered at text n e = elim (and_cases (nat_lt at ((n + 1) * BLOCK_BYTES)) (nat_lt (n * BLOCK_BYTES) (at + length text)) e)
    [ inl a ↦ inl (ltb-false at ((n + 1) * BLOCK_BYTES) a) | inr a ↦ inr (ltb-false (n * BLOCK_BYTES) (at + length text) a) ]

-- ---- a file with a text written

pub length-written : (at : ℕ) (text : List ℕ) (c : Contents) → 0 < length text → length (written at text c).bytes ≡ max (length c.bytes) (at + length text)
length-written at [] c some = absurd (omega arith)
length-written at (b ∷ bs) c some =
    let end = at + length (b ∷ bs) in
    length-overwritten at (b ∷ bs) (grown end c.bytes) (length-grown-to end c.bytes) ∙ length-append c.bytes (replicate (end - length c.bytes) 0) ∙ omega (arith, length-replicate {A = ℕ} (end - length c.bytes) 0)

pub get_or-written : (at : ℕ) (text : List ℕ) (c : Contents) → 0 < length text → (i : ℕ) → get_or (written at text c).bytes i 0 ≡ written_byte at text (λ i. get_or c.bytes i 0) i
get_or-written at [] c some i = absurd (omega arith)
get_or-written at (b ∷ bs) c some i =
    let end = at + length (b ∷ bs) in
    get_or-overwritten at (b ∷ bs) (grown end c.bytes) i (omega (arith, length-grown-to end c.bytes))
    ∙ same_byte at (b ∷ bs) (λ i. get_or (grown end c.bytes) i 0) (λ i. get_or c.bytes i 0) i (get_or-grown end c.bytes i)

pub contains-covered : (at : ℕ) (text : List ℕ) → 0 < length text → (n : ℕ) → list_any (λ y. nat_eq y n) (covered at text) ≡ is_covered at text n
contains-covered at [] some n = absurd (omega arith)
contains-covered at (b ∷ bs) some n = by (cases_lt n (at / BLOCK_BYTES)) (cases_lt ((at + length bs) / BLOCK_BYTES) n)
  where
    many : ℕ
    many = (at + length bs) / BLOCK_BYTES + 1 - at / BLOCK_BYTES

    by : (n < at / BLOCK_BYTES) ⊎ (at / BLOCK_BYTES ≤ n) → ((at + length bs) / BLOCK_BYTES < n) ⊎ (n ≤ (at + length bs) / BLOCK_BYTES)
        → list_any (λ y. nat_eq y n) (range_with_len (at / BLOCK_BYTES) ((at + length bs) / BLOCK_BYTES + 1 - at / BLOCK_BYTES)) ≡ is_covered at (b ∷ bs) n
    by (inl a) c = range_above (at / BLOCK_BYTES) ((at + length bs) / BLOCK_BYTES + 1 - at / BLOCK_BYTES) n a ∙ sym (covered-before at (b ∷ bs) n (omega arith))
    by (inr a) (inl c) = range_past (at / BLOCK_BYTES) ((at + length bs) / BLOCK_BYTES + 1 - at / BLOCK_BYTES) n (omega arith) ∙ sym (covered-past at (b ∷ bs) n (omega arith))
    by (inr a) (inr c) = range_within (at / BLOCK_BYTES) ((at + length bs) / BLOCK_BYTES + 1 - at / BLOCK_BYTES) (n - at / BLOCK_BYTES) n (omega arith) (omega arith) ∙ sym (is-covered at (b ∷ bs) n (omega arith) (omega arith))

pub contains-written : (at : ℕ) (text : List ℕ) (c : Contents) → 0 < length text → (n : ℕ) → set.contains (written at text c).held n ≡ (set.contains c.held n || is_covered at text n)
contains-written at [] c some n = absurd (omega arith)
contains-written at (b ∷ bs) c some n =
    set.contains-union nat_cmp_total c.held (set.from_list (covered at (b ∷ bs))) n
    ∙ ap (λ x. set.contains c.held n || x) (set.contains-from_list_nat (covered at (b ∷ bs)) n ∙ contains-covered at (b ∷ bs) some n)
