-- A field that is read is the field that was written, and what was written is read again.
use Rattle.std.proofs.Common.{◌≡◌, ℕ, ◌+◌, ◌*◌, ◌^◌, ◌<◌, ◌≤◌, Bool, true, false, cond, ltb, leb, ◌&&◌, List, [], ◌∷◌, ◌++◌, length, take, drop, Option, Some, None, ◌⊎◌, refl, sym, ap, subst, ◌∙◌, append_assoc, arith, inl, inr, length-take, length-append}
use Rattle.std.specs.Prelude.{IsTrue, All}
use Rattle.std.proofs.lemmas.Bool.{ltb-false, ltb-true, leb-true, le-ltb, le-leb, lt-ltb, and_parts, and_from}
use Rattle.std.proofs.lemmas.List.{take_at, drop_at, take-append-drop, get_or_default}
use Rattle.byteorder.specs.Endian.{little_bytes, little_number}
use Rattle.byteorder.specs.Numbers.{little_from-lt, little_number-reads_back, length-bytes_low_first}
pub use Rattle.fx_base.proofs.Bytes.{IsBytes, IsBytes-drop, IsBytes-take, IsBytes-rest, IsWide, wide2, wide4, wide8}
use Rattle.fx_item.specs.Name.{is_name}
use Rattle.fx_item.specs.Item.{name_bytes, range_bytes, text_bytes, sums_bytes, IsAttributeText}
use Rattle.fx_item.specs.Reading.{◌>>=◌, number_at, pair_at, name_at, range_at, text_at, sums_at, extent_at, numbers_in}
use Rattle.fx_item.proofs.Sums.{numbers_len, numbers_wide, numbers_stand, numbers_again, sums_len}
use Rattle.fx_item.specs.declared.item.TheConstants.{MAX_DEVICE_BLOCKS, MAX_EXTENT_BLOCKS, MAX_TEXT}

-- ---- steps that may fail

pub bind_some : {A B : Type 0} (o : Option A) (f : A → Option B) (y : B) → (o >>= f) ≡ Some y → (x : A) × (o ≡ Some x) × (f x ≡ Some y)
bind_some (Some x) f y e = (x, refl, e)
bind_some None f y e = absurd cc

pub then_is : {A B : Type 0} (o : Option A) (f : A → Option B) (x : A) → o ≡ Some x → (o >>= f) ≡ f x
then_is o f x e = ap (λ p. p >>= f) e

pub chosen : {A : Type 0} (b : Bool) (x y z : A) → cond b x y ≡ z → ((b ≡ true) × (x ≡ z)) ⊎ ((b ≡ false) × (y ≡ z))
chosen true x y z e = inl (refl, e)
chosen false x y z e = inr (refl, e)

abbrev some : {A : Type 0} → A → Option A
some x = Some x

pub some_is : {A : Type 0} (x y : A) → some x ≡ some y → x ≡ y
some_is x y e = cc

pub none_is : {A : Type 0} {P : Type 0} (y : A) → (let none : Option A = None in none) ≡ some y → P
none_is y e = absurd cc

-- what is read under a test
pub tested_some : {A : Type 0} (b : Bool) (o : Option A) (y : A) → cond b o None ≡ Some y → (b ≡ true) × (o ≡ Some y)
tested_some true o y e = (refl, e)
tested_some false o y e = absurd cc

pub tested_is : {A : Type 0} (b : Bool) (o : Option A) → b ≡ true → cond b o None ≡ o
tested_is true o e = refl
tested_is false o e = absurd cc

-- what a reader took from the front
pub record Takes (bytes text rest : List ℕ) : Type 0 where
  pub parts : bytes ≡ text ++ rest
  pub rest_fits : IsBytes rest

pub Takes-then : (a x b y c : List ℕ) → Takes a x b → Takes b y c → Takes a (x ++ y) c
Takes-then a x b y c p q = record { parts = p.parts ∙ ap (λ (t : List ℕ). x ++ t) q.parts ∙ sym (append_assoc x y c); rest_fits = q.rest_fits }

pub Takes-kind : (kind n : ℕ) (bytes text rest : List ℕ) → kind ≡ n → Takes bytes text rest → Takes (kind ∷ bytes) (n ∷ text) rest
Takes-kind kind n bytes text rest e t =
    subst (λ (m : ℕ). Takes (kind ∷ bytes) (m ∷ text) rest) e (record { parts = ap (λ (w : List ℕ). kind ∷ w) t.parts; rest_fits = t.rest_fits })

-- the first n bytes
Takes-front : (n : ℕ) (bytes : List ℕ) → IsBytes bytes → Takes bytes (take n bytes) (drop n bytes)
Takes-front n bytes fits = record { parts = sym (take-append-drop n bytes); rest_fits = IsBytes-drop n bytes fits }

-- ---- numbers

pub number_takes : (n : ℕ) (wide : IsWide n) (bytes : List ℕ) (x : ℕ) (rest : List ℕ) → IsBytes bytes → number_at n bytes ≡ Some (x, rest) → Takes bytes (little_bytes n x) rest × (x < 256 ^ n)
number_takes n wide bytes x rest fits e =
    elim (chosen (ltb (length bytes) n) None (Some (little_number n bytes, drop n bytes)) (Some (x, rest)) e) [
      | inl h ↦ none_is (x, rest) h.1
      | inr h ↦ (
          let made : ℕ × List ℕ = (little_number n bytes, drop n bytes) in
          let long : n ≤ length bytes = ltb-false _ _ h.0 in
          let parts : bytes ≡ little_bytes n (little_number n bytes) ++ drop n bytes = sym (take-append-drop n bytes) ∙ ap (λ (w : List ℕ). w ++ drop n bytes) (sym (wide.stands bytes long fits)) in
          subst (λ (y : ℕ × List ℕ). Takes bytes (little_bytes n y.0) y.1 × (y.0 < 256 ^ n)) (some_is made (x, rest) h.1) (record { parts = parts; rest_fits = IsBytes-drop n bytes fits }, little_from-lt 0 n bytes fits))
    ]

pub number_again : (n x : ℕ) (rest : List ℕ) → x < 256 ^ n → number_at n (little_bytes n x ++ rest) ≡ Some (x, rest)
number_again n x rest lt =
    let len : length (little_bytes n x) ≡ n = length-bytes_low_first 0 n x in
    let long : ltb (length (little_bytes n x ++ rest)) n ≡ false = le-ltb _ _ (omega (arith, length-append (little_bytes n x) rest)) in
    let read : little_number n (little_bytes n x ++ rest) ≡ x = little_number-reads_back n x rest lt in
    let left : drop n (little_bytes n x ++ rest) ≡ rest = drop_at (little_bytes n x) rest n len in
    ap (λ (b : Bool). cond b None (Some (little_number n (little_bytes n x ++ rest), drop n (little_bytes n x ++ rest)))) long
    ∙ ap (λ (y : ℕ). some (y, drop n (little_bytes n x ++ rest))) read ∙ ap (λ (y : List ℕ). some (x, y)) left

-- ---- a store and an id

abbrev pub pair_bytes : ℕ → ℕ → List ℕ
pair_bytes store id = little_bytes 4 store ++ little_bytes 8 id

pub pair_takes : (bytes : List ℕ) (x : ℕ × ℕ) (rest : List ℕ) → IsBytes bytes → pair_at bytes ≡ Some (x, rest) → Takes bytes (pair_bytes x.0 x.1) rest × (x.0 < 2 ^ 32) × (x.1 < 2 ^ 64)
unfolding pair_at
pair_takes bytes x rest fits e =
    let a = bind_some (number_at 4 bytes) (λ store. number_at 8 store.1 >>= λ id. Some ((store.0, id.0), id.1)) (x, rest) e in
    let b = bind_some (number_at 8 a.0.1) (λ id. Some ((a.0.0, id.0), id.1)) (x, rest) a.2 in
    let s = number_takes 4 wide4 bytes a.0.0 a.0.1 fits a.1 in
    let i = number_takes 8 wide8 a.0.1 b.0.0 b.0.1 s.0.rest_fits b.1 in
    let both = Takes-then bytes (little_bytes 4 a.0.0) a.0.1 (little_bytes 8 b.0.0) b.0.1 s.0 i.0 in
    let made : (ℕ × ℕ) × List ℕ = ((a.0.0, b.0.0), b.0.1) in
    subst (λ (y : (ℕ × ℕ) × List ℕ). Takes bytes (pair_bytes y.0.0 y.0.1) y.1 × (y.0.0 < 2 ^ 32) × (y.0.1 < 2 ^ 64)) (some_is made (x, rest) b.2) (both, s.1, i.1)

pub pair_again : (store id : ℕ) (rest : List ℕ) → store < 2 ^ 32 → id < 2 ^ 64 → pair_at (pair_bytes store id ++ rest) ≡ Some ((store, id), rest)
unfolding pair_at
pair_again store id rest hs hi =
    let grouped : pair_bytes store id ++ rest ≡ little_bytes 4 store ++ (little_bytes 8 id ++ rest) = append_assoc (little_bytes 4 store) (little_bytes 8 id) rest in
    ap pair_at grouped
    ∙ then_is (number_at 4 (little_bytes 4 store ++ (little_bytes 8 id ++ rest))) (λ s. number_at 8 s.1 >>= λ i. Some ((s.0, i.0), i.1)) (store, little_bytes 8 id ++ rest) (number_again 4 store (little_bytes 8 id ++ rest) hs)
    ∙ then_is (number_at 8 (little_bytes 8 id ++ rest)) (λ i. Some ((store, i.0), i.1)) (id, rest) (number_again 8 id rest hi)

-- ---- ranges

abbrev range_read : (most start : ℕ) → ℕ × List ℕ → Option ((ℕ × ℕ) × List ℕ)
range_read most start stop = cond (ltb start stop.0 && leb stop.0 most) (Some ((start, stop.0), stop.1)) None

pub range_takes : (most : ℕ) (bytes : List ℕ) (x : ℕ × ℕ) (rest : List ℕ) → IsBytes bytes → range_at most bytes ≡ Some (x, rest) → Takes bytes (range_bytes x.0 x.1) rest × (x.0 < x.1) × (x.1 ≤ most)
unfolding range_at
range_takes most bytes x rest fits e =
    let a = bind_some (number_at 4 bytes) (λ start. number_at 4 start.1 >>= range_read most start.0) (x, rest) e in
    let b = bind_some (number_at 4 a.0.1) (range_read most a.0.0) (x, rest) a.2 in
    let s = number_takes 4 wide4 bytes a.0.0 a.0.1 fits a.1 in
    let i = number_takes 4 wide4 a.0.1 b.0.0 b.0.1 s.0.rest_fits b.1 in
    let both = Takes-then bytes (little_bytes 4 a.0.0) a.0.1 (little_bytes 4 b.0.0) b.0.1 s.0 i.0 in
    let made : (ℕ × ℕ) × List ℕ = ((a.0.0, b.0.0), b.0.1) in
    let test = tested_some (ltb a.0.0 b.0.0 && leb b.0.0 most) (Some made) (x, rest) b.2 in
    let tests = and_parts (ltb a.0.0 b.0.0) (leb b.0.0 most) test.0 in
    subst (λ (y : (ℕ × ℕ) × List ℕ). Takes bytes (range_bytes y.0.0 y.0.1) y.1 × (y.0.0 < y.0.1) × (y.0.1 ≤ most)) (some_is made (x, rest) test.1) (both, ltb-true _ _ tests.0, leb-true _ _ tests.1)

pub range_again : (most start stop : ℕ) (rest : List ℕ) → most < 2 ^ 32 → start < stop → stop ≤ most → range_at most (range_bytes start stop ++ rest) ≡ Some ((start, stop), rest)
unfolding range_at
range_again most start stop rest fits less le =
    let grouped : range_bytes start stop ++ rest ≡ little_bytes 4 start ++ (little_bytes 4 stop ++ rest) = append_assoc (little_bytes 4 start) (little_bytes 4 stop) rest in
    ap (range_at most) grouped
    ∙ then_is (number_at 4 (little_bytes 4 start ++ (little_bytes 4 stop ++ rest))) (λ s. number_at 4 s.1 >>= range_read most s.0) (start, little_bytes 4 stop ++ rest) (number_again 4 start (little_bytes 4 stop ++ rest) (omega (arith, fits, less, le)))
    ∙ then_is (number_at 4 (little_bytes 4 stop ++ rest)) (range_read most start) (stop, rest) (number_again 4 stop rest (omega (arith, fits, le)))
    ∙ tested_is (ltb start stop && leb stop most) (Some ((start, stop), rest)) (and_from _ _ (lt-ltb start stop less) (le-leb stop most le))

-- ---- names

abbrev tested : (test : List ℕ → Bool) (n : ℕ) (rest : List ℕ) → Option (List ℕ × List ℕ)
tested test n rest = cond (ltb (length rest) n) None (cond (test (take n rest)) (Some (take n rest, drop n rest)) None)

tested_takes : (test : List ℕ → Bool) (n : ℕ) (bytes name rest : List ℕ) → IsBytes bytes → tested test n bytes ≡ Some (name, rest) → Takes (n ∷ bytes) (name_bytes name) rest × (test name ≡ true)
tested_takes test n bytes name rest fits e =
    elim (chosen (ltb (length bytes) n) None (cond (test (take n bytes)) (Some (take n bytes, drop n bytes)) None) (Some (name, rest)) e) [
      | inl h ↦ none_is (name, rest) h.1
      | inr h ↦ (
          let k = tested_some (test (take n bytes)) (Some (take n bytes, drop n bytes)) (name, rest) h.1 in
          let made : List ℕ × List ℕ = (take n bytes, drop n bytes) in
          let long : n ≤ length bytes = ltb-false _ _ h.0 in
          let len : n ≡ length (take n bytes) = omega (arith, length-take n bytes) in
          subst (λ (y : List ℕ × List ℕ). Takes (n ∷ bytes) (name_bytes y.0) y.1 × (test y.0 ≡ true)) (some_is made (name, rest) k.1) (Takes-kind n (length (take n bytes)) bytes (take n bytes) (drop n bytes) len (Takes-front n bytes fits), k.0))
    ]

tested_again : (test : List ℕ → Bool) (name rest : List ℕ) → test name ≡ true → tested test (length name) (name ++ rest) ≡ Some (name, rest)
tested_again test name rest h =
    let long : ltb (length (name ++ rest)) (length name) ≡ false = le-ltb _ _ (omega (arith, length-append name rest)) in
    rw (long, take_at name rest (length name) refl, drop_at name rest (length name) refl, h) refl

pub name_takes : (bytes name rest : List ℕ) → IsBytes bytes → name_at bytes ≡ Some (name, rest) → Takes bytes (name_bytes name) rest × IsTrue (is_name name)
unfolding name_at
name_takes [] name rest fits e = none_is (name, rest) e
name_takes (n ∷ bytes) name rest fits e = tested_takes is_name n bytes name rest (IsBytes-rest n bytes fits) e

pub name_again : (name rest : List ℕ) → IsTrue (is_name name) → name_at (name_bytes name ++ rest) ≡ Some (name, rest)
unfolding name_at
name_again name rest h = tested_again is_name name rest h

-- ---- texts

all_bytes_front : (n : ℕ) (bytes : List ℕ) → IsBytes bytes → All (λ byte. byte < 256) (take n bytes)
all_bytes_front n bytes fits = λ k d less. omega (arith, IsBytes-take n bytes fits k, get_or_default (take n bytes) k d 0 less)

abbrev text_read : ℕ × List ℕ → Option (List ℕ × List ℕ)
text_read len = cond (ltb 0 len.0 && leb len.0 MAX_TEXT && leb len.0 (length len.1)) (Some (take len.0 len.1, drop len.0 len.1)) None

pub text_takes : (bytes text rest : List ℕ) → IsBytes bytes → text_at bytes ≡ Some (text, rest) → Takes bytes (text_bytes text) rest × IsAttributeText text
unfolding text_at
text_takes bytes text rest fits e =
    let a = bind_some (number_at 2 bytes) text_read (text, rest) e in
    let s = number_takes 2 wide2 bytes a.0.0 a.0.1 fits a.1 in
    let made : List ℕ × List ℕ = (take a.0.0 a.0.1, drop a.0.0 a.0.1) in
    let test = tested_some (ltb 0 a.0.0 && leb a.0.0 MAX_TEXT && leb a.0.0 (length a.0.1)) (Some made) (text, rest) a.2 in
    let last = and_parts (ltb 0 a.0.0 && leb a.0.0 MAX_TEXT) (leb a.0.0 (length a.0.1)) test.0 in
    let tests = and_parts (ltb 0 a.0.0) (leb a.0.0 MAX_TEXT) last.0 in
    let long : a.0.0 ≤ length a.0.1 = leb-true _ _ last.1 in
    let len : a.0.0 ≡ length (take a.0.0 a.0.1) = omega (arith, length-take a.0.0 a.0.1, long) in
    let both = Takes-then bytes (little_bytes 2 a.0.0) a.0.1 (take a.0.0 a.0.1) (drop a.0.0 a.0.1) s.0 (Takes-front a.0.0 a.0.1 s.0.rest_fits) in
    let spelled : Takes bytes (text_bytes made.0) made.1 = subst (λ (n : ℕ). Takes bytes (little_bytes 2 n ++ take a.0.0 a.0.1) (drop a.0.0 a.0.1)) len both in
    let good : IsAttributeText made.0 = record {
      some = omega (arith, len, ltb-true 0 a.0.0 tests.0);
      most = omega (arith, len, leb-true a.0.0 MAX_TEXT tests.1);
      bytes = all_bytes_front a.0.0 a.0.1 s.0.rest_fits;
    } in
    subst (λ (y : List ℕ × List ℕ). Takes bytes (text_bytes y.0) y.1 × IsAttributeText y.0) (some_is made (text, rest) test.1) (spelled, good)

pub text_again : (text rest : List ℕ) → IsAttributeText text → text_at (text_bytes text ++ rest) ≡ Some (text, rest)
unfolding text_at
text_again text rest h =
    let grouped : text_bytes text ++ rest ≡ little_bytes 2 (length text) ++ (text ++ rest) = append_assoc (little_bytes 2 (length text)) text rest in
    let long : length text ≤ length (text ++ rest) = omega (arith, length-append text rest) in
    let tests = and_from _ _ (and_from _ _ (lt-ltb 0 (length text) h.some) (le-leb (length text) MAX_TEXT h.most)) (le-leb (length text) (length (text ++ rest)) long) in
    ap text_at grouped
    ∙ then_is (number_at 2 (little_bytes 2 (length text) ++ (text ++ rest))) text_read (length text, text ++ rest) (number_again 2 (length text) (text ++ rest) (omega (arith, h.most)))
    ∙ tested_is (ltb 0 (length text) && leb (length text) MAX_TEXT && leb (length text) (length (text ++ rest))) (Some (take (length text) (text ++ rest), drop (length text) (text ++ rest))) tests
    ∙ ap (λ (w : List ℕ). some (w, drop (length text) (text ++ rest))) (take_at text rest (length text) refl)
    ∙ ap (λ (w : List ℕ). some (text, w)) (drop_at text rest (length text) refl)

-- ---- sums

sums_takes : (n : ℕ) (bytes sums rest : List ℕ) → IsBytes bytes → sums_at n bytes ≡ Some (sums, rest) → Takes bytes (sums_bytes sums) rest × (length sums ≡ n) × All (λ sum. sum < 2 ^ 64) sums
unfolding sums_at
sums_takes n bytes sums rest fits e =
    elim (chosen (ltb (length bytes) (8 * n)) None (Some (numbers_in n (take (8 * n) bytes), drop (8 * n) bytes)) (Some (sums, rest)) e) [
      | inl h ↦ none_is (sums, rest) h.1
      | inr h ↦ (
          let made : List ℕ × List ℕ = (numbers_in n (take (8 * n) bytes), drop (8 * n) bytes) in
          let long : 8 * n ≤ length bytes = ltb-false _ _ h.0 in
          let front_fits = IsBytes-take (8 * n) bytes fits in
          let stand = numbers_stand n (take (8 * n) bytes) (omega (arith, long, length-take (8 * n) bytes)) front_fits in
          let spelled : Takes bytes (sums_bytes made.0) made.1 = subst (λ (w : List ℕ). Takes bytes w (drop (8 * n) bytes)) (sym stand) (Takes-front (8 * n) bytes fits) in
          subst (λ (y : List ℕ × List ℕ). Takes bytes (sums_bytes y.0) y.1 × (length y.0 ≡ n) × All (λ sum. sum < 2 ^ 64) y.0) (some_is made (sums, rest) h.1) (spelled, numbers_len n (take (8 * n) bytes), numbers_wide n (take (8 * n) bytes) front_fits))
    ]

sums_again : (sums rest : List ℕ) → All (λ sum. sum < 2 ^ 64) sums → sums_at (length sums) (sums_bytes sums ++ rest) ≡ Some (sums, rest)
unfolding sums_at
sums_again sums rest wide =
    let len = sums_len sums in
    let long : ltb (length (sums_bytes sums ++ rest)) (8 * length sums) ≡ false = le-ltb _ _ (omega (arith, len, length-append (sums_bytes sums) rest)) in
    let front : take (8 * length sums) (sums_bytes sums ++ rest) ≡ sums_bytes sums = take_at (sums_bytes sums) rest (8 * length sums) len in
    let left : drop (8 * length sums) (sums_bytes sums ++ rest) ≡ rest = drop_at (sums_bytes sums) rest (8 * length sums) len in
    ap (λ (b : Bool). cond b None (Some (numbers_in (length sums) (take (8 * length sums) (sums_bytes sums ++ rest)), drop (8 * length sums) (sums_bytes sums ++ rest)))) long
    ∙ ap (λ (w : List ℕ). some (numbers_in (length sums) w, drop (8 * length sums) (sums_bytes sums ++ rest))) front
    ∙ ap (λ (w : List ℕ). some (w, drop (8 * length sums) (sums_bytes sums ++ rest))) (numbers_again sums wide)
    ∙ ap (λ (w : List ℕ). some (sums, w)) left

-- ---- the blocks of an extent

abbrev pub blocks_bytes : ℕ → List ℕ → List ℕ
blocks_bytes block sums = little_bytes 4 block ++ sums_bytes sums

-- n blocks from this one on, with a sum each
pub record AreBlocks (n block : ℕ) (sums : List ℕ) : Type 0 where
  pub count : length sums ≡ n
  pub most : n ≤ MAX_EXTENT_BLOCKS
  pub inside : block + n ≤ MAX_DEVICE_BLOCKS
  pub wide : All (λ sum. sum < 2 ^ 64) sums

abbrev sums_read : ℕ → ℕ × List ℕ → Option (List ℕ × List ℕ)
sums_read n block = cond (leb n MAX_EXTENT_BLOCKS && leb (block.0 + n) MAX_DEVICE_BLOCKS) (sums_at n block.1) None

pub extent_takes : (n : ℕ) (bytes : List ℕ) (x : ℕ × List ℕ) (rest : List ℕ) → IsBytes bytes → extent_at n bytes ≡ Some (x, rest) → Takes bytes (blocks_bytes x.0 x.1) rest × AreBlocks n x.0 x.1
unfolding extent_at
extent_takes n bytes x rest fits e =
    let a = bind_some (number_at 4 bytes) (λ block. sums_read n block >>= λ sums. Some ((block.0, sums.0), sums.1)) (x, rest) e in
    let b = bind_some (sums_read n a.0) (λ sums. Some ((a.0.0, sums.0), sums.1)) (x, rest) a.2 in
    let test = tested_some (leb n MAX_EXTENT_BLOCKS && leb (a.0.0 + n) MAX_DEVICE_BLOCKS) (sums_at n a.0.1) b.0 b.1 in
    let tests = and_parts (leb n MAX_EXTENT_BLOCKS) (leb (a.0.0 + n) MAX_DEVICE_BLOCKS) test.0 in
    let s = number_takes 4 wide4 bytes a.0.0 a.0.1 fits a.1 in
    let i = sums_takes n a.0.1 b.0.0 b.0.1 s.0.rest_fits test.1 in
    let both = Takes-then bytes (little_bytes 4 a.0.0) a.0.1 (sums_bytes b.0.0) b.0.1 s.0 i.0 in
    let made : (ℕ × List ℕ) × List ℕ = ((a.0.0, b.0.0), b.0.1) in
    let good : AreBlocks n a.0.0 b.0.0 = record { count = i.1; most = leb-true _ _ tests.0; inside = leb-true _ _ tests.1; wide = i.2 } in
    subst (λ (y : (ℕ × List ℕ) × List ℕ). Takes bytes (blocks_bytes y.0.0 y.0.1) y.1 × AreBlocks n y.0.0 y.0.1) (some_is made (x, rest) b.2) (both, good)

pub extent_again : (block : ℕ) (sums rest : List ℕ) → AreBlocks (length sums) block sums → extent_at (length sums) (blocks_bytes block sums ++ rest) ≡ Some ((block, sums), rest)
unfolding extent_at
extent_again block sums rest h =
    let n = length sums in
    let grouped : blocks_bytes block sums ++ rest ≡ little_bytes 4 block ++ (sums_bytes sums ++ rest) = append_assoc (little_bytes 4 block) (sums_bytes sums) rest in
    let tests = and_from _ _ (le-leb (length sums) MAX_EXTENT_BLOCKS h.most) (le-leb (block + length sums) MAX_DEVICE_BLOCKS h.inside) in
    ap (extent_at (length sums)) grouped
    ∙ then_is (number_at 4 (little_bytes 4 block ++ (sums_bytes sums ++ rest))) (λ b. sums_read (length sums) b >>= λ s. Some ((b.0, s.0), s.1)) (block, sums_bytes sums ++ rest) (number_again 4 block (sums_bytes sums ++ rest) (omega (arith, h.inside)))
    ∙ then_is (sums_read (length sums) (block, sums_bytes sums ++ rest)) (λ s. Some ((block, s.0), s.1)) (sums, rest) (tested_is (leb (length sums) MAX_EXTENT_BLOCKS && leb (block + length sums) MAX_DEVICE_BLOCKS) (sums_at (length sums) (sums_bytes sums ++ rest)) tests ∙ sums_again sums rest h.wide)
