-- The numbers, the text and the sum of a block of a layer.
use Rattle.std.proofs.Common.{◌≡◌, ℕ, ◌^◌, ◌<◌, List, [], ◌++◌, length, take, drop, refl, sym, ap, ◌∙◌, arith, length-drop}
use Rattle.std.proofs.lemmas.List.{take-append-drop, take_at, drop_at, take_all}
use Rattle.byteorder.specs.Endian.{little_bytes, little_number}
use Rattle.byteorder.specs.Numbers.{little_number-reads_back}
use Rattle.fx_sum.specs.Checksum.{fletch}
use Rattle.fx_sum.proofs.Fits.{fletch_fits}
use Rattle.fx_base.proofs.Bytes.{IsBytes, IsBytes-drop, wide8, same_4}
use Rattle.fx_layfile.specs.Block.{layer_header, layer_body, layer_block, IsFramed}

-- the numbers before the text
abbrev pub numbered_text : (magic a b c : ℕ) → List ℕ → List ℕ
numbered_text magic a b c raw = little_bytes 4 magic ++ (little_bytes 4 a ++ (little_bytes 4 b ++ (little_bytes 4 c ++ raw)))

pub body_parts : (magic a b c : ℕ) (raw : List ℕ) → layer_body magic a b c raw ≡ numbered_text magic a b c raw
unfolding layer_body layer_header
body_parts magic a b c raw = refl

pub body_len : (magic a b c : ℕ) (raw : List ℕ) → length raw ≡ 4072 → length (layer_body magic a b c raw) ≡ 4088
unfolding layer_body layer_header
body_len magic a b c raw e = omega arith

pub frame_front : (block : List ℕ) (magic a b c : ℕ) (raw : List ℕ) → IsFramed block magic a b c raw → take 4088 block ≡ layer_body magic a b c raw
unfolding layer_block
frame_front block magic a b c raw h =
    ap (take 4088) h.bytes_are ∙ take_at (layer_body magic a b c raw) (little_bytes 8 (fletch 0 (layer_body magic a b c raw))) 4088 (body_len magic a b c raw h.whole)

pub frame_sum : (block : List ℕ) (magic a b c : ℕ) (raw : List ℕ) → IsFramed block magic a b c raw → little_number 8 (drop 4088 block) ≡ fletch 0 (take 4088 block)
unfolding layer_block
frame_sum block magic a b c raw h =
    let body = layer_body magic a b c raw in
    let back : drop 4088 block ≡ little_bytes 8 (fletch 0 body) = ap (drop 4088) h.bytes_are ∙ drop_at body (little_bytes 8 (fletch 0 body)) 4088 (body_len magic a b c raw h.whole) in
    ap (little_number 8) back ∙ little_number-reads_back 8 (fletch 0 body) [] (fletch_fits 0 body (omega arith)) ∙ ap (fletch 0) (sym (frame_front block magic a b c raw h))

-- what was read of a body
pub record ReadNumbers (before : List ℕ) (magic a b c : ℕ) (raw : List ℕ) : Type 0 where
  pub r1 : List ℕ
  pub r2 : List ℕ
  pub r3 : List ℕ
  pub first_is : before ≡ little_bytes 4 magic ++ r1
  pub a_is : r1 ≡ little_bytes 4 a ++ r2
  pub b_is : r2 ≡ little_bytes 4 b ++ r3
  pub c_is : r3 ≡ little_bytes 4 c ++ raw

pub numbers_made : (before : List ℕ) (magic a b c : ℕ) (raw : List ℕ) → ReadNumbers before magic a b c raw → before ≡ layer_body magic a b c raw
numbers_made before magic a b c raw h =
    h.first_is ∙ ap (λ (r : List ℕ). little_bytes 4 magic ++ r) (h.a_is ∙ ap (λ (r : List ℕ). little_bytes 4 a ++ r) (h.b_is ∙ ap (λ (r : List ℕ). little_bytes 4 b ++ r) h.c_is)) ∙ sym (body_parts magic a b c raw)

-- the sum that was read is right
abbrev pub HasSum : (block : List ℕ) → Type 0
HasSum block = little_number 8 (drop 4088 block) ≡ fletch 0 (take 4088 block)

pub has_sum : (block before back : List ℕ) (stated : ℕ) → before ≡ take 4088 block → back ≡ drop 4088 block → stated ≡ little_number 8 back → stated ≡ fletch 0 before → HasSum block
has_sum block before back stated b s n e = sym (n ∙ ap (little_number 8) s) ∙ e ∙ ap (fletch 0) b

pub frame_made : (block before : List ℕ) (magic a b c : ℕ) (raw : List ℕ) → length block ≡ 4096 → IsBytes block → HasSum block → before ≡ take 4088 block → ReadNumbers before magic a b c raw
    → a < 2 ^ 32 → b < 2 ^ 32 → c < 2 ^ 32 → length raw ≡ 4072 → IsFramed block magic a b c raw
unfolding layer_block
frame_made block before magic a b c raw len fits sum front read ha hb hc whole =
    let body : take 4088 block ≡ layer_body magic a b c raw = sym front ∙ numbers_made before magic a b c raw read in
    let end_len : length (drop 4088 block) ≡ 8 = omega (arith, length-drop 4088 block) in
    let stands : little_bytes 8 (little_number 8 (drop 4088 block)) ≡ drop 4088 block = wide8.stands (drop 4088 block) (omega arith) (IsBytes-drop 4088 block fits) ∙ take_all 8 (drop 4088 block) (omega arith) in
    let sum_is : little_number 8 (drop 4088 block) ≡ fletch 0 (layer_body magic a b c raw) = sum ∙ ap (fletch 0) body in
    record {
      a_fits = ha;
      b_fits = hb;
      c_fits = hc;
      whole = whole;
      bytes_are = sym (take-append-drop 4088 block) ∙ ap (λ (x : List ℕ). x ++ drop 4088 block) body ∙ ap (λ (x : List ℕ). layer_body magic a b c raw ++ x) (sym stands) ∙ ap (λ (k : ℕ). layer_body magic a b c raw ++ little_bytes 8 k) sum_is;
    }

-- a block of the form has the magic that was read
pub frame_first : (block before rest : List ℕ) (magic a b c first : ℕ) (raw : List ℕ) → magic < 2 ^ 32 → first < 2 ^ 32 → before ≡ take 4088 block → before ≡ little_bytes 4 first ++ rest → IsFramed block magic a b c raw → first ≡ magic
frame_first block before rest magic a b c first raw hm hf front read h =
    (same_4 before rest (little_bytes 4 a ++ (little_bytes 4 b ++ (little_bytes 4 c ++ raw))) first magic hf hm read (front ∙ frame_front block magic a b c raw h ∙ body_parts magic a b c raw)).0

-- two readings of one block are the same
pub record SameNumbers (a b c a' b' c' : ℕ) (raw raw' : List ℕ) : Type 0 where
  pub a_same : a ≡ a'
  pub b_same : b ≡ b'
  pub c_same : c ≡ c'
  pub raw_same : raw ≡ raw'

pub same_frame : (block : List ℕ) (magic a b c a' b' c' : ℕ) (raw raw' : List ℕ) → magic < 2 ^ 32 → IsFramed block magic a b c raw → IsFramed block magic a' b' c' raw' → SameNumbers a b c a' b' c' raw raw'
same_frame block magic a b c a' b' c' raw raw' hm h k =
    let body = numbered_text magic a b c raw in
    let other : body ≡ numbered_text magic a' b' c' raw' = sym (body_parts magic a b c raw) ∙ sym (frame_front block magic a b c raw h) ∙ frame_front block magic a' b' c' raw' k ∙ body_parts magic a' b' c' raw' in
    let s1 = same_4 body (little_bytes 4 a ++ (little_bytes 4 b ++ (little_bytes 4 c ++ raw))) (little_bytes 4 a' ++ (little_bytes 4 b' ++ (little_bytes 4 c' ++ raw'))) magic magic hm hm refl other in
    let s2 = same_4 (little_bytes 4 a ++ (little_bytes 4 b ++ (little_bytes 4 c ++ raw))) (little_bytes 4 b ++ (little_bytes 4 c ++ raw)) (little_bytes 4 b' ++ (little_bytes 4 c' ++ raw')) a a' h.a_fits k.a_fits refl s1.1 in
    let s3 = same_4 (little_bytes 4 b ++ (little_bytes 4 c ++ raw)) (little_bytes 4 c ++ raw) (little_bytes 4 c' ++ raw') b b' h.b_fits k.b_fits refl s2.1 in
    let s4 = same_4 (little_bytes 4 c ++ raw) raw raw' c c' h.c_fits k.c_fits refl s3.1 in
    record { a_same = s2.0; b_same = s3.0; c_same = s4.0; raw_same = s4.1 }
