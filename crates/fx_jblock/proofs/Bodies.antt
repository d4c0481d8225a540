-- The fields of a block's bytes before its sum say what they are.
use Rattle.std.proofs.Common.{◌≡◌, ℕ, ◌+◌, ◌-◌, ◌^◌, ◌<◌, ◌≤◌, List, ◌++◌, length, take, drop, replicate, refl, sym, ap, subst, ◌∙◌, arith, length-take, length-drop, length-append}
use Rattle.std.proofs.lemmas.List.{take-append-drop, drop-drop, take_at, drop_at, take_rest, length-replicate}
use Rattle.byteorder.specs.Endian.{little_bytes, little_number}
use Rattle.byteorder.specs.Numbers.{little_number-reads_back}
use Rattle.fx_jblock.specs.Block.{body, IsBody}
use Rattle.fx_base.proofs.Bytes.{IsBytes, IsBytes-drop, wide2, wide8}

abbrev glue : List ℕ → List ℕ → List ℕ → List ℕ → List ℕ → List ℕ → List ℕ
glue a b c d t p = a ++ (b ++ (c ++ (d ++ (t ++ p))))

cut : (m n k : ℕ) (xs : List ℕ) → n + m ≡ k → take m (drop n xs) ++ drop k xs ≡ drop n xs
cut m n k xs e = subst (λ (i : ℕ). take m (drop n xs) ++ drop i xs ≡ drop n xs) e (rw (← drop-drop m n xs) (take-append-drop m (drop n xs)))

glued : (xs : List ℕ) (n : ℕ) → glue (take 8 xs) (take 8 (drop 8 xs)) (take 2 (drop 16 xs)) (take 6 (drop 18 xs)) (take n (drop 24 xs)) (drop n (drop 24 xs)) ≡ xs
glued xs n =
    rw (take-append-drop n (drop 24 xs), cut 6 18 24 xs refl, cut 2 16 18 xs refl, cut 8 8 16 xs refl) (take-append-drop 8 xs)

-- the fields of what was read
pub record Fields (bytes : List ℕ) (sequence epoch used : ℕ) : Type 0 where
  pub sequence_is : little_number 8 bytes ≡ sequence
  pub epoch_is : little_number 8 (drop 8 bytes) ≡ epoch
  pub used_is : little_number 2 (drop 16 bytes) ≡ used
  pub zeros : take 6 (drop 18 bytes) ≡ replicate 6 0
  pub padding : drop used (drop 24 bytes) ≡ replicate (4064 - used) 0

pub fields_make_body : (bytes : List ℕ) (s e n : ℕ) → length bytes ≡ 4088 → IsBytes bytes → n ≤ 4064 → Fields bytes s e n → (length (take n (drop 24 bytes)) ≡ n) × (bytes ≡ body s e (take n (drop 24 bytes)))
unfolding body
fields_make_body bytes s e n len fits le f =
    let text = take n (drop 24 bytes) in
    let text_len : length text ≡ n = omega (arith, length-take n (drop 24 bytes), length-drop 24 bytes) in
    let a : little_bytes 8 s ≡ take 8 bytes = ap (little_bytes 8) (sym f.sequence_is) ∙ wide8.stands bytes (omega arith) fits in
    let b : little_bytes 8 e ≡ take 8 (drop 8 bytes) = ap (little_bytes 8) (sym f.epoch_is) ∙ wide8.stands (drop 8 bytes) (omega (arith, length-drop 8 bytes)) (IsBytes-drop 8 bytes fits) in
    let c : little_bytes 2 (length text) ≡ take 2 (drop 16 bytes) = ap (little_bytes 2) (text_len ∙ sym f.used_is) ∙ wide2.stands (drop 16 bytes) (omega (arith, length-drop 16 bytes)) (IsBytes-drop 16 bytes fits) in
    let p : replicate (4064 - length text) 0 ≡ drop n (drop 24 bytes) = ap (λ (k : ℕ). replicate (4064 - k) 0) text_len ∙ sym f.padding in
    let whole : glue (little_bytes 8 s) (little_bytes 8 e) (little_bytes 2 (length text)) (replicate 6 0) text (replicate (4064 - length text) 0) ≡ bytes =
    ap (λ (x : List ℕ). glue x (little_bytes 8 e) (little_bytes 2 (length text)) (replicate 6 0) text (replicate (4064 - length text) 0)) a
    ∙ ap (λ (x : List ℕ). glue (take 8 bytes) x (little_bytes 2 (length text)) (replicate 6 0) text (replicate (4064 - length text) 0)) b
    ∙ ap (λ (x : List ℕ). glue (take 8 bytes) (take 8 (drop 8 bytes)) x (replicate 6 0) text (replicate (4064 - length text) 0)) c
    ∙ ap (λ (x : List ℕ). glue (take 8 bytes) (take 8 (drop 8 bytes)) (take 2 (drop 16 bytes)) x text (replicate (4064 - length text) 0)) (sym f.zeros)
    ∙ ap (λ (x : List ℕ). glue (take 8 bytes) (take 8 (drop 8 bytes)) (take 2 (drop 16 bytes)) (take 6 (drop 18 bytes)) text x) p
    ∙ glued bytes n in
    (text_len, sym whole)

-- a body has the fields that it was made of
pub body_has_fields : (s e : ℕ) (text : List ℕ) → s < 2 ^ 64 → e < 2 ^ 64 → length text ≤ 4064 → Fields (body s e text) s e (length text) × (take (length text) (drop 24 (body s e text)) ≡ text)
unfolding body
body_has_fields s e text hs he le =
    let padding = replicate (4064 - length text) 0 in
    let rest = replicate 6 0 ++ (text ++ padding) in (
      record {
        sequence_is = little_number-reads_back 8 s (little_bytes 8 e ++ (little_bytes 2 (length text) ++ rest)) hs;
        epoch_is = little_number-reads_back 8 e (little_bytes 2 (length text) ++ rest) he;
        used_is = little_number-reads_back 2 (length text) rest (omega arith);
        zeros = refl;
        padding = drop_at text padding (length text) refl;
      },
      take_at text padding (length text) refl,
    )

pub length-body : (s e : ℕ) (text : List ℕ) → length text ≤ 4064 → length (body s e text) ≡ 4088
unfolding body
length-body s e text le = omega (arith, length-append text (replicate (4064 - length text) 0), length-replicate {A = ℕ} (4064 - length text) 0)

-- what the code read: the fields, at the rests of the bytes
pub record Reads (bytes : List ℕ) (first epoch used : ℕ) : Type 0 where
  pub len : length bytes ≡ 4088
  pub fits : IsBytes bytes
  pub first_is : first ≡ little_number 8 bytes
  pub epoch_is : epoch ≡ little_number 8 (take (length bytes - 8) (drop 8 bytes))
  pub epoch_fits : epoch < 2 ^ 64
  pub used_is : used ≡ little_number 2 (take (length bytes - 16) (drop 16 bytes))

abbrev pub ZerosIn : List ℕ → Type 0
ZerosIn xs = xs ≡ replicate (length xs) 0

abbrev pub FilledBy : List ℕ → ℕ → Type 0
FilledBy xs used = (0 < used) × (used ≤ length xs) × (drop used xs ≡ replicate (length xs - used) 0)

rest_len : (bytes : List ℕ) → length bytes ≡ 4088 → length (take (length bytes - 24) (drop 24 bytes)) ≡ 4064
rest_len bytes len = omega (arith, ap length (take_rest bytes 24), length-drop 24 bytes)

zeros_len : (bytes : List ℕ) → length bytes ≡ 4088 → length (take 6 (drop 18 bytes)) ≡ 6
zeros_len bytes len = omega (arith, length-take 6 (drop 18 bytes), length-drop 18 bytes)

pub form_found : (bytes : List ℕ) (first epoch used s : ℕ) → Reads bytes first epoch used → first ≡ s → 0 < epoch → ZerosIn (take 6 (drop 18 bytes)) → FilledBy (take (length bytes - 24) (drop 24 bytes)) used
    → (text : List ℕ) × (length text ≡ used) × IsBody bytes s epoch text
form_found bytes first epoch used s r same begun zeros filled =
    let rest = take_rest bytes 24 in
    let room : used ≤ 4064 = omega (arith, filled.1, rest_len bytes r.len) in
    let f : Fields bytes s epoch used = record {
      sequence_is = sym r.first_is ∙ same;
      epoch_is = sym (ap (little_number 8) (take_rest bytes 8)) ∙ sym r.epoch_is;
      used_is = sym (ap (little_number 2) (take_rest bytes 16)) ∙ sym r.used_is;
      zeros = zeros ∙ ap (λ (k : ℕ). replicate k 0) (zeros_len bytes r.len);
      padding = sym (ap (drop used) rest) ∙ filled.2 ∙ ap (λ (k : ℕ). replicate (k - used) 0) (rest_len bytes r.len);
    } in
    let made = fields_make_body bytes s epoch used r.len r.fits room f in (
      take used (drop 24 bytes),
      made.0,
      record {
        filled = omega (arith, filled.0, made.0);
        room = omega (arith, room, made.0);
        begun = omega arith;
        fits = r.epoch_fits;
        bytes_are = made.1;
      },
    )

-- the tests hold where the bytes are of the form
pub form_tests : (bytes : List ℕ) (first epoch used s e : ℕ) (text : List ℕ) → Reads bytes first epoch used → s < 2 ^ 64 → IsBody bytes s e text
    → (first ≡ s) × (epoch ≡ e) × (used ≡ length text) × (0 < epoch) × ZerosIn (take 6 (drop 18 bytes)) × FilledBy (take (length bytes - 24) (drop 24 bytes)) used
form_tests bytes first epoch used s e text r hs h =
    let f : Fields bytes s e (length text) = subst (λ (b : List ℕ). Fields b s e (length text)) (sym h.bytes_are) (body_has_fields s e text hs h.fits h.room).0 in
    let epoch_is : epoch ≡ e = r.epoch_is ∙ ap (little_number 8) (take_rest bytes 8) ∙ f.epoch_is in
    let used_is : used ≡ length text = r.used_is ∙ ap (little_number 2) (take_rest bytes 16) ∙ f.used_is in
    let rest = take_rest bytes 24 in
    let pad : drop used (take (length bytes - 24) (drop 24 bytes)) ≡ replicate (length (take (length bytes - 24) (drop 24 bytes)) - used) 0 =
    ap (drop used) rest ∙ ap (λ (k : ℕ). drop k (drop 24 bytes)) used_is ∙ f.padding ∙ ap (λ (k : ℕ). replicate k 0) (omega (arith, rest_len bytes r.len, used_is)) in
    (r.first_is ∙ f.sequence_is, epoch_is, used_is, omega (arith, epoch_is, h.begun), f.zeros ∙ ap (λ (k : ℕ). replicate k 0) (sym (zeros_len bytes r.len)), (omega (arith, used_is, h.filled), omega (arith, used_is, h.room, rest_len bytes r.len), pad))
