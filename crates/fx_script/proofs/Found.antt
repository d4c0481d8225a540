-- What a search for a byte tells.
use Rattle.std.proofs.Common.{◌≡◌, ◌≢◌, ℕ, zero, suc, ◌<◌, ◌≤◌, ◌==◌, ◌||◌, Bool, true, false, cond, List, [], ◌∷◌, length, get_or, take, drop, refl, sym, ap, ◌∙◌, arith, inl, inr}
use Rattle.std.specs.Prelude.{All, Option, None, Some, ◌&&◌, ◌*◌, ◌+◌, ◌⊎◌, not, codes, nat_eq, is_none, is_some, IsTrue, MatchBool}
use Rattle.std.specs.Char.{digit_value, is_ascii, is_digit}
use Rattle.std.specs.List.{list_all, list_any}
use Rattle.std.specs.Str.{bytes_eq, IsAscii, IsNotAscii}
use Rattle.std.specs.Cmp.Lexicographic.{pointwise}
use Rattle.std.specs.Cmp.Derive.{both_true}
use Rattle.std.proofs.lemmas.Bool.{eq-eqb, eqb-true, ne_eqb, lt-ltb, le-ltb, le-leb}
use Rattle.std.proofs.lemmas.List.Elements.{All-nil, All-cons, All-head, All-tail}
use Rattle.std.proofs.lemmas.Str.{IsUtf8-from_ascii, is_utf8-from_IsUtf8}
use Rattle.memchr.specs.Find.{IsFirstByte, is_byte, is_byte3}
use Rattle.percent_encoding.specs.Percent.{percent_decode}
use Rattle.fx_item.specs.Name.{has_byte, is_name}
use Rattle.fx_script.specs.Cut.{onto_first, cut}
use Rattle.fx_script.proofs.Cuts.{cut_at, cut_whole}

-- the first piece ends where the separator is found
pub cut_found : (at : ℕ) (text : List ℕ) (i : ℕ) → IsFirstByte (is_byte at) text (Some i) → cut at text ≡ take i text ∷ cut at (drop (suc i) text)
cut_found at text i found = cut_at at text i found.0.high (eqb-true _ _ found.1) (λ k below same. found.0.before k (omega arith) below (eq-eqb _ _ same))

pub cut_not_found : (at : ℕ) (text : List ℕ) → IsFirstByte (is_byte at) text None → cut at text ≡ text ∷ []
cut_not_found at text none = cut_whole at text (λ k below same. none k (omega arith) below (eq-eqb _ _ same))

-- the byte is not in the text
abbrev Lacks : ℕ → List ℕ → Type 0
Lacks byte text = (k : ℕ) → k < length text → get_or text k 0 ≢ byte

lacks : (byte : ℕ) (text : List ℕ) → IsFirstByte (is_byte byte) text None → Lacks byte text
lacks byte text none k below same = none k (omega arith) below (eq-eqb _ _ same)

later : (byte b : ℕ) (bs : List ℕ) → Lacks byte (b ∷ bs) → Lacks byte bs
later byte b bs none k below = none (suc k) (omega arith)

first : (byte b : ℕ) (bs : List ℕ) → Lacks byte (b ∷ bs) → (b == byte) ≡ false
first byte b bs none = ne_eqb b byte (none 0 (omega arith))

abbrev AllLack : ℕ → List (List ℕ) → Type 0
AllLack byte pieces = All (λ piece. has_byte byte piece ≡ false) pieces

-- then no piece has it
pub pieces_lack : (byte at : ℕ) (text : List ℕ) → Lacks byte text → AllLack byte (cut at text)
pieces_lack byte at [] none = All-cons (λ piece. has_byte byte piece ≡ false) [] [] refl (All-nil (λ piece. has_byte byte piece ≡ false))
pieces_lack byte at (b ∷ bs) none = by_test (b == at) (pieces_lack byte at bs (later byte b bs none))
  where
    onto : (pieces : List (List ℕ)) → AllLack byte pieces → AllLack byte (onto_first b pieces)
    onto [] all = All-cons (λ piece. has_byte byte piece ≡ false) (b ∷ []) [] (ap (λ t. t || false) (first byte b bs none)) all
    onto (piece ∷ pieces) all =
        All-cons (λ piece. has_byte byte piece ≡ false) (b ∷ piece) pieces
        (ap (λ t. t || has_byte byte piece) (first byte b bs none) ∙ All-head (λ piece. has_byte byte piece ≡ false) piece pieces all)
        (All-tail (λ piece. has_byte byte piece ≡ false) piece pieces all)

    by_test : (t : Bool) → AllLack byte (cut at bs) → AllLack byte (cond t ([] ∷ cut at bs) (onto_first b (cut at bs)))
    by_test true all = All-cons (λ piece. has_byte byte piece ≡ false) [] (cut at bs) refl all
    by_test false all = onto (cut at bs) all

pub searched : (byte at : ℕ) (text : List ℕ) (found : Option ℕ) → IsFirstByte (is_byte byte) text found → (is_some found ≡ true) ⊎ AllLack byte (cut at text)
searched byte at text (Some i) found = inl refl
searched byte at text None none = inr (pieces_lack byte at text (lacks byte text none))

-- a word that is one byte has it
pub none_is : (byte : ℕ) (words : List (List ℕ)) → AllLack byte words → list_any (λ word. bytes_eq word (byte ∷ [])) words ≡ false
none_is byte [] all = refl
none_is byte (word ∷ words) all =
    ap (λ t. t || list_any (λ word. bytes_eq word (byte ∷ [])) words) (other word (All-head (λ piece. has_byte byte piece ≡ false) word words all))
    ∙ none_is byte words (All-tail (λ piece. has_byte byte piece ≡ false) word words all)
  where
    other : (word : List ℕ) → has_byte byte word ≡ false → bytes_eq word (byte ∷ []) ≡ false
    other [] lacks = refl
    other (b ∷ bs) lacks = by_test (b == byte) lacks
      where
        by_test : (t : Bool) → (t || has_byte byte bs) ≡ false → (t && bytes_eq bs []) ≡ false
        by_test true e = absurd (cc)
        by_test false e = refl

-- a text without `%` decodes to itself
pub decoded_same : (text : List ℕ) → Lacks 37 text → text ≡ percent_decode text
unfolding percent_decode
decoded_same [] none = refl
decoded_same (b ∷ []) none = refl
decoded_same (b ∷ c ∷ []) none = refl
decoded_same (b ∷ high ∷ low ∷ rest) none =
    ap (λ bs. b ∷ bs) (decoded_same (high ∷ low ∷ rest) (later 37 b (high ∷ low ∷ rest) none))
    ∙ sym (ap (λ t. cond (t && is_digit high 16 && is_digit low 16) ((16 * digit_value high + digit_value low) ∷ percent_decode rest) (b ∷ percent_decode (high ∷ low ∷ rest))) (first 37 b (high ∷ low ∷ rest) none))

is_small : (b : ℕ) → b < 128 → is_ascii b ≡ true
is_small b small = lt-ltb b 128 small

is_large : (b : ℕ) → 128 ≤ b → is_ascii b ≡ false
is_large b large = le-ltb b 128 large

-- each byte is ASCII
all_ascii : (text : List ℕ) → IsAscii text → true ≡ list_all is_ascii text
all_ascii [] all = refl
all_ascii (b ∷ bs) all = all_ascii bs (λ k. all (suc k)) ∙ sym (ap (λ t. t && list_all is_ascii bs) (is_small b (all 0)))

one_not : (text : List ℕ) (k : ℕ) → 128 ≤ get_or text k 0 → false ≡ list_all is_ascii text
one_not [] k large = absurd (omega arith)
one_not (b ∷ bs) zero large = sym (ap (λ t. t && list_all is_ascii bs) (is_large b large))
one_not (b ∷ bs) (suc k) large = by_test (is_ascii b) (one_not bs k large)
  where
    by_test : (t : Bool) → false ≡ list_all is_ascii bs → false ≡ (t && list_all is_ascii bs)
    by_test true e = e
    by_test false e = refl

pub ascii_by : (answer : Bool) (text : List ℕ) → MatchBool answer (IsAscii text) (IsNotAscii text) → answer ≡ list_all is_ascii text
ascii_by true text all = all_ascii text all
ascii_by false text one = one_not text one.0 one.1

pub plain_text : (text : List ℕ) (found : Option ℕ) → IsFirstByte (is_byte 37) text found → is_none found ≡ true → text ≡ percent_decode text
plain_text text (Some i) found e = absurd (cc)
plain_text text None none e = decoded_same text (lacks 37 text none)

has_not : (byte : ℕ) (text : List ℕ) → Lacks byte text → has_byte byte text ≡ false
has_not byte [] none = refl
has_not byte (b ∷ bs) none = ap (λ t. t || has_byte byte bs) (first byte b bs none) ∙ has_not byte bs (later byte b bs none)

-- none of the three bytes is in the text
lacks_of_three : (x y z : ℕ) (text : List ℕ) (byte : ℕ) → is_byte3 x y z byte ≡ true → IsFirstByte (is_byte3 x y z) text None → Lacks byte text
lacks_of_three x y z text byte one none k below same = none k (omega arith) below (ap (is_byte3 x y z) same ∙ one)

pub ascii_is : (answer : Bool) (text : List ℕ) → MatchBool answer (IsAscii text) (IsNotAscii text) → IsTrue answer → IsAscii text
ascii_is true text all h = all
ascii_is false text one h = absurd (cc)

-- a name of ASCII without `%` stands for itself
pub plain_name : (text : List ℕ) (found : Option ℕ) → 0 < length text → length text ≤ 255
    → pointwise nat_eq text (codes ".") ≡ false → pointwise nat_eq text (codes "..") ≡ false
    → IsFirstByte (is_byte3 37 47 0) text found → is_some found ≡ false → IsAscii text → is_name (percent_decode text) ≡ true
plain_name text (Some i) some few dot dots at e ascii = absurd (cc)
plain_name text None some few dot dots none e ascii =
    let slash = has_not 47 text (lacks_of_three 37 47 0 text 47 refl none) in
    let nul = has_not 0 text (lacks_of_three 37 47 0 text 0 refl none) in
    let utf8 = is_utf8-from_IsUtf8 text (IsUtf8-from_ascii text ascii) in
    let size = both_true (lt-ltb 0 (length text) some) (le-leb (length text) 255 few) in
    let bytes = both_true (both_true size (ap not slash)) (ap not nul) in
    let named : is_name text ≡ true = both_true (both_true (both_true bytes (ap not dot)) (ap not dots)) utf8 in
    ap is_name (sym (decoded_same text (lacks_of_three 37 47 0 text 37 refl none))) ∙ named
