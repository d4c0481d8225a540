-- A printed line is read as that line.
use Rattle.std.proofs.Common.{◌≡◌, ℕ, zero, suc, ◌^◌, ◌<◌, ◌≤◌, Bool, true, false, not, cond, ◌&&◌, ◌||◌, ◌==◌, List, [], ◌∷◌, ◌++◌, map, length, get_or, refl, ap, subst, ◌∙◌, length-append, arith, eqb-true}
use Rattle.std.specs.Prelude.{Ok, nat_le, codes}
use Rattle.std.specs.List.{list_all, AllByRecursion}
use Rattle.std.specs.Str.{bytes_eq}
use Rattle.std.specs.Char.{is_ascii, is_ascii_digit}
use Rattle.std.specs.Fmt.{decimal}
use Rattle.std.specs.Cmp.Derive.{both_true}
use Rattle.std.specs.Str.Parse.{digits_value}
use Rattle.std.proofs.lemmas.Bool.{and_parts, ltb-true, lt-ltb, le-leb, eq-eqb, ne_eqb, cond-true}
use Rattle.std.proofs.lemmas.Bool.Decides.{nat_tests}
use Rattle.std.proofs.lemmas.List.{append-nil}
use Rattle.std.proofs.lemmas.List.Folds.{list_all-append}
use Rattle.std.proofs.lemmas.Fmt.{decimal_nonempty, first_decimal, digits_decimal, digits_value-decimal, decimal_digit}
use Rattle.percent_encoding.specs.Percent.{percent_decode}
use Rattle.fx_item.specs.Name.{is_name}
use Rattle.fx_plain.specs.declared.step.Step.TheVariants.{Mkdir, Create, Write, Read, List as ListStep, Stat as StatStep}
use Rattle.fx_script.specs.declared.line.Line.{Line}
use Rattle.fx_script.specs.declared.line.Line.TheVariants.{Single, Sync}
use Rattle.fx_script.specs.Cut.{onto_first, cut, words_of}
use Rattle.fx_script.specs.Word.{is_decimal, number_in, max_number, text_of, if_name, name_of, names_of, few_names_of, below_root, path_of}
use Rattle.fx_script.specs.Line.{line_of_words, line_of}
use Rattle.fx_script.specs.Escape.{escaped}
use Rattle.fx_script.specs.Print.{names_text, path_text, step_words, spaced, line_text, IsPath, IsText, LineKeepsRules}
use Rattle.fx_script.proofs.Numbers.{own}
use Rattle.fx_script.proofs.Utf8.{AreBytes, AreBytes-from_utf8}
use Rattle.fx_script.proofs.Escapes.{is_escape_byte, clean, decode-escaped, escaped_some}

-- ---- pieces

abbrev pub is_not : ℕ → ℕ → Bool
is_not at b = not (b == at)

pub weaker : (p q : ℕ → Bool) → ((b : ℕ) → p b ≡ true → q b ≡ true) → (xs : List ℕ) → list_all p xs ≡ true → list_all q xs ≡ true
weaker p q h [] all = refl
weaker p q h (x ∷ xs) all =
    let parts = and_parts (p x) (list_all p xs) all in
    both_true (h x parts.0) (weaker p q h xs parts.1)

step_on : (at b : ℕ) (bs : List ℕ) → is_not at b ≡ true → cut at (b ∷ bs) ≡ onto_first b (cut at bs)
step_on at b bs h = ap (λ t. cond t ([] ∷ cut at bs) (onto_first b (cut at bs))) (by_test (b == at) h)
  where
    by_test : (t : Bool) → not t ≡ true → t ≡ false
    by_test true e = absurd (cc)
    by_test false e = refl

cut_free : (at : ℕ) (xs : List ℕ) → list_all (is_not at) xs ≡ true → cut at xs ≡ xs ∷ []
cut_free at [] h = refl
cut_free at (x ∷ xs) h =
    let parts = and_parts (is_not at x) (list_all (is_not at) xs) h in
    step_on at x xs parts.0 ∙ ap (onto_first x) (cut_free at xs parts.1)

pub cut_next : (at : ℕ) (xs rest : List ℕ) → list_all (is_not at) xs ≡ true → cut at (xs ++ at ∷ rest) ≡ xs ∷ cut at rest
cut_next at [] rest h = ap (λ t. cond t ([] ∷ cut at rest) (onto_first at (cut at rest))) (eq-eqb at at refl)
cut_next at (x ∷ xs) rest h =
    let parts = and_parts (is_not at x) (list_all (is_not at) xs) h in
    step_on at x (xs ++ at ∷ rest) parts.0 ∙ ap (onto_first x) (cut_next at xs rest parts.1)

-- ---- numbers

pub number_printed : (n : ℕ) → n ≤ max_number → number_in (decimal n) ≡ Ok n
number_printed n h =
    let small : n < 2 ^ 64 = omega arith in
    let digits = digits_decimal own n small in
    let value : digits_value 10 (decimal n) ≡ n = digits_value-decimal own n small in
    let lead : (length (decimal n) == 1 || not (get_or (decimal n) 0 0 == 48)) ≡ true = lead_of n small in
    let numeral : is_decimal (decimal n) ≡ true = both_true (both_true (lt-ltb 0 (length (decimal n)) (decimal_nonempty n small)) digits) lead in
    let fits : nat_le (digits_value 10 (decimal n)) max_number ≡ true = rw value (le-leb n max_number h) in
    cond-true _ _ _ (both_true numeral fits) ∙ ap Ok value
  where
    first : (x y : Bool) → y ≡ true → (x || y) ≡ true
    first true y e = refl
    first false y e = e

    lead_of : (n : ℕ) → n < 2 ^ 64 → (length (decimal n) == 1 || not (get_or (decimal n) 0 0 == 48)) ≡ true
    lead_of zero small = rw (decimal_digit 0 (omega arith)) refl
    lead_of (suc n) small =
        let large = first_decimal (suc n) (omega arith) small in
        first (length (decimal (suc n)) == 1) (not (get_or (decimal (suc n)) 0 0 == 48)) (ap not (ne_eqb (get_or (decimal (suc n)) 0 0) 48 (λ e. absurd (omega arith))))

-- ---- texts

text_some : (word : List ℕ) → 0 < length word → text_of word ≡ Ok (percent_decode word)
text_some [] h = absurd (omega arith)
text_some (b ∷ bs) h = refl

pub text_printed : (text : List ℕ) → IsText text → text_of (escaped text) ≡ Ok text
text_printed text h =
    text_some (escaped text) (escaped_some text h.bytes h.some) ∙ ap Ok (decode-escaped text h.bytes)

-- ---- paths

pub record IsNamed (name : List ℕ) : Type 0 where
  pub test : is_name name ≡ true
  pub bytes : AreBytes name
  pub some : 0 < length name

pub named : (name : List ℕ) → is_name name ≡ true → IsNamed name
named name h =
    let a = and_parts _ _ h in
    let b = and_parts _ _ a.0 in
    let d = and_parts _ _ b.0 in
    let e = and_parts _ _ d.0 in
    let f = and_parts _ _ e.0 in
    let g = and_parts _ _ f.0 in
    record { test = h; bytes = AreBytes-from_utf8 name a.1; some = ltb-true 0 (length name) g.0 }

no_slash : (b : ℕ) → is_escape_byte b ≡ true → is_not 47 b ≡ true
no_slash b h = grind (arith, nat_tests)

name_printed : (name : List ℕ) → IsNamed name → name_of (escaped name) ≡ Ok name
name_printed name h = ap if_name (decode-escaped name h.bytes) ∙ cond-true _ _ _ h.test

free_of_slash : (name : List ℕ) → IsNamed name → list_all (is_not 47) (escaped name) ≡ true
free_of_slash name h = weaker is_escape_byte (is_not 47) no_slash (escaped name) (clean name h.bytes)

pieces_printed : (name : List ℕ) (names : List (List ℕ)) → IsNamed name → AllByRecursion (λ name. is_name name ≡ true) names → cut 47 (escaped name ++ names_text names) ≡ escaped name ∷ map escaped names
pieces_printed name [] h hs = ap (cut 47) (append-nil (escaped name)) ∙ cut_free 47 (escaped name) (free_of_slash name h)
pieces_printed name (next ∷ names) h hs =
    cut_next 47 (escaped name) (escaped next ++ names_text names) (free_of_slash name h)
    ∙ ap (λ pieces. escaped name ∷ pieces) (pieces_printed next names (named next hs.0) hs.1)

names_printed : (names : List (List ℕ)) → AllByRecursion (λ name. is_name name ≡ true) names → names_of (map escaped names) ≡ Ok names
names_printed [] hs = refl
names_printed (name ∷ names) hs = rw (name_printed name (named name hs.0), names_printed names hs.1) refl

below_some : (text : List ℕ) → 0 < length text → below_root text ≡ few_names_of (cut 47 text)
below_some [] h = absurd (omega arith)
below_some (b ∷ bs) h = refl

length-map_escaped : (names : List (List ℕ)) → length (map escaped names) ≡ length names
length-map_escaped [] = refl
length-map_escaped (name ∷ names) = ap suc (length-map_escaped names)

pub path_printed : (path : List (List ℕ)) → IsPath path → path_of (path_text path) ≡ Ok path
path_printed [] h = refl
path_printed (name ∷ names) h =
    let first = named name h.names.0 in
    let some : 0 < length (escaped name ++ names_text names) = omega (arith, length-append (escaped name) (names_text names), escaped_some name first.bytes first.some) in
    let pieces = pieces_printed name names first h.names.1 in
    let few : nat_le (length (map escaped (name ∷ names))) 64 ≡ true = rw (length-map_escaped (name ∷ names)) (le-leb (length (name ∷ names)) 64 h.few) in
    below_some _ some ∙ ap few_names_of pieces ∙ cond-true _ _ _ few ∙ names_printed (name ∷ names) h.names

-- ---- words

-- ASCII, and no space
abbrev pub is_word_byte : ℕ → Bool
is_word_byte b = is_ascii b && is_not 32 b

abbrev pub AreWords : List (List ℕ) → Type 0
AreWords words = AllByRecursion (λ word. list_all is_word_byte word ≡ true) words

escape_is_word : (b : ℕ) → is_escape_byte b ≡ true → is_word_byte b ≡ true
escape_is_word b h = grind (arith, nat_tests)

pub digit_is_word : (b : ℕ) → is_ascii_digit b ≡ true → is_word_byte b ≡ true
digit_is_word b h = grind (arith, nat_tests)

pub escaped_word : (bs : List ℕ) → AreBytes bs → list_all is_word_byte (escaped bs) ≡ true
escaped_word bs h = weaker is_escape_byte is_word_byte escape_is_word (escaped bs) (clean bs h)

pub decimal_word : (n : ℕ) → n ≤ max_number → list_all is_word_byte (decimal n) ≡ true
decimal_word n h = weaker is_ascii_digit is_word_byte digit_is_word (decimal n) (digits_decimal own n (omega arith))

names_word : (names : List (List ℕ)) → AllByRecursion (λ name. is_name name ≡ true) names → list_all is_word_byte (names_text names) ≡ true
names_word [] h = refl
names_word (name ∷ names) h =
    list_all-append is_word_byte (escaped name) (names_text names) ∙ both_true (escaped_word name (named name h.0).bytes) (names_word names h.1)

pub path_word : (path : List (List ℕ)) → IsPath path → list_all is_word_byte (path_text path) ≡ true
path_word [] h = refl
path_word (name ∷ names) h = names_word (name ∷ names) h.names

-- ---- lines

pub cut_spaced : (word : List ℕ) (words : List (List ℕ)) → AreWords (word ∷ words) → words_of (spaced (word ∷ words)) ≡ word ∷ words
cut_spaced word [] h = cut_free 32 word (weaker is_word_byte (is_not 32) (λ b e. (and_parts (is_ascii b) (is_not 32 b) e).1) word h.0)
cut_spaced word (next ∷ words) h =
    cut_next 32 word (spaced (next ∷ words)) (weaker is_word_byte (is_not 32) (λ b e. (and_parts (is_ascii b) (is_not 32 b) e).1) word h.0)
    ∙ ap (λ pieces. word ∷ pieces) (cut_spaced next words h.1)

pub ascii_spaced : (word : List ℕ) (words : List (List ℕ)) → AreWords (word ∷ words) → list_all is_ascii (spaced (word ∷ words)) ≡ true
ascii_spaced word [] h = weaker is_word_byte is_ascii (λ b e. (and_parts (is_ascii b) (is_not 32 b) e).0) word h.0
ascii_spaced word (next ∷ words) h =
    list_all-append is_ascii word (32 ∷ spaced (next ∷ words))
    ∙ both_true (weaker is_word_byte is_ascii (λ b e. (and_parts (is_ascii b) (is_not 32 b) e).0) word h.0) (ascii_spaced next words h.1)

-- a line of such words is read by its words
line_spaced : (word : List ℕ) (words : List (List ℕ)) → AreWords (word ∷ words) → line_of (spaced (word ∷ words)) ≡ line_of_words (word ∷ words)
line_spaced word words h = cond-true _ _ _ (ascii_spaced word words h) ∙ ap line_of_words (cut_spaced word words h)

-- a word that does not have the byte `;` is not `;`
pub not_semicolon : (p : ℕ → Bool) (word : List ℕ) → p 59 ≡ false → list_all p word ≡ true → bytes_eq word (codes ";") ≡ false
not_semicolon p [] e h = refl
not_semicolon p (b ∷ bs) e h = by_test (b == 59) refl
  where
    by_test : (t : Bool) → (b == 59) ≡ t → (b == 59 && bytes_eq bs []) ≡ false
    by_test true is =
        let same : b ≡ 59 = eqb-true b 59 is in
        let passes : p 59 ≡ true = subst (λ x. p x ≡ true) same (and_parts (p b) (list_all p bs) h).0 in
        absurd (cc)
    by_test false is = rw is refl

pub path_not_semicolon : (path : List (List ℕ)) → bytes_eq (path_text path) (codes ";") ≡ false
path_not_semicolon [] = refl
path_not_semicolon (name ∷ names) = refl

pub decimal_not_semicolon : (n : ℕ) → n ≤ max_number → bytes_eq (decimal n) (codes ";") ≡ false
decimal_not_semicolon n h = not_semicolon is_ascii_digit (decimal n) refl (digits_decimal own n (omega arith))

pub text_not_semicolon : (text : List ℕ) → AreBytes text → bytes_eq (escaped text) (codes ";") ≡ false
text_not_semicolon text h = not_semicolon is_escape_byte (escaped text) refl (clean text h)

mkdir_printed : (path : List (List ℕ)) → IsPath path → line_of (spaced (step_words (Mkdir path))) ≡ Ok (Single (Mkdir path))
mkdir_printed path h =
    line_spaced (codes "mkdir") (path_text path ∷ []) (refl, (path_word path h, tt)) ∙ rw (path_not_semicolon path, path_printed path h) refl

create_printed : (path : List (List ℕ)) → IsPath path → line_of (spaced (step_words (Create path))) ≡ Ok (Single (Create path))
create_printed path h =
    line_spaced (codes "create") (path_text path ∷ []) (refl, (path_word path h, tt)) ∙ rw (path_not_semicolon path, path_printed path h) refl

write_printed : (path : List (List ℕ)) (at : ℕ) (text : List ℕ) → IsPath path → at ≤ max_number → IsText text → line_of (spaced (step_words (Write path at text))) ≡ Ok (Single (Write path at text))
write_printed path at text h small some =
    line_spaced (codes "write") (path_text path ∷ decimal at ∷ escaped text ∷ []) (refl, (path_word path h, (decimal_word at small, (escaped_word text some.bytes, tt))))
    ∙ rw (path_not_semicolon path, decimal_not_semicolon at small, text_not_semicolon text some.bytes, path_printed path h, number_printed at small, text_printed text some) refl

read_printed : (path : List (List ℕ)) (at count : ℕ) → IsPath path → at ≤ max_number → count ≤ max_number → line_of (spaced (step_words (Read path at count))) ≡ Ok (Single (Read path at count))
read_printed path at count h small few =
    line_spaced (codes "read") (path_text path ∷ decimal at ∷ decimal count ∷ []) (refl, (path_word path h, (decimal_word at small, (decimal_word count few, tt))))
    ∙ rw (path_not_semicolon path, decimal_not_semicolon at small, decimal_not_semicolon count few, path_printed path h, number_printed at small, number_printed count few) refl

list_printed : (path : List (List ℕ)) → IsPath path → line_of (spaced (step_words (ListStep path))) ≡ Ok (Single (ListStep path))
list_printed path h =
    line_spaced (codes "list") (path_text path ∷ []) (refl, (path_word path h, tt)) ∙ rw (path_not_semicolon path, path_printed path h) refl

stat_printed : (path : List (List ℕ)) → IsPath path → line_of (spaced (step_words (StatStep path))) ≡ Ok (Single (StatStep path))
stat_printed path h =
    line_spaced (codes "stat") (path_text path ∷ []) (refl, (path_word path h, tt)) ∙ rw (path_not_semicolon path, path_printed path h) refl

pub line_printed : (line : Line) → LineKeepsRules line → line_of (line_text line) ≡ Ok line
line_printed (Single (Mkdir path)) h = mkdir_printed path h
line_printed (Single (Create path)) h = create_printed path h
line_printed (Single (Write path at text)) h = write_printed path at text h.0 h.1 h.2
line_printed (Single (Read path at count)) h = read_printed path at count h.0 h.1 h.2
line_printed (Single (ListStep path)) h = list_printed path h
line_printed (Single (StatStep path)) h = stat_printed path h
line_printed Sync h = refl
