-- The bytes of UTF-8 are bytes.
use Rattle.std.proofs.Common.{◌≡◌, ℕ, ◌+◌, ◌/◌, ◌<◌, true, cond, ltb, List, [], ◌∷◌, ◌++◌, subst, ⊎_elim, arith}
use Rattle.std.specs.List.{AllByRecursion}
use Rattle.std.specs.Str.{is_utf8}
use Rattle.std.proofs.lemmas.Bool.{cond_both, and_parts, ltb-true}
use Rattle.std.proofs.lemmas.Str.{IsUtf8-from_is_utf8}
use lib.Utf8.{scalar, scalars, encode, encodes, next, scalar_cases}

abbrev pub IsByte : ℕ → Type 0
IsByte b = b < 256

abbrev pub AreBytes : List ℕ → Type 0
AreBytes bs = AllByRecursion IsByte bs

pub AreBytes-append : (xs ys : List ℕ) → AreBytes xs → AreBytes ys → AreBytes (xs ++ ys)
AreBytes-append [] ys h k = k
AreBytes-append (x ∷ xs) ys h k = (h.0, AreBytes-append xs ys h.1 k)

small_scalar : (c : ℕ) → scalar c ≡ true → c < 1114112
small_scalar c h = ⊎_elim (λ low. omega arith) (λ high. high.1) (scalar_cases c h)

encode_bytes : (c : ℕ) → c < 1114112 → AreBytes (encode c)
unfolding encode
encode_bytes c h =
    let one = c ∷ [] in
    let two = (192 + c / 64) ∷ next c ∷ [] in
    let three = (224 + c / 4096) ∷ next (c / 64) ∷ next c ∷ [] in
    let four = (240 + c / 262144) ∷ next (c / 4096) ∷ next (c / 64) ∷ next c ∷ [] in
    cond_both (ltb c 128) one (cond (ltb c 2048) two (cond (ltb c 65536) three four)) AreBytes (λ e. let k = ltb-true c 128 e in (omega arith, tt))
    (λ _. cond_both (ltb c 2048) two (cond (ltb c 65536) three four) AreBytes (λ e. let k = ltb-true c 2048 e in (omega arith, (omega arith, tt)))
    (λ _. cond_both (ltb c 65536) three four AreBytes (λ e. let k = ltb-true c 65536 e in (omega arith, (omega arith, (omega arith, tt))))
    (λ _. (omega arith, (omega arith, (omega arith, (omega arith, tt)))))))

encodes_bytes : (cs : List ℕ) → scalars cs ≡ true → AreBytes (encodes cs)
encodes_bytes [] h = tt
encodes_bytes (c ∷ cs) h =
    let parts = and_parts (scalar c) (scalars cs) h in
    AreBytes-append (encode c) (encodes cs) (encode_bytes c (small_scalar c parts.0)) (encodes_bytes cs parts.1)

pub AreBytes-from_utf8 : (bs : List ℕ) → is_utf8 bs ≡ true → AreBytes bs
AreBytes-from_utf8 bs h =
    let text = IsUtf8-from_is_utf8 bs h in
    subst AreBytes text.1.1 (encodes_bytes text.0 text.1.0)
