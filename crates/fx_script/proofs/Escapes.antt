-- What is escaped is that of a percent-encoding with a set of its own, and is decoded again.
use Rattle.std.proofs.Common.{◌≡◌, ℕ, zero, suc, ◌<◌, Bool, true, ◌&&◌, ◌||◌, ◌==◌, List, [], ◌∷◌, ◌++◌, length, refl, sym, ap, ◌∙◌}
use Rattle.std.specs.List.{list_all}
use Rattle.std.specs.Str.{bytes_eq}
use Rattle.std.proofs.lemmas.Bool.{agree_below, agree_below_at}
use Rattle.std.specs.Cmp.Derive.{both_true}
use Rattle.std.proofs.lemmas.Bool.Decides.{Decides-below_and}
use Rattle.std.proofs.lemmas.Slice.Eq.{bytes_eq-Decides}
use Rattle.std.proofs.lemmas.List.Folds.{list_all-append}
use Rattle.std.proofs.lemmas.List.Elements.{All-from_recursion}
use Rattle.percent_encoding.specs.AsciiSet.{should_percent_encode}
use Rattle.percent_encoding.specs.Percent.{percent_encode_byte, encode_byte, percent_encode, percent_decode}
use Rattle.percent_encoding.proofs.PercentLemmas.{round_trip, percent_encode_nonempty}
use Rattle.fx_script.specs.declared.escape.TheConstants.{ESCAPED}
use Rattle.fx_script.specs.Escape.{is_plain, escaped_byte, escaped}
use Rattle.fx_script.proofs.Utf8.{IsByte, AreBytes}

abbrev same_below : ℕ → Bool
same_below zero = true
same_below (suc n) = bytes_eq (encode_byte ESCAPED n) (escaped_byte n) && same_below n

-- byte by byte
same_checked : same_below 256 ≡ true
unfolding should_percent_encode percent_encode_byte
same_checked = refl

same_byte : (b : ℕ) → b < 256 → encode_byte ESCAPED b ≡ escaped_byte b
same_byte =
    (Decides-below_and (λ b. bytes_eq (encode_byte ESCAPED b) (escaped_byte b)) (λ b. encode_byte ESCAPED b ≡ escaped_byte b) same_below (λ b. bytes_eq-Decides _ _) refl (λ _. refl) 256).0 same_checked

pub escaped_by_set : (bs : List ℕ) → AreBytes bs → percent_encode ESCAPED bs ≡ escaped bs
unfolding percent_encode
escaped_by_set [] h = refl
escaped_by_set (b ∷ bs) h = ap (λ x. x ++ percent_encode ESCAPED bs) (same_byte b h.0) ∙ ap (λ x. escaped_byte b ++ x) (escaped_by_set bs h.1)

-- what is escaped is decoded again
pub decode-escaped : (bs : List ℕ) → AreBytes bs → percent_decode (escaped bs) ≡ bs
decode-escaped bs h =
    ap percent_decode (sym (escaped_by_set bs h)) ∙ round_trip ESCAPED bs refl (All-from_recursion IsByte bs h)

pub escaped_some : (bs : List ℕ) → AreBytes bs → 0 < length bs → 0 < length (escaped bs)
escaped_some bs h some = rw (← escaped_by_set bs h) (percent_encode_nonempty ESCAPED bs some)

-- the bytes that stand in what is escaped
abbrev pub is_escape_byte : ℕ → Bool
is_escape_byte b = is_plain b || b == 37

clean_checked : agree_below (λ b. list_all is_escape_byte (escaped_byte b)) (λ _. true) 256 ≡ true
clean_checked = refl

clean_byte : (b : ℕ) → b < 256 → list_all is_escape_byte (escaped_byte b) ≡ true
clean_byte b h = agree_below_at (λ b. list_all is_escape_byte (escaped_byte b)) (λ _. true) 256 b clean_checked h

pub clean : (bs : List ℕ) → AreBytes bs → list_all is_escape_byte (escaped bs) ≡ true
clean [] h = refl
clean (b ∷ bs) h = list_all-append is_escape_byte (escaped_byte b) (escaped bs) ∙ both_true (clean_byte b h.0) (clean bs h.1)
