-- Where no further word is built, the grammar is that of the first steps.
use Rattle.std.proofs.Common.{◌≡◌, ℕ, Bool, true, false, List, [], ◌∷◌, refl, sym, ap, ◌∙◌, cond}
use Rattle.std.specs.Prelude.{Result, Ok, Err, codes}
use Rattle.std.specs.List.{list_all}
use Rattle.std.specs.Char.{is_ascii}
use Rattle.std.specs.Str.{bytes_eq}
use Rattle.std.specs.Cmp.Lexicographic.{same_text}
use Rattle.fx_plain.specs.declared.step.Step.{Step}
use Rattle.fx_steps.specs.declared.step.TreeStep.{TreeStep}
use Rattle.fx_script.specs.declared.fault.LineFault.{LineFault}
use Rattle.fx_script.specs.declared.fault.LineFault.TheVariants as faults
use Rattle.fx_script.specs.Cut.{is_blank, words_of}
use Rattle.fx_script.specs.Line.{has_semicolon, line_of, line_of_words, single_of, step_of, sync_of}
use Rattle.fx_script.specs.Line as script
use Rattle.fx_script.specs.declared.line.Line.{Line}
use Rattle.fx_script.specs.declared.line.Line.TheVariants as lines
use Rattle.fx_words.specs.declared.fault.WordFault.{WordFault}
use Rattle.fx_words.specs.declared.line.FullLine.TheVariants.{Single, Sync}
use Rattle.fx_words.specs.Lines.{◌>>=◌, as_basic, as_full, basic_fault, full_line_of, full_line_of_words, full_step_of, lone_line, lone_word, none_built}

-- a step that is a line of its own
abbrev single_after : Result Step LineFault → Result Line LineFault
single_after found = script.◌>>=◌ found (λ step. Ok (lines.Single step))

-- a test for a word that no first step begins with changes nothing
passed : (word literal : List ℕ) (rest : List (List ℕ)) (x : Result TreeStep WordFault) → x ≡ as_basic (step_of (word ∷ rest)) → as_basic (step_of (literal ∷ rest)) ≡ basic_fault faults.UnknownWord
    → (b : Bool) → bytes_eq word literal ≡ b → cond b (basic_fault faults.UnknownWord) x ≡ as_basic (step_of (word ∷ rest))
passed word literal rest x is unknown true e = sym unknown ∙ ap (λ w. as_basic (step_of (w ∷ rest))) (sym (same_text word literal (sym e)))
passed word literal rest x is unknown false e = is

first_step : (word : List ℕ) (rest : List (List ℕ)) → full_step_of none_built (word ∷ rest) ≡ as_basic (step_of (word ∷ rest))
first_step word rest =
    passed word (codes "trunc") rest _ (
    passed word (codes "rm") rest _ (
    passed word (codes "mv") rest _ (
    passed word (codes "setattr") rest _ (
    passed word (codes "delattr") rest _ (
    passed word (codes "attr") rest _ refl refl (bytes_eq word (codes "attr")) refl)
    refl (bytes_eq word (codes "delattr")) refl)
    refl (bytes_eq word (codes "setattr")) refl)
    refl (bytes_eq word (codes "mv")) refl)
    refl (bytes_eq word (codes "rm")) refl)
    refl (bytes_eq word (codes "trunc")) refl

sync_is : (rest : List (List ℕ)) → lone_word Sync rest ≡ as_full (sync_of rest)
sync_is [] = refl
sync_is (word ∷ rest) = refl

step_is : (found : Result Step LineFault) → (as_basic found >>= λ step. Ok (Single step)) ≡ as_full (single_after found)
step_is (Ok step) = refl
step_is (Err fault) = refl

alone_is : (words : List (List ℕ)) → lone_line none_built words ≡ as_full (single_of words)
alone_is [] = refl
alone_is (word ∷ rest) = by (bytes_eq word (codes "sync"))
  where
    by : (b : Bool) → cond b (lone_word Sync rest) (full_step_of none_built (word ∷ rest) >>= λ step. Ok (Single step)) ≡ as_full (cond b (sync_of rest) (single_after (step_of (word ∷ rest))))
    by true = sync_is rest
    by false = ap (λ found. found >>= λ step. Ok (Single step)) (first_step word rest) ∙ step_is (step_of (word ∷ rest))

words_are : (words : List (List ℕ)) → full_line_of_words none_built words ≡ as_full (line_of_words words)
words_are words = by (is_blank words) (has_semicolon words)
  where
    by : (b s : Bool) → cond b (basic_fault faults.Empty) (cond s (basic_fault faults.UnknownWord) (lone_line none_built words)) ≡ as_full (cond b (Err faults.Empty) (cond s (Err faults.UnknownWord) (single_of words)))
    by true s = refl
    by false true = refl
    by false false = alone_is words

pub first_lines : (line : List ℕ) → full_line_of none_built line ≡ as_full (line_of line)
first_lines line = by (list_all is_ascii line)
  where
    by : (b : Bool) → cond b (full_line_of_words none_built (words_of line)) (basic_fault faults.NotAscii) ≡ as_full (cond b (line_of_words (words_of line)) (Err faults.NotAscii))
    by true = words_are (words_of line)
    by false = refl
