-- A printed line of all words is read as that line.
use Rattle.std.proofs.Common.{◌≡◌, ℕ, ◌<◌, Bool, true, false, cond, ◌||◌, List, [], ◌∷◌, ◌++◌, map, length, refl, sym, ap, ◌∙◌, arith}
use Rattle.std.specs.Prelude.{Result, Ok, codes, nat_le}
use Rattle.std.specs.List.{AllByRecursion}
use Rattle.std.specs.Str.{bytes_eq}
use Rattle.std.specs.Cmp.Derive.{both_true}
use Rattle.std.proofs.lemmas.Bool.{cond-true, cond-false, le-leb, lt-ltb}
use Rattle.std.proofs.lemmas.List.{append_assoc, append-nil}
use Rattle.fx_item.specs.Name.{is_name}
use Rattle.fx_plain.specs.declared.step.Step.{Step}
use Rattle.fx_plain.specs.declared.step.Step.TheVariants as basic
use Rattle.fx_steps.specs.declared.step.TreeStep.{TreeStep}
use Rattle.fx_steps.specs.declared.step.TreeStep.TheVariants.{Basic, Truncate, Remove, Rename, SetAttr, DelAttr, GetAttr}
use Rattle.fx_steps.specs.Rows.{is_look}
use Rattle.fx_script.specs.Cut.{is_blank}
use Rattle.fx_script.specs.Line.{has_semicolon}
use Rattle.fx_script.specs.Escape.{escaped}
use Rattle.fx_script.specs.Print.{StepKeepsRules, spaced, step_words}
use Rattle.fx_script.proofs.Escapes.{decode-escaped}
use Rattle.fx_script.proofs.Prints.{AreWords, ascii_spaced, cut_spaced, decimal_not_semicolon, decimal_word, escaped_word, named, number_printed, path_not_semicolon, path_printed, path_word, text_not_semicolon, text_printed}
use Rattle.fx_words.specs.declared.fault.WordFault.{WordFault}
use Rattle.fx_words.specs.declared.line.FullLine.{FullLine}
use Rattle.fx_words.specs.declared.line.FullLine.TheVariants.{Single, Group, Sync, Compact}
use Rattle.fx_words.specs.declared.line.TheConstants.{MAX_STEPS, MAX_VALUE}
use Rattle.fx_words.specs.Lines.{◌>>=◌, all_built, cut_parts, full_line_of, full_line_of_words, full_step_of, group_step_of, group_steps_of, if_few, lone_line, name_word, onto_part, value_word}
use Rattle.fx_words.specs.FullText.{FullLineKeepsRules, FullStepKeepsRules, GroupStepKeepsRules, IsGroup, IsValue, full_line_text, full_step_words, group_words}

-- ---- one step

abbrev is_semicolon : List ℕ → Bool
is_semicolon word = bytes_eq word (codes ";")

abbrev pub HaveNone : List (List ℕ) → Type 0
HaveNone words = AllByRecursion (λ word. is_semicolon word ≡ false) words

pub record Printed (step : TreeStep) : Type 0 where
  pub words : AreWords (full_step_words step)
  pub none : HaveNone (full_step_words step)
  pub reads : full_step_of all_built (full_step_words step) ≡ Ok step

name_printed : (name : List ℕ) → is_name name ≡ true → name_word (escaped name) ≡ Ok name
name_printed name h = rw (decode-escaped name (named name h).bytes) (cond-true _ _ _ h)

value_printed : (value : List ℕ) → IsValue value → value_word (escaped value) ≡ Ok value
value_printed value h =
    rw (decode-escaped value h.bytes)
    (cond-true _ _ _ (both_true (lt-ltb 0 (length value) h.some) (le-leb (length value) MAX_VALUE h.few)))

basic_printed : (step : Step) → StepKeepsRules step → Printed (Basic step)
basic_printed (basic.Mkdir path) h = record { words = (refl, (path_word path h, tt)); none = (refl, (path_not_semicolon path, tt)); reads = rw (path_printed path h) refl }
basic_printed (basic.Create path) h = record { words = (refl, (path_word path h, tt)); none = (refl, (path_not_semicolon path, tt)); reads = rw (path_printed path h) refl }
basic_printed (basic.Write path at text) h = record {
  words = (refl, (path_word path h.0, (decimal_word at h.1, (escaped_word text h.2.bytes, tt))));
  none = (refl, (path_not_semicolon path, (decimal_not_semicolon at h.1, (text_not_semicolon text h.2.bytes, tt))));
  reads = rw (path_printed path h.0, number_printed at h.1, text_printed text h.2) refl;
}
basic_printed (basic.Read path at count) h = record {
  words = (refl, (path_word path h.0, (decimal_word at h.1, (decimal_word count h.2, tt))));
  none = (refl, (path_not_semicolon path, (decimal_not_semicolon at h.1, (decimal_not_semicolon count h.2, tt))));
  reads = rw (path_printed path h.0, number_printed at h.1, number_printed count h.2) refl;
}
basic_printed (basic.List path) h = record { words = (refl, (path_word path h, tt)); none = (refl, (path_not_semicolon path, tt)); reads = rw (path_printed path h) refl }
basic_printed (basic.Stat path) h = record { words = (refl, (path_word path h, tt)); none = (refl, (path_not_semicolon path, tt)); reads = rw (path_printed path h) refl }

pub step_printed : (step : TreeStep) → FullStepKeepsRules step → Printed step
step_printed (Basic step) h = basic_printed step h
step_printed (Truncate path size) h = record {
  words = (refl, (path_word path h.0, (decimal_word size h.1, tt)));
  none = (refl, (path_not_semicolon path, (decimal_not_semicolon size h.1, tt)));
  reads = rw (path_printed path h.0, number_printed size h.1) refl;
}
step_printed (Remove path) h = record { words = (refl, (path_word path h, tt)); none = (refl, (path_not_semicolon path, tt)); reads = rw (path_printed path h) refl }
step_printed (Rename from to) h = record {
  words = (refl, (path_word from h.0, (path_word to h.1, tt)));
  none = (refl, (path_not_semicolon from, (path_not_semicolon to, tt)));
  reads = rw (path_printed from h.0, path_printed to h.1) refl;
}
step_printed (SetAttr path name value) h =
    let bytes = (named name h.1).bytes in
    record {
      words = (refl, (path_word path h.0, (escaped_word name bytes, (escaped_word value h.2.bytes, tt))));
      none = (refl, (path_not_semicolon path, (text_not_semicolon name bytes, (text_not_semicolon value h.2.bytes, tt))));
      reads = rw (path_printed path h.0, name_printed name h.1, value_printed value h.2) refl;
    }
step_printed (DelAttr path name) h =
    let bytes = (named name h.1).bytes in
    record {
      words = (refl, (path_word path h.0, (escaped_word name bytes, tt)));
      none = (refl, (path_not_semicolon path, (text_not_semicolon name bytes, tt)));
      reads = rw (path_printed path h.0, name_printed name h.1) refl;
    }
step_printed (GetAttr path name) h =
    let bytes = (named name h.1).bytes in
    record {
      words = (refl, (path_word path h.0, (escaped_word name bytes, tt)));
      none = (refl, (path_not_semicolon path, (text_not_semicolon name bytes, tt)));
      reads = rw (path_printed path h.0, name_printed name h.1) refl;
    }

-- what the first word of a step is not
pub record Begins (step : TreeStep) : Type 0 where
  pub some : 0 < length (full_step_words step)
  pub blank : is_blank (full_step_words step) ≡ false
  pub lone : lone_line all_built (full_step_words step) ≡ (full_step_of all_built (full_step_words step) >>= λ step. Ok (Single step))

basic_begins : (step : Step) → Begins (Basic step)
basic_begins (basic.Mkdir path) = record { some = omega arith; blank = refl; lone = refl }
basic_begins (basic.Create path) = record { some = omega arith; blank = refl; lone = refl }
basic_begins (basic.Write path at text) = record { some = omega arith; blank = refl; lone = refl }
basic_begins (basic.Read path at count) = record { some = omega arith; blank = refl; lone = refl }
basic_begins (basic.List path) = record { some = omega arith; blank = refl; lone = refl }
basic_begins (basic.Stat path) = record { some = omega arith; blank = refl; lone = refl }

pub begins : (step : TreeStep) → Begins step
begins (Basic step) = basic_begins step
begins (Truncate path size) = record { some = omega arith; blank = refl; lone = refl }
begins (Remove path) = record { some = omega arith; blank = refl; lone = refl }
begins (Rename from to) = record { some = omega arith; blank = refl; lone = refl }
begins (SetAttr path name value) = record { some = omega arith; blank = refl; lone = refl }
begins (DelAttr path name) = record { some = omega arith; blank = refl; lone = refl }
begins (GetAttr path name) = record { some = omega arith; blank = refl; lone = refl }

basic_changes : (step : Step) → is_look (Basic step) ≡ false → group_step_of all_built (step_words step) ≡ full_step_of all_built (step_words step)
basic_changes (basic.Mkdir path) e = refl
basic_changes (basic.Create path) e = refl
basic_changes (basic.Write path at text) e = refl
basic_changes (basic.Read path at count) e = absurd (cc (e))
basic_changes (basic.List path) e = absurd (cc (e))
basic_changes (basic.Stat path) e = absurd (cc (e))

-- a step that changes the tree may be part of a group
changes : (step : TreeStep) → is_look step ≡ false → group_step_of all_built (full_step_words step) ≡ full_step_of all_built (full_step_words step)
changes (Basic step) e = basic_changes step e
changes (Truncate path size) e = refl
changes (Remove path) e = refl
changes (Rename from to) e = refl
changes (SetAttr path name value) e = refl
changes (DelAttr path name) e = refl
changes (GetAttr path name) e = absurd (cc (e))

-- ---- words of several steps

all_append : (p : List ℕ → Type 0) (xs ys : List (List ℕ)) → AllByRecursion p xs → AllByRecursion p ys → AllByRecursion p (xs ++ ys)
all_append p [] ys h k = k
all_append p (x ∷ xs) ys h k = (h.0, all_append p xs ys h.1 k)

blank_append : (xs ys : List (List ℕ)) → is_blank xs ≡ false → is_blank (xs ++ ys) ≡ false
blank_append [] ys e = absurd (cc (e))
blank_append ([] ∷ []) ys e = absurd (cc (e))
blank_append ([] ∷ x ∷ xs) ys e = refl
blank_append ((b ∷ bs) ∷ xs) ys e = refl

found_append : (xs ys : List (List ℕ)) → has_semicolon (xs ++ codes ";" ∷ ys) ≡ true
found_append [] ys = refl
found_append (x ∷ xs) ys = by (is_semicolon x) (found_append xs ys)
  where
    by : (t : Bool) → has_semicolon (xs ++ codes ";" ∷ ys) ≡ true → (t || has_semicolon (xs ++ codes ";" ∷ ys)) ≡ true
    by true e = refl
    by false e = e

none_found : (xs : List (List ℕ)) → HaveNone xs → has_semicolon xs ≡ false
none_found [] h = refl
none_found (x ∷ xs) h = ap (λ t. t || has_semicolon xs) h.0 ∙ none_found xs h.1

part_on : (x : List ℕ) (xs : List (List ℕ)) → is_semicolon x ≡ false → cut_parts (x ∷ xs) ≡ onto_part x (cut_parts xs)
part_on x xs e = ap (λ t. cond t ([] ∷ cut_parts xs) (onto_part x (cut_parts xs))) e

one_part : (xs : List (List ℕ)) → HaveNone xs → cut_parts xs ≡ xs ∷ []
one_part [] h = refl
one_part (x ∷ xs) h = part_on x xs h.0 ∙ ap (onto_part x) (one_part xs h.1)

next_part : (xs ys : List (List ℕ)) → HaveNone xs → cut_parts (xs ++ codes ";" ∷ ys) ≡ xs ∷ cut_parts ys
next_part [] ys h = refl
next_part (x ∷ xs) ys h = part_on x (xs ++ codes ";" ∷ ys) h.0 ∙ ap (onto_part x) (next_part xs ys h.1)

-- ---- groups

abbrev AllGrouped : List TreeStep → Type 0
AllGrouped steps = AllByRecursion GroupStepKeepsRules steps

group_parts : (step : TreeStep) (steps : List TreeStep) → AllGrouped (step ∷ steps) → cut_parts (group_words (step ∷ steps)) ≡ map full_step_words (step ∷ steps)
group_parts step [] h = one_part (full_step_words step) (step_printed step h.0.0).none
group_parts step (next ∷ steps) h =
    next_part (full_step_words step) (group_words (next ∷ steps)) (step_printed step h.0.0).none
    ∙ ap (λ parts. full_step_words step ∷ parts) (group_parts next steps h.1)

group_reads : (steps : List TreeStep) → AllGrouped steps → group_steps_of all_built (map full_step_words steps) ≡ Ok steps
group_reads [] h = refl
group_reads (step ∷ steps) h =
    let one : group_step_of all_built (full_step_words step) ≡ Ok step = changes step h.0.1 ∙ (step_printed step h.0.0).reads in
    ap (λ found. found >>= λ step. group_steps_of all_built (map full_step_words steps) >>= λ steps. Ok (step ∷ steps)) one
    ∙ ap (λ (found : Result (List TreeStep) WordFault). found >>= λ steps. Ok (step ∷ steps)) (group_reads steps h.1)

group_are_words : (step : TreeStep) (steps : List TreeStep) → AllGrouped (step ∷ steps) → AreWords (group_words (step ∷ steps))
group_are_words step [] h = (step_printed step h.0.0).words
group_are_words step (next ∷ steps) h =
    all_append _ (full_step_words step) (codes ";" ∷ group_words (next ∷ steps)) (step_printed step h.0.0).words (refl, group_are_words next steps h.1)

-- ---- lines

full_spaced : (words : List (List ℕ)) → 0 < length words → AreWords words → full_line_of all_built (spaced words) ≡ full_line_of_words all_built words
full_spaced [] some h = absurd (omega (arith, some))
full_spaced (word ∷ words) some h =
    cond-true _ _ _ (ascii_spaced word words h) ∙ ap (full_line_of_words all_built) (cut_spaced word words h)

single_printed : (step : TreeStep) → FullStepKeepsRules step → full_line_of all_built (full_line_text (Single step)) ≡ Ok (Single step)
single_printed step h =
    let printed = step_printed step h in
    let begun = begins step in
    full_spaced (full_step_words step) begun.some printed.words
    ∙ cond-false _ _ _ begun.blank
    ∙ cond-false _ _ _ (none_found (full_step_words step) printed.none)
    ∙ begun.lone
    ∙ ap (λ (found : Result TreeStep WordFault). found >>= λ step. Ok (Single step)) printed.reads

some_append : (xs ys : List (List ℕ)) → 0 < length xs → 0 < length (xs ++ ys)
some_append [] ys some = absurd (omega (arith, some))
some_append (x ∷ xs) ys some = omega arith

group_printed : (steps : List TreeStep) → IsGroup steps → full_line_of all_built (full_line_text (Group steps)) ≡ Ok (Group steps)
group_printed [] h = absurd (omega (arith, h.some))
group_printed (step ∷ []) h = absurd (omega (arith, h.some))
group_printed (step ∷ next ∷ steps) h =
    let begun = begins step in
    let behind = codes ";" ∷ group_words (next ∷ steps) in
    let few : nat_le (length (step ∷ next ∷ steps)) MAX_STEPS ≡ true = le-leb (length (step ∷ next ∷ steps)) MAX_STEPS h.few in
    full_spaced (full_step_words step ++ behind) (some_append (full_step_words step) behind begun.some) (group_are_words step (next ∷ steps) h.each)
    ∙ cond-false _ _ _ (blank_append (full_step_words step) behind begun.blank)
    ∙ cond-true _ _ _ (found_append (full_step_words step) (group_words (next ∷ steps)))
    ∙ ap (λ parts. group_steps_of all_built parts >>= λ steps. if_few steps) (group_parts step (next ∷ steps) h.each)
    ∙ ap (λ (found : Result (List TreeStep) WordFault). found >>= λ steps. if_few steps) (group_reads (step ∷ next ∷ steps) h.each)
    ∙ cond-true _ _ _ few

pub full_line_printed : (line : FullLine) → FullLineKeepsRules line → full_line_of all_built (full_line_text line) ≡ Ok line
full_line_printed (Single step) h = single_printed step h
full_line_printed (Group steps) h = group_printed steps h
full_line_printed Sync h = refl
full_line_printed Compact h = refl

-- ---- the text of a group

-- the steps behind the first, as they are written
abbrev pub behind_text : List TreeStep → List ℕ
behind_text [] = []
behind_text (step ∷ steps) = codes " ; " ++ (spaced (full_step_words step) ++ behind_text steps)

spaced_both : (xs ys : List (List ℕ)) → 0 < length xs → 0 < length ys → spaced (xs ++ ys) ≡ spaced xs ++ 32 ∷ spaced ys
spaced_both [] ys some more = absurd (omega (arith, some))
spaced_both (x ∷ []) [] some more = absurd (omega (arith, more))
spaced_both (x ∷ []) (y ∷ ys) some more = refl
spaced_both (x ∷ next ∷ xs) ys some more =
    ap (λ t. x ++ 32 ∷ t) (spaced_both (next ∷ xs) ys (omega arith) more) ∙ sym (append_assoc x (32 ∷ spaced (next ∷ xs)) (32 ∷ spaced ys))

group_some : (step : TreeStep) (steps : List TreeStep) → 0 < length (group_words (step ∷ steps))
group_some step [] = (begins step).some
group_some step (next ∷ steps) = some_append (full_step_words step) (codes ";" ∷ group_words (next ∷ steps)) (begins step).some

pub group_text : (step : TreeStep) (steps : List TreeStep) → spaced (group_words (step ∷ steps)) ≡ spaced (full_step_words step) ++ behind_text steps
group_text step [] = sym (append-nil (spaced (full_step_words step)))
group_text step (next ∷ steps) =
    spaced_both (full_step_words step) (codes ";" ∷ group_words (next ∷ steps)) (begins step).some (omega arith)
    ∙ ap (λ t. spaced (full_step_words step) ++ 32 ∷ t) (spaced_both (codes ";" ∷ []) (group_words (next ∷ steps)) (omega arith) (group_some next steps))
    ∙ ap (λ t. spaced (full_step_words step) ++ (codes " ; " ++ t)) (group_text next steps)
