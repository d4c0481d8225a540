-- Where a text is cut.
use Rattle.std.proofs.Common.{◌≡◌, ◌≢◌, ℕ, zero, suc, ◌<◌, ◌==◌, Bool, true, false, cond, List, [], ◌∷◌, ◌++◌, length, get_or, take, drop, refl, sym, ap, ◌∙◌, arith}
use Rattle.std.proofs.lemmas.Bool.{eq-eqb, ne_eqb}
use Rattle.fx_script.specs.Cut.{onto_first, cut, is_blank, without_last_empty, lines_of}

cut-cons : (at b : ℕ) (bs : List ℕ) (t : Bool) → (b == at) ≡ t → cut at (b ∷ bs) ≡ cond t ([] ∷ cut at bs) (onto_first b (cut at bs))
cut-cons at b bs t e = ap (λ t. cond t ([] ∷ cut at bs) (onto_first b (cut at bs))) e

-- the first piece ends at the first separator
pub cut_at : (at : ℕ) (text : List ℕ) (i : ℕ) → i < length text → get_or text i 0 ≡ at → ((k : ℕ) → k < i → get_or text k 0 ≢ at) → cut at text ≡ take i text ∷ cut at (drop (suc i) text)
cut_at at [] i inside here before = absurd (omega arith)
cut_at at (b ∷ bs) zero inside here before = cut-cons at b bs true (eq-eqb b at here)
cut_at at (b ∷ bs) (suc i) inside here before =
    cut-cons at b bs false (ne_eqb b at (before 0 (omega arith)))
    ∙ ap (onto_first b) (cut_at at bs i (omega arith) here (λ k below. before (suc k) (omega arith)))

-- a text without the separator is one piece
pub cut_whole : (at : ℕ) (text : List ℕ) → ((k : ℕ) → k < length text → get_or text k 0 ≢ at) → cut at text ≡ text ∷ []
cut_whole at [] none = refl
cut_whole at (b ∷ bs) none =
    cut-cons at b bs false (ne_eqb b at (none 0 (omega arith)))
    ∙ ap (onto_first b) (cut_whole at bs (λ k below. none (suc k) (omega arith)))

-- there is a first piece
pub first_piece : (at : ℕ) (text : List ℕ) → (piece : List ℕ) × (pieces : List (List ℕ)) × (cut at text ≡ piece ∷ pieces)
first_piece at [] = ([], [], refl)
first_piece at (b ∷ bs) = by_test (b == at) (first_piece at bs)
  where
    by_test : (t : Bool) → (piece : List ℕ) × (pieces : List (List ℕ)) × (cut at bs ≡ piece ∷ pieces) → (piece : List ℕ) × (pieces : List (List ℕ)) × (cond t ([] ∷ cut at bs) (onto_first b (cut at bs)) ≡ piece ∷ pieces)
    by_test true first = ([], cut at bs, refl)
    by_test false first = (b ∷ first.0, first.1, ap (onto_first b) first.2)

-- only an empty text is blank
pub is_blank-cut : (at : ℕ) (text : List ℕ) → (length text == 0) ≡ is_blank (cut at text)
is_blank-cut at [] = refl
is_blank-cut at (b ∷ bs) = ne_eqb (suc (length bs)) 0 (λ e. absurd (omega arith)) ∙ by_test (b == at)
  where
    by_test : (t : Bool) → false ≡ is_blank (cond t ([] ∷ cut at bs) (onto_first b (cut at bs)))
    by_test true = ap (λ pieces. is_blank ([] ∷ pieces)) (sym (first_piece at bs).2)
    by_test false = ap (λ pieces. is_blank (onto_first b pieces)) (sym (first_piece at bs).2)

onto_first-append : (b : ℕ) (pieces more : List (List ℕ)) (piece : List ℕ) → onto_first b ((piece ∷ pieces) ++ more) ≡ onto_first b (piece ∷ pieces) ++ more
onto_first-append b pieces more piece = refl

-- a separator at the end adds an empty piece
cut_ended : (at : ℕ) (text : List ℕ) → cut at (text ++ at ∷ []) ≡ cut at text ++ [] ∷ []
cut_ended at [] = cut-cons at at [] true (eq-eqb at at refl)
cut_ended at (b ∷ bs) = by_test (b == at) (cut_ended at bs)
  where
    by_test : (t : Bool) → cut at (bs ++ at ∷ []) ≡ cut at bs ++ [] ∷ [] → cond t ([] ∷ cut at (bs ++ at ∷ [])) (onto_first b (cut at (bs ++ at ∷ []))) ≡ cond t ([] ∷ cut at bs) (onto_first b (cut at bs)) ++ [] ∷ []
    by_test true later = ap (λ pieces. [] ∷ pieces) later
    by_test false later =
        let first = first_piece at bs in
        ap (onto_first b) later ∙ ap (λ pieces. onto_first b (pieces ++ [] ∷ [])) first.2 ∙ ap (λ pieces. onto_first b pieces ++ [] ∷ []) (sym first.2)

without_empty_end : (pieces : List (List ℕ)) → without_last_empty (pieces ++ [] ∷ []) ≡ pieces
without_empty_end [] = refl
without_empty_end (piece ∷ []) = refl
without_empty_end (piece ∷ next ∷ pieces) = ap (λ pieces. piece ∷ pieces) (without_empty_end (next ∷ pieces))

-- a script that ends in a line feed
pub lines_ended : (text : List ℕ) → lines_of (text ++ 10 ∷ []) ≡ cut 10 text
lines_ended text = ap without_last_empty (cut_ended 10 text) ∙ without_empty_end (cut 10 text)

-- the last piece of a text that does not end in the separator is not empty
kept_end : (at : ℕ) (text : List ℕ) (b : ℕ) → (b == at) ≡ false → without_last_empty (cut at (text ++ b ∷ [])) ≡ cut at (text ++ b ∷ [])
kept_end at [] b e = ap without_last_empty (cut-cons at b [] false e) ∙ sym (cut-cons at b [] false e)
kept_end at (a ∷ rest) b e = by_test (a == at) (kept_end at rest b e)
  where
    two : (piece : List ℕ) (pieces : List (List ℕ)) → (first : List ℕ) × (more : List (List ℕ)) × (pieces ≡ first ∷ more) → without_last_empty pieces ≡ pieces → without_last_empty (piece ∷ pieces) ≡ piece ∷ pieces
    two piece [] first kept = absurd (cc first.2)
    two piece (next ∷ pieces) first kept = ap (λ pieces. piece ∷ pieces) kept

    onto : (pieces : List (List ℕ)) → without_last_empty pieces ≡ pieces → without_last_empty (onto_first a pieces) ≡ onto_first a pieces
    onto [] kept = refl
    onto (piece ∷ []) kept = refl
    onto (piece ∷ next ∷ pieces) kept = ap (λ pieces. (a ∷ piece) ∷ pieces) (cc kept)

    by_test : (t : Bool) → without_last_empty (cut at (rest ++ b ∷ [])) ≡ cut at (rest ++ b ∷ []) → without_last_empty (cond t ([] ∷ cut at (rest ++ b ∷ [])) (onto_first a (cut at (rest ++ b ∷ [])))) ≡ cond t ([] ∷ cut at (rest ++ b ∷ [])) (onto_first a (cut at (rest ++ b ∷ [])))
    by_test true later = two [] _ (first_piece at (rest ++ b ∷ [])) later
    by_test false later = onto _ later

-- a script that does not
pub lines_open : (text : List ℕ) (b : ℕ) → b ≢ 10 → lines_of (text ++ b ∷ []) ≡ cut 10 (text ++ b ∷ [])
lines_open text b h = kept_end 10 text b (ne_eqb b 10 h)

pub no_lines : (text : List ℕ) → length text ≡ 0 → [] ≡ lines_of text
no_lines [] h = refl
no_lines (b ∷ bs) h = absurd (omega arith)

-- the same of a script by its last byte
pub lines_of_ended : (script ended : List ℕ) (last : ℕ) → script ≡ ended ++ last ∷ [] → last ≡ 10 → cut 10 ended ≡ lines_of script
lines_of_ended script ended last is e = sym (ap (λ b. lines_of (ended ++ b ∷ [])) e ∙ lines_ended ended) ∙ ap lines_of (sym is)

pub lines_of_open : (script ended : List ℕ) (last : ℕ) → script ≡ ended ++ last ∷ [] → last ≢ 10 → cut 10 script ≡ lines_of script
lines_of_open script ended last is h = ap (cut 10) is ∙ sym (lines_open ended last h) ∙ ap lines_of (sym is)
