-- Where the part of a group ends.
use Rattle.std.proofs.Common.{◌≡◌, ℕ, ◌+◌, ◌-◌, ◌<◌, ◌≤◌, ◌==◌, Bool, true, false, cond, List, [], ◌∷◌, ◌++◌, length, take, refl, sym, ap, subst, ◌∙◌, arith, inl, inr, length-append}
use Rattle.std.specs.Prelude.{◌⊎◌, None, Some, codes}
use Rattle.std.specs.Str.{bytes_eq}
use Rattle.std.specs.Cmp.Lexicographic.{same_text}
use Rattle.std.proofs.Math.Seq.{take-append_seam, drop-append_seam}
use Rattle.std.proofs.lemmas.Bool.{eqb-true, ne_eqb, le-leb, lt-leb, cond-true, cond-false}
use Rattle.std.proofs.lemmas.List.{append_assoc}
use Rattle.fx_script.specs.Cut.{onto_first, cut}
use Rattle.fx_script.proofs.Cuts.{first_piece}
use Rattle.fx_words.specs.Lines.{cut_parts, onto_part}
use Rattle.fx_words.specs.Parts.{EndsPart, words_before, words_from}

-- ---- the first word of a text

abbrev pub Ends : List ℕ → List ℕ → List (List ℕ) → Type 0
Ends text word rest = (text ≡ word) × (rest ≡ [])

pub record GoesOn (text word : List ℕ) (rest : List (List ℕ)) : Type 0 where
  pub tail : List ℕ
  pub is : text ≡ word ++ 32 ∷ tail
  pub rest_is : rest ≡ cut 32 tail

pub record FirstOf (text word : List ℕ) (rest : List (List ℕ)) : Type 0 where
  pub alone : cut 32 word ≡ word ∷ []
  pub how : Ends text word rest ⊎ GoesOn text word rest

-- the same where a byte that is no space stands in front
longer : (b : ℕ) (bs word : List ℕ) (rest : List (List ℕ)) → (b == 32) ≡ false → FirstOf bs word rest → FirstOf (b ∷ bs) (b ∷ word) rest
longer b bs word rest other first = record {
  alone = ap (λ t. cond t ([] ∷ cut 32 word) (onto_first b (cut 32 word))) other ∙ ap (onto_first b) first.alone;
  how = by first.how;
}
  where
    by : Ends bs word rest ⊎ GoesOn bs word rest → Ends (b ∷ bs) (b ∷ word) rest ⊎ GoesOn (b ∷ bs) (b ∷ word) rest
    by (inl e) = inl (ap (λ t. b ∷ t) e.0, e.1)
    by (inr g) = inr (record { tail = g.tail; is = ap (λ t. b ∷ t) g.is; rest_is = g.rest_is })

moved_first : (text w v : List ℕ) (rs ss : List (List ℕ)) → w ∷ rs ≡ v ∷ ss → FirstOf text w rs → FirstOf text v ss
moved_first text w v rs ss e first =
    let words : w ≡ v = cc in
    let rests : rs ≡ ss = cc in
    subst (λ (x : List ℕ). FirstOf text x ss) words (subst (λ (x : List (List ℕ)). FirstOf text w x) rests first)

pub first_of : (text word : List ℕ) (rest : List (List ℕ)) → cut 32 text ≡ word ∷ rest → FirstOf text word rest
first_of [] word rest e = moved_first [] [] word [] rest e (record { alone = refl; how = inl (refl, refl) })
first_of (b ∷ bs) word rest e =
    let piece = first_piece 32 bs in
    by (b == 32) refl piece.0 piece.1 piece.2 (first_of bs piece.0 piece.1 piece.2) e
  where
    by : (t : Bool) → (b == 32) ≡ t → (piece : List ℕ) (pieces : List (List ℕ)) → cut 32 bs ≡ piece ∷ pieces → FirstOf bs piece pieces → cond t ([] ∷ cut 32 bs) (onto_first b (cut 32 bs)) ≡ word ∷ rest → FirstOf (b ∷ bs) word rest
    by true is piece pieces cuts first e =
        let space : b ≡ 32 = eqb-true b 32 is in
        moved_first (b ∷ bs) [] word (cut 32 bs) rest e (record { alone = refl; how = inr (record { tail = bs; is = ap (λ x. x ∷ bs) space; rest_is = refl }) })
    by false is piece pieces cuts first e =
        moved_first (b ∷ bs) (b ∷ piece) word pieces rest (sym (ap (onto_first b) cuts) ∙ e) (longer b bs piece pieces is first)

-- words of two texts with a space between
cut_both : (xs ys : List ℕ) → cut 32 (xs ++ 32 ∷ ys) ≡ cut 32 xs ++ cut 32 ys
cut_both [] ys = refl
cut_both (b ∷ bs) ys =
    let piece = first_piece 32 bs in
    by (b == 32) piece.0 piece.1 piece.2 (cut_both bs ys)
  where
    by : (t : Bool) (piece : List ℕ) (pieces : List (List ℕ)) → cut 32 bs ≡ piece ∷ pieces → cut 32 (bs ++ 32 ∷ ys) ≡ cut 32 bs ++ cut 32 ys
        → cond t ([] ∷ cut 32 (bs ++ 32 ∷ ys)) (onto_first b (cut 32 (bs ++ 32 ∷ ys))) ≡ cond t ([] ∷ cut 32 bs) (onto_first b (cut 32 bs)) ++ cut 32 ys
    by true piece pieces cuts later = ap (λ ws. [] ∷ ws) later
    by false piece pieces cuts later =
        ap (onto_first b) (later ∙ ap (λ ws. ws ++ cut 32 ys) cuts) ∙ ap (λ ws. onto_first b ws ++ cut 32 ys) (sym cuts)

-- ---- words in front of parts

abbrev pub onto_words : List (List ℕ) → List (List (List ℕ)) → List (List (List ℕ))
onto_words [] parts = parts
onto_words (word ∷ words) parts = onto_part word (onto_words words parts)

onto_more : (words : List (List ℕ)) (word : List ℕ) (parts : List (List (List ℕ))) → onto_words (words ++ word ∷ []) parts ≡ onto_words words (onto_part word parts)
onto_more [] word parts = refl
onto_more (first ∷ words) word parts = ap (onto_part first) (onto_more words word parts)

onto_empty : (words : List (List ℕ)) (parts : List (List (List ℕ))) → onto_words words ([] ∷ parts) ≡ words ∷ parts
onto_empty [] parts = refl
onto_empty (word ∷ words) parts = ap (onto_part word) (onto_empty words parts)

-- ---- a walk over the words

abbrev pub Starts : List ℕ → ℕ → List (List ℕ) → List (List ℕ) → Type 0
Starts text at words left = (at ≡ 0) × (words ≡ []) × (left ≡ cut 32 text)

pub record Within (text : List ℕ) (at : ℕ) (words left : List (List ℕ)) : Type 0 where
  pub done : List ℕ
  pub tail : List ℕ
  pub is : text ≡ done ++ 32 ∷ tail
  pub at_is : at ≡ length done + 1
  pub words_are : words ≡ cut 32 done
  pub left_is : left ≡ cut 32 tail

abbrev pub Ended : List ℕ → ℕ → List (List ℕ) → List (List ℕ) → Type 0
Ended text at words left = (at ≡ length text + 1) × (words ≡ cut 32 text) × (left ≡ [])

-- the words before a byte hold no `;`, and these are left
pub record Walked (text : List ℕ) (at : ℕ) (left : List (List ℕ)) : Type 0 where
  pub words : List (List ℕ)
  pub parts : cut_parts (cut 32 text) ≡ onto_words words (cut_parts left)
  pub place : Starts text at words left ⊎ (Within text at words left ⊎ Ended text at words left)

pub walk_start : (text : List ℕ) → Walked text 0 (cut 32 text)
walk_start text = record { words = []; parts = refl; place = inl (refl, refl, refl) }

abbrev pub Place : List ℕ → ℕ → List (List ℕ) → List (List ℕ) → Type 0
Place text at words left = Starts text at words left ⊎ (Within text at words left ⊎ Ended text at words left)

place_on : (text : List ℕ) (at : ℕ) (words : List (List ℕ)) (word : List ℕ) (rest : List (List ℕ)) → Place text at words (word ∷ rest) → Place text (at + (length word + 1)) (words ++ word ∷ []) rest
place_on text at words word rest (inl start) =
    let first = first_of text word rest (sym start.2) in
    let none = start.1 in
    by first.alone first.how
  where
    by : cut 32 word ≡ word ∷ [] → Ends text word rest ⊎ GoesOn text word rest → Place text (at + (length word + 1)) (words ++ word ∷ []) rest
    by alone (inl e) = inr (inr (omega (arith, start.0, ap length e.0), ap (λ ws. ws ++ word ∷ []) start.1 ∙ sym alone ∙ ap (cut 32) (sym e.0), e.1))
    by alone (inr g) = inr (inl (record { done = word; tail = g.tail; is = g.is; at_is = omega (arith, start.0); words_are = ap (λ ws. ws ++ word ∷ []) start.1 ∙ sym alone; left_is = g.rest_is }))
place_on text at words word rest (inr (inl w)) =
    let first = first_of w.tail word rest (sym w.left_is) in
    by first.alone first.how
  where
    by : cut 32 word ≡ word ∷ [] → Ends w.tail word rest ⊎ GoesOn w.tail word rest → Place text (at + (length word + 1)) (words ++ word ∷ []) rest
    by alone (inl e) =
        let whole : text ≡ w.done ++ 32 ∷ word = w.is ∙ ap (λ t. w.done ++ 32 ∷ t) e.0 in
        inr (inr (
          omega (arith, w.at_is, ap length whole, length-append w.done (32 ∷ word)),
          ap (λ ws. ws ++ word ∷ []) w.words_are ∙ ap (λ ws. cut 32 w.done ++ ws) (sym alone) ∙ sym (cut_both w.done word) ∙ ap (cut 32) (sym whole),
          e.1,
        ))
    by alone (inr g) = inr (inl (record {
      done = w.done ++ 32 ∷ word;
      tail = g.tail;
      is = w.is ∙ ap (λ t. w.done ++ 32 ∷ t) g.is ∙ sym (append_assoc w.done (32 ∷ word) (32 ∷ g.tail));
      at_is = omega (arith, w.at_is, length-append w.done (32 ∷ word));
      words_are = ap (λ ws. ws ++ word ∷ []) w.words_are ∙ ap (λ ws. cut 32 w.done ++ ws) (sym alone) ∙ sym (cut_both w.done word);
      left_is = g.rest_is;
    }))
place_on text at words word rest (inr (inr ended)) = absurd (cc (ended.2))

-- one more word that is not `;`
pub walk_on : (text : List ℕ) (at : ℕ) (word : List ℕ) (rest : List (List ℕ)) → bytes_eq word (codes ";") ≡ false → Walked text at (word ∷ rest) → Walked text (at + (length word + 1)) rest
walk_on text at word rest other walked = record {
  words = walked.words ++ word ∷ [];
  parts =
      walked.parts ∙ ap (λ t. onto_words walked.words (cond t ([] ∷ cut_parts rest) (onto_part word (cut_parts rest)))) other
      ∙ sym (onto_more walked.words word (cut_parts rest));
  place = place_on text at walked.words word rest walked.place;
}

-- the word fits
pub walk_fits : (text : List ℕ) (at : ℕ) (word : List ℕ) (rest : List (List ℕ)) → Walked text at (word ∷ rest) → at + length word ≤ length text
walk_fits text at word rest walked = by walked.place
  where
    ends : (t : List ℕ) → FirstOf t word rest → length word ≤ length t
    ends t first = by first.how
      where
        by : Ends t word rest ⊎ GoesOn t word rest → length word ≤ length t
        by (inl e) = omega (arith, ap length e.0)
        by (inr g) = omega (arith, ap length g.is, length-append word (32 ∷ g.tail))

    by : Place text at walked.words (word ∷ rest) → at + length word ≤ length text
    by (inl start) = omega (arith, start.0, ends text (first_of text word rest (sym start.2)))
    by (inr (inl w)) = omega (arith, w.at_is, ap length w.is, length-append w.done (32 ∷ w.tail), ends w.tail (first_of w.tail word rest (sym w.left_is)))
    by (inr (inr ended)) = absurd (cc (ended.2))

-- no word is left
pub walk_end : (text : List ℕ) (at : ℕ) → Walked text at [] → EndsPart text None
walk_end text at walked =
    walked.parts ∙ onto_empty walked.words [] ∙ ap (λ ws. ws ∷ []) (by walked.place)
  where
    some : (t : List ℕ) → [] ≡ cut 32 t → walked.words ≡ cut 32 text
    some t e = let piece = first_piece 32 t in absurd (cc (e, piece.2))

    by : Place text at walked.words [] → walked.words ≡ cut 32 text
    by (inl start) = some text start.2
    by (inr (inl w)) = some w.tail w.left_is
    by (inr (inr ended)) = ended.1

before_is : (done tail : List ℕ) (at : ℕ) → at ≡ length done + 1 → words_before at (done ++ 32 ∷ tail) ≡ cut 32 done
before_is done tail at e =
    let less : at - 1 ≡ length done = omega (arith, e) in
    cond-false _ _ _ (ne_eqb at 0 (λ z. absurd (omega (arith, z, e))))
    ∙ ap (λ n. cut 32 (take n (done ++ 32 ∷ tail))) less
    ∙ ap (cut 32) (take-append_seam done (32 ∷ tail))

pub from_is : (front tail : List ℕ) (at : ℕ) → at ≡ length front → words_from at (front ++ tail) ≡ cut 32 tail
from_is front tail at e =
    ap (λ n. words_from n (front ++ tail)) e
    ∙ cond-true _ _ _ (le-leb (length front) (length (front ++ tail)) (omega (arith, length-append front tail)))
    ∙ ap (cut 32) (drop-append_seam front tail)

pub past_end : (text : List ℕ) (at : ℕ) → length text < at → words_from at text ≡ []
past_end text at past = cond-false _ _ _ (lt-leb at (length text) past)

-- the next word is `;`
pub walk_found : (text : List ℕ) (at : ℕ) (word : List ℕ) (rest : List (List ℕ)) → bytes_eq word (codes ";") ≡ true → Walked text at (word ∷ rest) → EndsPart text (Some at)
walk_found text at word rest is walked =
    let same : word ≡ codes ";" = same_text word (codes ";") (sym is) in
    let place : Place text at walked.words (codes ";" ∷ rest) = subst (λ (w : List ℕ). Place text at walked.words (w ∷ rest)) same walked.place in (
      omega (arith, walk_fits text at word rest walked, ap length same),
      walked.parts
          ∙ ap (λ t. onto_words walked.words (cond t ([] ∷ cut_parts rest) (onto_part word (cut_parts rest)))) is
          ∙ onto_empty walked.words (cut_parts rest)
          ∙ ap (λ ws. ws ∷ cut_parts rest) (before place)
          ∙ ap (λ ws. words_before at text ∷ cut_parts ws) (after place),
    )
  where
    before : Place text at walked.words (codes ";" ∷ rest) → walked.words ≡ words_before at text
    before (inl start) = start.1 ∙ sym (ap (λ n. words_before n text) start.0)
    before (inr (inl w)) = w.words_are ∙ sym (ap (words_before at) w.is ∙ before_is w.done w.tail at w.at_is)
    before (inr (inr ended)) = absurd (cc (ended.2))

    tail_of : (front t : List ℕ) → text ≡ front ++ t → at ≡ length front → FirstOf t (codes ";") rest → rest ≡ words_from (at + 2) text
    tail_of front t whole at_is first = by first.how
      where
        by : Ends t (codes ";") rest ⊎ GoesOn t (codes ";") rest → rest ≡ words_from (at + 2) text
        by (inl e) = e.1 ∙ sym (past_end text (at + 2) (omega (arith, at_is, ap length whole, length-append front t, ap length e.0)))
        by (inr g) =
            let two : text ≡ (front ++ 59 ∷ 32 ∷ []) ++ g.tail = whole ∙ ap (λ x. front ++ x) g.is ∙ sym (append_assoc front (59 ∷ 32 ∷ []) g.tail) in
            g.rest_is ∙ sym (ap (words_from (at + 2)) two ∙ from_is (front ++ 59 ∷ 32 ∷ []) g.tail (at + 2) (omega (arith, at_is, length-append front (59 ∷ 32 ∷ []))))

    after : Place text at walked.words (codes ";" ∷ rest) → rest ≡ words_from (at + 2) text
    after (inl start) = tail_of [] text refl start.0 (first_of text (codes ";") rest (sym start.2))
    after (inr (inl w)) =
        tail_of (w.done ++ 32 ∷ []) w.tail (w.is ∙ sym (append_assoc w.done (32 ∷ []) w.tail)) (omega (arith, w.at_is, length-append w.done (32 ∷ []))) (first_of w.tail (codes ";") rest (sym w.left_is))
    after (inr (inr ended)) = absurd (cc (ended.2))
