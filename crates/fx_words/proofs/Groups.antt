-- The steps of a group, part by part.
use Rattle.std.proofs.Common.{◌≡◌, ℕ, suc, ◌+◌, ◌<◌, ◌≤◌, Bool, true, false, cond, List, [], ◌∷◌, ◌++◌, length, refl, sym, ap, subst, ◌∙◌, arith}
use Rattle.std.specs.Prelude.{Result, Ok, Err, IsOk, ◌==◌, codes}
use Rattle.std.specs.Str.{bytes_eq}
use Rattle.std.proofs.lemmas.Bool.{le-leb, lt-leb, cond-true, cond-false}
use Rattle.std.proofs.lemmas.List.{append_assoc, append-nil}
use Rattle.fx_script.specs.Cut.{onto_first, cut}
use Rattle.fx_steps.specs.declared.step.TreeStep.{TreeStep}
use Rattle.fx_words.specs.declared.built.Built.{Built}
use Rattle.fx_words.specs.declared.fault.WordFault.{WordFault}
use Rattle.fx_words.specs.declared.fault.WordFault.TheVariants.{TooManySteps}
use Rattle.fx_words.specs.declared.line.FullLine.TheVariants.{Group}
use Rattle.fx_words.specs.declared.line.TheConstants.{MAX_STEPS}
use Rattle.fx_words.specs.Lines.{◌>>=◌, cut_parts, group_step_of, group_steps_of, if_few, onto_part}
use Rattle.fx_words.specs.Said.{behind_steps, steps_counted, steps_read}

abbrev Steps : Type 0
Steps = Result (List TreeStep) WordFault

-- ---- how many parts there are

length-onto_first : (b : ℕ) (pieces : List (List ℕ)) → length (onto_first b pieces) ≤ length pieces + 1
length-onto_first b [] = omega arith
length-onto_first b (piece ∷ pieces) = omega arith

length-cut : (text : List ℕ) → length (cut 32 text) ≤ length text + 1
length-cut [] = omega arith
length-cut (b ∷ bs) = by (b == 32) (length-cut bs)
  where
    by : (t : Bool) → length (cut 32 bs) ≤ length bs + 1 → length (cond t ([] ∷ cut 32 bs) (onto_first b (cut 32 bs))) ≤ suc (length bs) + 1
    by true few = omega (arith, few)
    by false few = omega (arith, few, length-onto_first b (cut 32 bs))

length-onto_part : (word : List ℕ) (parts : List (List (List ℕ))) → length (onto_part word parts) ≤ length parts + 1
length-onto_part word [] = omega arith
length-onto_part word (part ∷ parts) = omega arith

length-cut_parts : (words : List (List ℕ)) → length (cut_parts words) ≤ length words + 1
length-cut_parts [] = omega arith
length-cut_parts (word ∷ words) = by (bytes_eq word (codes ";")) (length-cut_parts words)
  where
    by : (t : Bool) → length (cut_parts words) ≤ length words + 1 → length (cond t ([] ∷ cut_parts words) (onto_part word (cut_parts words))) ≤ suc (length words) + 1
    by true few = omega (arith, few)
    by false few = omega (arith, few, length-onto_part word (cut_parts words))

pub parts_few : (text : List ℕ) → length (cut_parts (cut 32 text)) ≤ length text + 2
parts_few text = omega (arith, length-cut_parts (cut 32 text), length-cut text)

-- ---- counting

pub count_part : (built : Built) (count : ℕ) (part : List (List ℕ)) (parts : List (List (List ℕ))) (step : TreeStep) → Ok step ≡ group_step_of built part
    → steps_counted (count + 1) (group_steps_of built parts) ≡ steps_counted count (group_steps_of built (part ∷ parts))
count_part built count part parts step read =
    by (group_steps_of built parts)
    ∙ ap (λ found. steps_counted count (found >>= λ step. group_steps_of built parts >>= λ steps. Ok (step ∷ steps))) read
  where
    by : (rest : Steps) → steps_counted (count + 1) rest ≡ steps_counted count (rest >>= λ steps. Ok (step ∷ steps))
    by (Ok steps) = let sum : count + 1 + length steps ≡ count + suc (length steps) = omega arith in ap (λ n. Ok n) sum
    by (Err fault) = refl

pub count_wrong : (built : Built) (count : ℕ) (part : List (List ℕ)) (parts : List (List (List ℕ))) (fault : WordFault) → Err fault ≡ group_step_of built part
    → Err fault ≡ steps_counted count (group_steps_of built (part ∷ parts))
count_wrong built count part parts fault read =
    ap (λ found. steps_counted count (found >>= λ step. group_steps_of built parts >>= λ steps. Ok (step ∷ steps))) read

-- ---- the group once its steps are counted

pub group_few : (count : ℕ) (found : Steps) → Ok count ≡ steps_counted 0 found → count ≤ MAX_STEPS → Ok (Group (steps_read found)) ≡ (found >>= if_few)
group_few count (Err fault) told few = absurd (cc)
group_few count (Ok steps) told few =
    let counts : count ≡ 0 + length steps = cc in
    sym (cond-true _ _ _ (le-leb (length steps) MAX_STEPS (omega (arith, few, counts))))

pub group_long : (count : ℕ) (found : Steps) → Ok count ≡ steps_counted 0 found → MAX_STEPS < count → Err TooManySteps ≡ (found >>= if_few)
group_long count (Err fault) told many = absurd (cc)
group_long count (Ok steps) told many =
    let counts : count ≡ 0 + length steps = cc in
    sym (cond-false _ _ _ (lt-leb (length steps) MAX_STEPS (omega (arith, many, counts))))

pub group_wrong : (fault : WordFault) (found : Steps) → Err fault ≡ steps_counted 0 found → Err fault ≡ (found >>= if_few)
group_wrong fault (Ok steps) told = absurd (cc)
group_wrong fault (Err other) told = let same : fault ≡ other = cc in ap (λ f. Err f) same

pub counted_ok : (count : ℕ) (found : Steps) → Ok count ≡ steps_counted 0 found → IsOk found
counted_ok count (Ok steps) told = refl
counted_ok count (Err fault) told = absurd (cc)

pub counted_is : (count : ℕ) (found : Steps) → Ok count ≡ steps_counted 0 found → count ≡ length (steps_read found)
counted_is count (Ok steps) told = let counts : count ≡ 0 + length steps = cc in omega (arith, counts)
counted_is count (Err fault) told = absurd (cc)

-- ---- reading

pub read_start : (found : Steps) → behind_steps [] found ≡ found
read_start (Ok steps) = refl
read_start (Err fault) = refl

pub read_part : (built : Built) (before : List TreeStep) (part : List (List ℕ)) (parts : List (List (List ℕ))) (step : TreeStep) → Ok step ≡ group_step_of built part
    → behind_steps (before ++ step ∷ []) (group_steps_of built parts) ≡ behind_steps before (group_steps_of built (part ∷ parts))
read_part built before part parts step read =
    by (group_steps_of built parts)
    ∙ ap (λ found. behind_steps before (found >>= λ step. group_steps_of built parts >>= λ steps. Ok (step ∷ steps))) read
  where
    by : (rest : Steps) → behind_steps (before ++ step ∷ []) rest ≡ behind_steps before (rest >>= λ steps. Ok (step ∷ steps))
    by (Ok steps) = ap (λ all. Ok all) (append_assoc before (step ∷ []) steps)
    by (Err fault) = refl

-- a part that is wrong makes the whole wrong
pub read_wrong : (built : Built) (before : List TreeStep) (part : List (List ℕ)) (parts : List (List (List ℕ))) (fault : WordFault) (whole : Steps) → Err fault ≡ group_step_of built part
    → behind_steps before (group_steps_of built (part ∷ parts)) ≡ whole → IsOk whole → ⊥
read_wrong built before part parts fault whole read is ok =
    let wrong : Err fault ≡ whole = ap (λ found. behind_steps before (found >>= λ step. group_steps_of built parts >>= λ steps. Ok (step ∷ steps))) read ∙ is in
    absurd (cc (subst (λ (r : Steps). IsOk r) (sym wrong) ok))

pub read_all : (before : List TreeStep) (whole : Steps) → behind_steps before (Ok []) ≡ whole → before ≡ steps_read whole
read_all before whole is = sym (append-nil before) ∙ ap steps_read is
