-- A line of all words that is read keeps the rules of the grammar.
use Rattle.std.proofs.Common.{◌≡◌, ℕ, suc, ◌<◌, ◌≤◌, ◌&&◌, ◌||◌, Bool, true, false, cond, List, [], ◌∷◌, refl, sym, subst, length, arith, ap, ◌∙◌}
use Rattle.std.specs.Prelude.{Result, Ok, Err, nat_le, nat_lt, codes}
use Rattle.std.specs.List.{AllByRecursion, list_all}
use Rattle.std.specs.Str.{bytes_eq}
use Rattle.std.specs.Char.{is_ascii}
use Rattle.std.proofs.lemmas.Bool.{and_parts, leb-true, ltb-true}
use Rattle.std.proofs.lemmas.List.Elements.{All-from_recursion}
use Rattle.percent_encoding.specs.Percent.{percent_decode}
use Rattle.percent_encoding.proofs.PercentLemmas.{All-percent_decode}
use Rattle.fx_item.specs.Name.{is_name}
use Rattle.fx_plain.specs.Table.{is_reading}
use Rattle.fx_plain.specs.declared.step.Step.{Step}
use Rattle.fx_plain.specs.declared.step.Step.TheVariants as basic
use Rattle.fx_steps.specs.declared.step.TreeStep.{TreeStep}
use Rattle.fx_steps.specs.declared.step.TreeStep.TheVariants.{Basic, Truncate, Remove, Rename, SetAttr, DelAttr, GetAttr}
use Rattle.fx_steps.specs.Rows.{is_look}
use Rattle.fx_script.specs.declared.fault.LineFault.{LineFault}
use Rattle.fx_script.specs.declared.fault.LineFault.TheVariants as faults
use Rattle.fx_script.specs.Cut.{is_blank, words_of}
use Rattle.fx_script.specs.Line as script
use Rattle.fx_script.specs.Line.{create_of, has_semicolon, mkdir_of, step_of, write_step}
use Rattle.fx_script.specs.Print.{IsPath}
use Rattle.fx_script.specs.Word.{max_number, number_in, path_of, text_of}
use Rattle.fx_script.proofs.Rules.{AreWords, by_recursion, cut_words, number_small, path_named, step_rules}
use Rattle.fx_script.proofs.Utf8.{AreBytes, IsByte}
use Rattle.fx_words.specs.declared.built.Built.{Built}
use Rattle.fx_words.specs.declared.fault.WordFault.{WordFault}
use Rattle.fx_words.specs.declared.fault.WordFault.TheVariants.{Basic as BasicFault, GroupedLine, BadName, TooManySteps}
use Rattle.fx_words.specs.declared.line.FullLine.{FullLine}
use Rattle.fx_words.specs.declared.line.FullLine.TheVariants.{Single, Group, Sync, Compact}
use Rattle.fx_words.specs.declared.line.TheConstants.{MAX_STEPS, MAX_VALUE}
use Rattle.fx_words.specs.Lines.{◌>>=◌, as_basic, attr_of, cut_parts, delattr_of, full_line_of, full_line_of_words, full_step_of, group_of, group_step_of, group_steps_of, if_built, if_few, is_alone, lone_line, lone_word, mv_of, name_word, number_word, one_word, onto_part, path_word, rm_of, setattr_of, trunc_of, two_words, value_word, with_basic_fault, words_of_three}
use Rattle.fx_words.specs.FullText.{FullLineKeepsRules, FullStepKeepsRules, GroupStepKeepsRules, IsValue}

-- ---- what is made of a value

pub record IsMadeOf {A B : Type 0} (r : Result A WordFault) (f : A → Result B WordFault) (y : B) : Type 0 where
  pub x : A
  pub is : r ≡ Ok x
  pub gives : f x ≡ Ok y

pub makes : {A B : Type 0} (r : Result A WordFault) (f : A → Result B WordFault) (y : B) → (r >>= f) ≡ Ok y → IsMadeOf r f y
makes (Ok x) f y e = record { x = x; is = refl; gives = e }
makes (Err fault) f y e = absurd (cc (e))

pub when_ok : {A : Type 0} (t : Bool) (r : Result A WordFault) (fault : WordFault) (y : A) → cond t r (Err fault) ≡ Ok y → (t ≡ true) × (r ≡ Ok y)
when_ok true r fault y e = (refl, e)
when_ok false r fault y e = absurd (cc (e))

pub when_not : {A : Type 0} (t : Bool) (r : Result A WordFault) (fault : WordFault) (y : A) → cond t (Err fault) r ≡ Ok y → (t ≡ false) × (r ≡ Ok y)
when_not true r fault y e = absurd (cc (e))
when_not false r fault y e = (refl, e)

pub basic_is : {A : Type 0} (found : Result A LineFault) (x : A) → with_basic_fault found ≡ Ok x → found ≡ Ok x
basic_is (Ok y) x e = let same : y ≡ x = cc (e) in ap (λ z. Ok z) same
basic_is (Err fault) x e = absurd (cc (e))

-- ---- words

path_rules : (word : List ℕ) (path : List (List ℕ)) → path_word word ≡ Ok path → IsPath path
path_rules word path e = path_named word path (basic_is (path_of word) path e)

number_rules : (word : List ℕ) (n : ℕ) → number_word word ≡ Ok n → n ≤ max_number
number_rules word n e = number_small word n (basic_is (number_in word) n e)

name_rules : (word name : List ℕ) → name_word word ≡ Ok name → is_name name ≡ true
name_rules word name e =
    let told = when_ok (is_name (percent_decode word)) (Ok (percent_decode word)) BadName name e in
    let same : percent_decode word ≡ name = cc (told.1) in
    subst (λ (text : List ℕ). is_name text ≡ true) same told.0

value_rules : (word value : List ℕ) → AreBytes word → value_word word ≡ Ok value → IsValue value
value_rules word value h e =
    let text = percent_decode word in
    let told = when_ok (nat_lt 0 (length text) && nat_le (length text) MAX_VALUE) (Ok text) (BasicFault faults.BadText) value e in
    let parts = and_parts (nat_lt 0 (length text)) (nat_le (length text) MAX_VALUE) told.0 in
    let same : text ≡ value = cc (told.1) in
    subst IsValue same (record {
      some = ltb-true 0 (length text) parts.0;
      few = leb-true (length text) MAX_VALUE parts.1;
      bytes = by_recursion text (All-percent_decode word (All-from_recursion IsByte word h));
    })

third_bytes : (words : List (List ℕ)) (found : List ℕ × List ℕ × List ℕ) → AreWords words → words_of_three words ≡ Ok found → AreBytes found.2
third_bytes [] found h e = absurd (cc (e))
third_bytes (first ∷ []) found h e = absurd (cc (e))
third_bytes (first ∷ second ∷ []) found h e = absurd (cc (e))
third_bytes (first ∷ second ∷ third ∷ []) found h e =
    let same : (first, second, third) ≡ found = cc (e) in
    subst (λ (f : List ℕ × List ℕ × List ℕ). AreBytes f.2) same h.1.1.0
third_bytes (first ∷ second ∷ third ∷ fourth ∷ words) found h e = absurd (cc (e))

-- ---- steps

-- a step that keeps the rules, and looks only where its word may not be part of a group
record Keeps (look : Bool) (step : TreeStep) : Type 0 where
  rules : FullStepKeepsRules step
  looks : is_look step ≡ look

made_step : (look : Bool) (made step : TreeStep) → (let r : Result TreeStep WordFault = Ok made in r) ≡ Ok step → Keeps look made → Keeps look step
made_step look made step e h = let same : made ≡ step = cc (e) in subst (Keeps look) same h

trunc_rules : (words : List (List ℕ)) (step : TreeStep) → trunc_of words ≡ Ok step → Keeps false step
trunc_rules words step e =
    let found = makes (two_words words) (λ (found : List ℕ × List ℕ). path_word found.0 >>= λ path. number_word found.1 >>= λ size. Ok (Truncate path size)) step e in
    let path = makes (path_word found.x.0) (λ path. number_word found.x.1 >>= λ size. Ok (Truncate path size)) step found.gives in
    let size = makes (number_word found.x.1) (λ size. Ok (Truncate path.x size)) step path.gives in
    made_step false (Truncate path.x size.x) step size.gives (record { rules = (path_rules found.x.0 path.x path.is, number_rules found.x.1 size.x size.is); looks = refl })

rm_rules : (words : List (List ℕ)) (step : TreeStep) → rm_of words ≡ Ok step → Keeps false step
rm_rules words step e =
    let word = makes (one_word words) (λ word. path_word word >>= λ path. Ok (Remove path)) step e in
    let path = makes (path_word word.x) (λ path. Ok (Remove path)) step word.gives in
    made_step false (Remove path.x) step path.gives (record { rules = path_rules word.x path.x path.is; looks = refl })

mv_rules : (words : List (List ℕ)) (step : TreeStep) → mv_of words ≡ Ok step → Keeps false step
mv_rules words step e =
    let found = makes (two_words words) (λ (found : List ℕ × List ℕ). path_word found.0 >>= λ from. path_word found.1 >>= λ to. Ok (Rename from to)) step e in
    let from = makes (path_word found.x.0) (λ from. path_word found.x.1 >>= λ to. Ok (Rename from to)) step found.gives in
    let to = makes (path_word found.x.1) (λ to. Ok (Rename from.x to)) step from.gives in
    made_step false (Rename from.x to.x) step to.gives (record { rules = (path_rules found.x.0 from.x from.is, path_rules found.x.1 to.x to.is); looks = refl })

setattr_rules : (words : List (List ℕ)) (step : TreeStep) → AreWords words → setattr_of words ≡ Ok step → Keeps false step
setattr_rules words step h e =
    let found = makes (words_of_three words) (λ (found : List ℕ × List ℕ × List ℕ). path_word found.0 >>= λ path. name_word found.1 >>= λ name. value_word found.2 >>= λ value. Ok (SetAttr path name value)) step e in
    let path = makes (path_word found.x.0) (λ path. name_word found.x.1 >>= λ name. value_word found.x.2 >>= λ value. Ok (SetAttr path name value)) step found.gives in
    let name = makes (name_word found.x.1) (λ name. value_word found.x.2 >>= λ value. Ok (SetAttr path.x name value)) step path.gives in
    let value = makes (value_word found.x.2) (λ value. Ok (SetAttr path.x name.x value)) step name.gives in
    made_step false (SetAttr path.x name.x value.x) step value.gives (record {
      rules = (path_rules found.x.0 path.x path.is, name_rules found.x.1 name.x name.is, value_rules found.x.2 value.x (third_bytes words found.x h found.is) value.is);
      looks = refl;
    })

delattr_rules : (words : List (List ℕ)) (step : TreeStep) → delattr_of words ≡ Ok step → Keeps false step
delattr_rules words step e =
    let found = makes (two_words words) (λ (found : List ℕ × List ℕ). path_word found.0 >>= λ path. name_word found.1 >>= λ name. Ok (DelAttr path name)) step e in
    let path = makes (path_word found.x.0) (λ path. name_word found.x.1 >>= λ name. Ok (DelAttr path name)) step found.gives in
    let name = makes (name_word found.x.1) (λ name. Ok (DelAttr path.x name)) step path.gives in
    made_step false (DelAttr path.x name.x) step name.gives (record { rules = (path_rules found.x.0 path.x path.is, name_rules found.x.1 name.x name.is); looks = refl })

attr_rules : (words : List (List ℕ)) (step : TreeStep) → attr_of words ≡ Ok step → Keeps true step
attr_rules words step e =
    let found = makes (two_words words) (λ (found : List ℕ × List ℕ). path_word found.0 >>= λ path. name_word found.1 >>= λ name. Ok (GetAttr path name)) step e in
    let path = makes (path_word found.x.0) (λ path. name_word found.x.1 >>= λ name. Ok (GetAttr path name)) step found.gives in
    let name = makes (name_word found.x.1) (λ name. Ok (GetAttr path.x name)) step path.gives in
    made_step true (GetAttr path.x name.x) step name.gives (record { rules = (path_rules found.x.0 path.x path.is, name_rules found.x.1 name.x name.is); looks = refl })

-- one of two, by a test
either : (p : TreeStep → Type 0) (t : Bool) (r s : Result TreeStep WordFault) (step : TreeStep) → (t ≡ true → r ≡ Ok step → p step) → (t ≡ false → s ≡ Ok step → p step) → cond t r s ≡ Ok step → p step
either p true r s step one other e = one refl e
either p false r s step one other e = other refl e

built_is : (built : Bool) (r : Result TreeStep WordFault) (step : TreeStep) → if_built built r ≡ Ok step → (built ≡ true) × (r ≡ Ok step)
built_is built r step e = when_ok built r (BasicFault faults.UnknownWord) step e

basic_step_is : (found : Result Step LineFault) (step : TreeStep) → as_basic found ≡ Ok step → (one : Step) × (found ≡ Ok one) × (Basic one ≡ step)
basic_step_is (Ok one) step e = (one, refl, cc (e))
basic_step_is (Err fault) step e = absurd (cc (e))

basic_rules : (words : List (List ℕ)) (step : TreeStep) → AreWords words → as_basic (step_of words) ≡ Ok step → FullStepKeepsRules step
basic_rules words step h e =
    let one = basic_step_is (step_of words) step e in
    subst FullStepKeepsRules one.2 (step_rules words one.0 h one.1)

pub full_step_rules : (built : Built) (words : List (List ℕ)) (step : TreeStep) → AreWords words → full_step_of built words ≡ Ok step → FullStepKeepsRules step
full_step_rules built [] step h e = absurd (cc (e))
full_step_rules built (word ∷ words) step h e =
    either FullStepKeepsRules (bytes_eq word (codes "trunc")) _ _ step (λ t k. (trunc_rules words step (built_is built.truncation (trunc_of words) step k).1).rules)
    (λ t k. either FullStepKeepsRules (bytes_eq word (codes "rm")) _ _ step (λ t k. (rm_rules words step (built_is built.removal (rm_of words) step k).1).rules)
    (λ t k. either FullStepKeepsRules (bytes_eq word (codes "mv")) _ _ step (λ t k. (mv_rules words step (built_is built.removal (mv_of words) step k).1).rules)
    (λ t k. either FullStepKeepsRules (bytes_eq word (codes "setattr")) _ _ step (λ t k. (setattr_rules words step h.1 (built_is built.removal (setattr_of words) step k).1).rules)
    (λ t k. either FullStepKeepsRules (bytes_eq word (codes "delattr")) _ _ step (λ t k. (delattr_rules words step (built_is built.removal (delattr_of words) step k).1).rules)
    (λ t k. either FullStepKeepsRules (bytes_eq word (codes "attr")) _ _ step (λ t k. (attr_rules words step (built_is built.removal (attr_of words) step k).1).rules)
    (λ t k. basic_rules (word ∷ words) step h k) k) k) k) k) k) e

-- ---- the parts of a group change the tree

or_false : (a b : Bool) → (a || b) ≡ false → (a ≡ false) × (b ≡ false)
or_false true b e = absurd (cc (e))
or_false false b e = (refl, e)

record IsApart (built : Built) (word : List ℕ) : Type 0 where
  read : bytes_eq word (codes "read") ≡ false
  list : bytes_eq word (codes "list") ≡ false
  stat : bytes_eq word (codes "stat") ≡ false
  attr : (built.removal && bytes_eq word (codes "attr")) ≡ false

apart_of : (built : Built) (word : List ℕ) → is_alone built word ≡ false → IsApart built word
apart_of built word e =
    let a = or_false _ _ e in
    let b = or_false _ _ a.0 in
    let c = or_false _ _ b.0 in
    let d = or_false _ _ c.0 in
    let f = or_false _ _ d.0 in
    record { read = f.1; list = d.1; stat = c.1; attr = a.1 }

reading_of : (found : Result (List (List ℕ)) LineFault) (make : List (List ℕ) → Step) → ((path : List (List ℕ)) → is_reading (make path) ≡ false) → (one : Step) → script.◌>>=◌ found (λ path. Ok (make path)) ≡ Ok one → is_reading one ≡ false
reading_of (Ok path) make changes one e =
    let same : make path ≡ one = cc (e) in
    subst (λ (s : Step). is_reading s ≡ false) same (changes path)
reading_of (Err fault) make changes one e = absurd (cc (e))

write_changes : (words : List (List ℕ)) (one : Step) → write_step words ≡ Ok one → is_reading one ≡ false
write_changes words one e = by_three (script.three_words words) e
  where
    by_text : (path : List (List ℕ)) (at : ℕ) (found : Result (List ℕ) LineFault) → script.◌>>=◌ found (λ text. Ok (basic.Write path at text)) ≡ Ok one → is_reading one ≡ false
    by_text path at (Ok text) e =
        let same : basic.Write path at text ≡ one = cc (e) in
        subst (λ (s : Step). is_reading s ≡ false) same refl
    by_text path at (Err fault) e = absurd (cc (e))

    by_number : (path : List (List ℕ)) (text : Result (List ℕ) LineFault) (found : Result ℕ LineFault) → script.◌>>=◌ found (λ at. script.◌>>=◌ text (λ text. Ok (basic.Write path at text))) ≡ Ok one → is_reading one ≡ false
    by_number path text (Ok at) e = by_text path at text e
    by_number path text (Err fault) e = absurd (cc (e))

    by_path : (at : Result ℕ LineFault) (text : Result (List ℕ) LineFault) (found : Result (List (List ℕ)) LineFault) → script.◌>>=◌ found (λ path. script.◌>>=◌ at (λ at. script.◌>>=◌ text (λ text. Ok (basic.Write path at text)))) ≡ Ok one → is_reading one ≡ false
    by_path at text (Ok path) e = by_number path text at e
    by_path at text (Err fault) e = absurd (cc (e))

    by_three : (found : Result (List ℕ × List ℕ × List ℕ) LineFault) → script.◌>>=◌ found (λ (f : List ℕ × List ℕ × List ℕ). script.◌>>=◌ (path_of f.0) (λ path. script.◌>>=◌ (number_in f.1) (λ at. script.◌>>=◌ (text_of f.2) (λ text. Ok (basic.Write path at text))))) ≡ Ok one → is_reading one ≡ false
    by_three (Ok f) e = by_path (number_in f.1) (text_of f.2) (path_of f.0) e
    by_three (Err fault) e = absurd (cc (e))

either_basic : (p : Step → Type 0) (t : Bool) (r s : Result Step LineFault) (one : Step) → (t ≡ true → r ≡ Ok one → p one) → (t ≡ false → s ≡ Ok one → p one) → cond t r s ≡ Ok one → p one
either_basic p true r s one here other e = here refl e
either_basic p false r s one here other e = other refl e

basic_parts : (word : List ℕ) (words : List (List ℕ)) (one : Step) → bytes_eq word (codes "read") ≡ false → bytes_eq word (codes "list") ≡ false → bytes_eq word (codes "stat") ≡ false → step_of (word ∷ words) ≡ Ok one → is_reading one ≡ false
basic_parts word words one read list stat e =
    either_basic (λ one. is_reading one ≡ false) (bytes_eq word (codes "mkdir")) _ _ one (λ t k. reading_of (script.only_path words) basic.Mkdir (λ path. refl) one k)
    (λ t k. either_basic (λ one. is_reading one ≡ false) (bytes_eq word (codes "create")) _ _ one (λ t k. reading_of (script.only_path words) basic.Create (λ path. refl) one k)
    (λ t k. either_basic (λ one. is_reading one ≡ false) (bytes_eq word (codes "write")) _ _ one (λ t k. write_changes words one k)
    (λ t k. either_basic (λ one. is_reading one ≡ false) (bytes_eq word (codes "read")) _ _ one (λ t k. absurd (cc (t, read)))
    (λ t k. either_basic (λ one. is_reading one ≡ false) (bytes_eq word (codes "list")) _ _ one (λ t k. absurd (cc (t, list)))
    (λ t k. either_basic (λ one. is_reading one ≡ false) (bytes_eq word (codes "stat")) _ _ one (λ t k. absurd (cc (t, stat)))
    (λ t k. absurd (cc (k))) k) k) k) k) k) e

both_hold : (a b : Bool) → a ≡ true → b ≡ true → (a && b) ≡ true
both_hold true true e f = refl
both_hold true false e f = absurd (cc (f))
both_hold false b e f = absurd (cc (e))

part_changes : (built : Built) (word : List ℕ) (words : List (List ℕ)) (step : TreeStep) → AreWords (word ∷ words) → IsApart built word → full_step_of built (word ∷ words) ≡ Ok step → is_look step ≡ false
part_changes built word words step h apart e =
    either (λ step. is_look step ≡ false) (bytes_eq word (codes "trunc")) _ _ step (λ t k. (trunc_rules words step (built_is built.truncation (trunc_of words) step k).1).looks)
    (λ t k. either (λ step. is_look step ≡ false) (bytes_eq word (codes "rm")) _ _ step (λ t k. (rm_rules words step (built_is built.removal (rm_of words) step k).1).looks)
    (λ t k. either (λ step. is_look step ≡ false) (bytes_eq word (codes "mv")) _ _ step (λ t k. (mv_rules words step (built_is built.removal (mv_of words) step k).1).looks)
    (λ t k. either (λ step. is_look step ≡ false) (bytes_eq word (codes "setattr")) _ _ step (λ t k. (setattr_rules words step h.1 (built_is built.removal (setattr_of words) step k).1).looks)
    (λ t k. either (λ step. is_look step ≡ false) (bytes_eq word (codes "delattr")) _ _ step (λ t k. (delattr_rules words step (built_is built.removal (delattr_of words) step k).1).looks)
    (λ t k. either (λ step. is_look step ≡ false) (bytes_eq word (codes "attr")) _ _ step
    (λ t k. absurd (cc (sym (both_hold built.removal (bytes_eq word (codes "attr")) (built_is built.removal (attr_of words) step k).0 t) ∙ apart.attr)))
    (λ t k.
    let one = basic_step_is (step_of (word ∷ words)) step k in
    subst (λ (s : TreeStep). is_look s ≡ false) one.2 (basic_parts word words one.0 apart.read apart.list apart.stat one.1)) k) k) k) k) k) e

group_step_rules : (built : Built) (part : List (List ℕ)) (step : TreeStep) → AreWords part → group_step_of built part ≡ Ok step → GroupStepKeepsRules step
group_step_rules built [] step h e = absurd (cc (e))
group_step_rules built (word ∷ words) step h e =
    let told = when_not (is_alone built word) (full_step_of built (word ∷ words)) GroupedLine step e in
    (full_step_rules built (word ∷ words) step h told.1, part_changes built word words step h (apart_of built word told.0) told.1)

-- ---- groups

abbrev AllWords : List (List (List ℕ)) → Type 0
AllWords parts = AllByRecursion AreWords parts

part_words : (word : List ℕ) (parts : List (List (List ℕ))) → AreBytes word → AllWords parts → AllWords (onto_part word parts)
part_words word [] h k = ((h, tt), tt)
part_words word (part ∷ parts) h k = ((h, k.0), k.1)

all_parts : (words : List (List ℕ)) → AreWords words → AllWords (cut_parts words)
all_parts [] h = (tt, tt)
all_parts (word ∷ words) h = by (bytes_eq word (codes ";")) (all_parts words h.1)
  where
    by : (t : Bool) → AllWords (cut_parts words) → AllWords (cond t ([] ∷ cut_parts words) (onto_part word (cut_parts words)))
    by true k = (tt, k)
    by false k = part_words word (cut_parts words) h.0 k

one_part_at_least : (words : List (List ℕ)) → 0 < length (cut_parts words)
one_part_at_least [] = omega arith
one_part_at_least (word ∷ words) = by (bytes_eq word (codes ";"))
  where
    some : (parts : List (List (List ℕ))) → 0 < length (onto_part word parts)
    some [] = omega arith
    some (part ∷ parts) = omega arith

    by : (t : Bool) → 0 < length (cond t ([] ∷ cut_parts words) (onto_part word (cut_parts words)))
    by true = omega arith
    by false = some (cut_parts words)

two_parts : (words : List (List ℕ)) → has_semicolon words ≡ true → 1 < length (cut_parts words)
two_parts [] e = absurd (cc (e))
two_parts (word ∷ words) e = by (bytes_eq word (codes ";")) (two_parts words) (one_part_at_least words) e
  where
    grown : (parts : List (List (List ℕ))) → 1 < length parts → 1 < length (onto_part word parts)
    grown [] k = absurd (omega (arith, k))
    grown (part ∷ parts) k = omega (arith, k)

    by : (t : Bool) → (has_semicolon words ≡ true → 1 < length (cut_parts words)) → 0 < length (cut_parts words) → (t || has_semicolon words) ≡ true → 1 < length (cond t ([] ∷ cut_parts words) (onto_part word (cut_parts words)))
    by true more some e = omega (arith, some)
    by false more some e = grown (cut_parts words) (more e)

record AreGrouped (count : ℕ) (steps : List TreeStep) : Type 0 where
  long : length steps ≡ count
  each : AllByRecursion GroupStepKeepsRules steps

group_steps_rules : (built : Built) (parts : List (List (List ℕ))) (steps : List TreeStep) → AllWords parts → group_steps_of built parts ≡ Ok steps → AreGrouped (length parts) steps
group_steps_rules built [] steps h e =
    let none : [] ≡ steps = cc (e) in
    subst (AreGrouped 0) none (record { long = refl; each = tt })
group_steps_rules built (part ∷ parts) steps h e =
    let step = makes (group_step_of built part) (λ step. group_steps_of built parts >>= λ steps. Ok (step ∷ steps)) steps e in
    let rest = makes (group_steps_of built parts) (λ steps. Ok (step.x ∷ steps)) steps step.gives in
    let same : step.x ∷ rest.x ≡ steps = cc (rest.gives) in
    let more = group_steps_rules built parts rest.x h.1 rest.is in
    subst (AreGrouped (suc (length parts))) same (record { long = ap suc more.long; each = (group_step_rules built part step.x h.0 step.is, more.each) })

few_rules : (steps : List TreeStep) (line : FullLine) → 1 < length steps → AllByRecursion GroupStepKeepsRules steps → if_few steps ≡ Ok line → FullLineKeepsRules line
few_rules steps line some each e = by (nat_le (length steps) MAX_STEPS) refl e
  where
    by : (t : Bool) → nat_le (length steps) MAX_STEPS ≡ t → cond t (Ok (Group steps)) (let r : Result FullLine WordFault = Err TooManySteps in r) ≡ Ok line → FullLineKeepsRules line
    by true few e =
        let same : Group steps ≡ line = cc (e) in
        subst FullLineKeepsRules same (record { some = some; few = leb-true (length steps) MAX_STEPS few; each = each })
    by false few e = absurd (cc (e))

group_rules : (built : Built) (words : List (List ℕ)) (line : FullLine) → AreWords words → has_semicolon words ≡ true → group_of built words ≡ Ok line → FullLineKeepsRules line
group_rules built words line h parted e =
    let steps = makes (group_steps_of built (cut_parts words)) if_few line e in
    let each = group_steps_rules built (cut_parts words) steps.x (all_parts words h) steps.is in
    few_rules steps.x line (omega (arith, each.long, two_parts words parted)) each.each steps.gives

-- ---- lines

either_line : (t : Bool) (r s : Result FullLine WordFault) (line : FullLine) → (t ≡ true → r ≡ Ok line → FullLineKeepsRules line) → (t ≡ false → s ≡ Ok line → FullLineKeepsRules line) → cond t r s ≡ Ok line → FullLineKeepsRules line
either_line true r s line one other e = one refl e
either_line false r s line one other e = other refl e

lone_word_rules : (made : FullLine) (words : List (List ℕ)) (line : FullLine) → FullLineKeepsRules made → lone_word made words ≡ Ok line → FullLineKeepsRules line
lone_word_rules made [] line h e = let same : made ≡ line = cc (e) in subst FullLineKeepsRules same h
lone_word_rules made (word ∷ words) line h e = absurd (cc (e))

single_step_rules : (built : Built) (words : List (List ℕ)) (line : FullLine) → AreWords words → (full_step_of built words >>= λ step. Ok (Single step)) ≡ Ok line → FullLineKeepsRules line
single_step_rules built words line h e =
    let step = makes (full_step_of built words) (λ step. Ok (Single step)) line e in
    let same : Single step.x ≡ line = cc (step.gives) in
    subst FullLineKeepsRules same (full_step_rules built words step.x h step.is)

lone_rules : (built : Built) (words : List (List ℕ)) (line : FullLine) → AreWords words → lone_line built words ≡ Ok line → FullLineKeepsRules line
lone_rules built [] line h e = absurd (cc (e))
lone_rules built (word ∷ words) line h e =
    either_line (bytes_eq word (codes "sync")) _ _ line (λ t k. lone_word_rules Sync words line tt k)
    (λ t k. either_line (built.compaction && bytes_eq word (codes "compact")) _ _ line (λ t k. lone_word_rules Compact words line tt k)
    (λ t k. single_step_rules built (word ∷ words) line h k) k) e

pub full_words_rules : (built : Built) (words : List (List ℕ)) (line : FullLine) → AreWords words → full_line_of_words built words ≡ Ok line → FullLineKeepsRules line
full_words_rules built words line h e =
    either_line (is_blank words) _ _ line (λ t k. absurd (cc (k)))
    (λ t k. either_line (has_semicolon words) _ _ line (λ t k. group_rules built words line h t (when_ok built.groups (group_of built words) (BasicFault faults.UnknownWord) line k).1)
    (λ t k. lone_rules built words line h k) k) e

-- a line that is read keeps the rules
pub full_line_rules : (built : Built) (bytes : List ℕ) (line : FullLine) → full_line_of built bytes ≡ Ok line → FullLineKeepsRules line
full_line_rules built bytes line e =
    let told = when_ok (list_all is_ascii bytes) (full_line_of_words built (words_of bytes)) (BasicFault faults.NotAscii) line e in
    full_words_rules built (words_of bytes) line (cut_words 32 bytes told.0) told.1
