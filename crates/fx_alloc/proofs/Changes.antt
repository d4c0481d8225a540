-- Blocks get another use one after another: what each has then, and how many.
use Rattle.std.proofs.Common.{◌≡◌, ℕ, ◌+◌, ◌≤◌, zero, suc, Bool, true, false, cond, ◌==◌, ◌||◌, eqb, List, [], ◌∷◌, length, get_or, set, map, count_by, refl, sym, ◌∙◌, ap, subst, arith, length-set, inl, inr}
use Rattle.std.proofs.lemmas.List.{get_or-set_same, get_or-set_other}
use Rattle.std.proofs.lemmas.List.Sums.{sum_by-cons, get_or-le-sum_by}
use Rattle.std.proofs.lemmas.Bool.{cases_eq, cases_lt, true≢false, eqb-false, ne_eqb}
use Rattle.std.proofs.Math.Seq.{map-set_same}
use Rattle.std.proofs.Math.ListN.{get_or-eq_default}
use Rattle.fx_alloc.specs.declared.uses.Use.{Use}
use Rattle.fx_alloc.specs.declared.uses.Use.TheVariants.{System}
use Rattle.fx_alloc.specs.Uses.{use_at, put_all, HaveUse, AreUsed}
use Rattle.fx_alloc.specs.Pins.{is_among}
use Rattle.fx_alloc.specs.Layers.{change_use, change_all}
use Rattle.fx_alloc.proofs.UseLists.{moved, within, one_of, none_of, AreUsed-first, AreUsed-less, AreUsed-tail}

-- ---- numbers

pub eqb_same : (n m : ℕ) → n ≡ m → eqb n m ≡ true
eqb_same n m e = told (eqb n m) refl
  where
    told : (b : Bool) → eqb n m ≡ b → b ≡ true
    told true h = refl
    told false h = absurd (eqb-false n m h e)

pub eqb_tells : (n m : ℕ) → eqb n m ≡ true → n ≡ m
eqb_tells n m h = elim (cases_eq n m) [ inl e ↦ e | inr ne ↦ absurd (true≢false (sym h ∙ ne_eqb n m ne)) ]

-- ---- how many pass a test

count_as_list : (p : Use → Bool) (us : List Use) → count_by p us ≡ count_by (λ b. b) (map p us)
count_as_list p [] = refl
count_as_list p (x ∷ xs) = sum_by-cons (λ u. cond (p u) 1 0) x xs ∙ ap (λ n. cond (p x) 1 0 + n) (count_as_list p xs) ∙ sym (sum_by-cons (λ b. cond b 1 0) (p x) (map p xs))

count-set_same : (p : Use → Bool) (us : List Use) (b : ℕ) (v : Use) → p v ≡ p (get_or us b System) → count_by p (set us b v) ≡ count_by p us
count-set_same p us b v e = count_as_list p (set us b v) ∙ ap (λ l. count_by (λ x. x) l) (map-set_same p us b v System e) ∙ sym (count_as_list p us)

-- a test that no change of a use alters
pub count-change_all : (p : Use → Bool) (f : Use → Use) (bs : List ℕ) (us : List Use) → ((u : Use) → p (f u) ≡ p u) → count_by p (change_all f bs us) ≡ count_by p us
unfolding change_all
count-change_all p f [] us h = refl
count-change_all p f (b ∷ bs) us h = count-change_all p f bs (change_use f b us) h ∙ count-set_same p us b (f (get_or us b System)) (h (get_or us b System))

pub count-map : (p : Use → Bool) (f : Use → Use) (us : List Use) → ((u : Use) → p (f u) ≡ p u) → count_by p (map f us) ≡ count_by p us
count-map p f [] h = refl
count-map p f (x ∷ xs) h =
    let a : count_by p (f x ∷ map f xs) ≡ cond (p (f x)) 1 0 + count_by p (map f xs) = sum_by-cons (λ u. cond (p u) 1 0) (f x) (map f xs) in
    let b : count_by p (x ∷ xs) ≡ cond (p x) 1 0 + count_by p xs = sum_by-cons (λ u. cond (p u) 1 0) x xs in
    omega (arith, a, b, ap (λ (t : Bool). cond {A = ℕ} t 1 0) (h x), count-map p f xs h)

either_one : (x y : Bool) → (x ≡ true → y ≡ false) → cond {A = ℕ} (x || y) 1 0 ≡ cond {A = ℕ} x 1 0 + cond {A = ℕ} y 1 0
either_one true true n = absurd (true≢false (n refl))
either_one true false n = refl
either_one false true n = refl
either_one false false n = refl

pub count-either : (p q : Use → Bool) (us : List Use) → ((u : Use) → p u ≡ true → q u ≡ false) → count_by (λ u. p u || q u) us ≡ count_by p us + count_by q us
count-either p q [] n = refl
count-either p q (x ∷ xs) n =
    let a : count_by (λ u. p u || q u) (x ∷ xs) ≡ cond (p x || q x) 1 0 + count_by (λ u. p u || q u) xs = sum_by-cons (λ u. cond (p u || q u) 1 0) x xs in
    let b : count_by p (x ∷ xs) ≡ cond (p x) 1 0 + count_by p xs = sum_by-cons (λ u. cond (p u) 1 0) x xs in
    let c : count_by q (x ∷ xs) ≡ cond (q x) 1 0 + count_by q xs = sum_by-cons (λ u. cond (q u) 1 0) x xs in
    omega (arith, a, b, c, either_one (p x) (q x) (n x), count-either p q xs n)

-- where all that passed passes still, no fewer do
pub count-rises : (p : Use → Bool) (us vs : List Use) → length vs ≡ length us → ((b : ℕ) → p (get_or us b System) ≡ true → p (get_or vs b System) ≡ true) → count_by p us ≤ count_by p vs
count-rises p [] [] e h = omega arith
count-rises p [] (v ∷ vs) e h = absurd (omega (arith, e))
count-rises p (u ∷ us) [] e h = absurd (omega (arith, e))
count-rises p (u ∷ us) (v ∷ vs) e h =
    let a : count_by p (u ∷ us) ≡ cond (p u) 1 0 + count_by p us = sum_by-cons (λ x. cond (p x) 1 0) u us in
    let b : count_by p (v ∷ vs) ≡ cond (p v) 1 0 + count_by p vs = sum_by-cons (λ x. cond (p x) 1 0) v vs in
    omega (arith, a, b, less (p u) (p v) (h 0), count-rises p us vs (omega (arith, e)) (λ k. h (suc k)))
  where
    less : (x y : Bool) → (x ≡ true → y ≡ true) → cond {A = ℕ} x 1 0 ≤ cond {A = ℕ} y 1 0
    less true true n = omega arith
    less true false n = absurd (true≢false (sym (n refl)))
    less false y n = omega arith

-- where none is counted, none passes
pub none-passes : (p : Use → Bool) (us : List Use) (b : ℕ) → p System ≡ false → count_by p us ≡ 0 → p (get_or us b System) ≡ false
none-passes p us b s e = elim (cases_lt b (length us)) [
  | inl l ↦ fails (p (get_or us b System)) (omega (arith, e, get_or-le-sum_by (λ u. cond (p u) 1 0) us b System l))
  | inr h ↦ ap p (get_or-eq_default us System {n = b} h) ∙ s
]
  where
    fails : (x : Bool) → cond {A = ℕ} x 1 0 ≤ 0 → x ≡ false
    fails true h = absurd (omega (arith, h))
    fails false h = refl

-- ---- the use of one block

pub at-map : (f : Use → Use) (us : List Use) (b : ℕ) → f System ≡ System → use_at (map f us) b ≡ f (use_at us b)
at-map f [] b s = sym s
at-map f (u ∷ us) zero s = refl
at-map f (u ∷ us) (suc b) s = at-map f us b s

pub length-change_use : (f : Use → Use) (b : ℕ) (us : List Use) → length (change_use f b us) ≡ length us
length-change_use f b us = length-set us b (f (get_or us b System))

pub length-change_all : (f : Use → Use) (bs : List ℕ) (us : List Use) → length (change_all f bs us) ≡ length us
unfolding change_all
length-change_all f [] us = refl
length-change_all f (b ∷ bs) us = length-change_all f bs (change_use f b us) ∙ length-set us b (f (get_or us b System))

change_use-here : (f : Use → Use) (us : List Use) (b : ℕ) → f System ≡ System → use_at (change_use f b us) b ≡ f (use_at us b)
change_use-here f us b s = elim (cases_lt b (length us)) [
  | inl l ↦ get_or-set_same us b (f (get_or us b System)) System l
  | inr h ↦ get_or-eq_default (set us b (f (get_or us b System))) System {n = b} (omega (arith, h, length-set us b (f (get_or us b System)))) ∙ sym (ap f (get_or-eq_default us System {n = b} h) ∙ s)
]

change_use-at : (f : Use → Use) (c : ℕ) (us : List Use) (b : ℕ) → f System ≡ System → use_at (change_use f c us) b ≡ cond (c == b) (f (use_at us b)) (use_at us b)
change_use-at f c us b s = elim (cases_eq b c) [
  | inl e ↦ subst (λ (k : ℕ). use_at (change_use f k us) b ≡ cond (k == b) (f (use_at us b)) (use_at us b)) e
      (change_use-here f us b s ∙ sym (ap (λ (x : Bool). cond x (f (use_at us b)) (use_at us b)) (eqb_same b b refl)))
  | inr n ↦ get_or-set_other us c b (f (get_or us c System)) System n ∙ sym (ap (λ (x : Bool). cond x (f (use_at us b)) (use_at us b)) (ne_eqb c b (λ e. n (sym e))))
]

joined : (f : Use → Use) (x y : Bool) (u v w : Use) → v ≡ cond x (f u) u → w ≡ cond y (f v) v → f (f u) ≡ f u → w ≡ cond (x || y) (f u) u
joined f true true u v w e g i = g ∙ ap f e ∙ i
joined f true false u v w e g i = g ∙ e
joined f false true u v w e g i = g ∙ ap f e
joined f false false u v w e g i = g ∙ e

pub change_all-at : (f : Use → Use) (bs : List ℕ) (us : List Use) (b : ℕ) → ((u : Use) → f (f u) ≡ f u) → f System ≡ System → use_at (change_all f bs us) b ≡ cond (is_among b bs) (f (use_at us b)) (use_at us b)
unfolding change_all
change_all-at f [] us b i s = refl
change_all-at f (c ∷ cs) us b i s =
    joined f (c == b) (is_among b cs) (use_at us b) (use_at (change_use f c us) b) (use_at (change_all f cs (change_use f c us)) b)
    (change_use-at f c us b s) (change_all-at f cs (change_use f c us) b i s) (i (use_at us b))

HaveUse-each : (u v : Use) (us vs : List Use) (bs : List ℕ) → ((b : ℕ) → use_at us b ≡ u → use_at vs b ≡ v) → HaveUse u us bs → HaveUse v vs bs
unfolding HaveUse
HaveUse-each u v us vs [] h a = tt
HaveUse-each u v us vs (b ∷ bs) h a = (h b a.0, HaveUse-each u v us vs bs h a.1)

pub AreUsed-each : (u v : Use) (us vs : List Use) (bs : List ℕ) → ((b : ℕ) → use_at us b ≡ u → use_at vs b ≡ v) → AreUsed u us bs → AreUsed v vs bs
AreUsed-each u v us vs bs h a = record { used = HaveUse-each u v us vs bs h a.used; apart = a.apart }

-- ---- one use for many blocks

put_all-apart : (to : Use) (bs : List ℕ) (us : List Use) (b : ℕ) → is_among b bs ≡ false → use_at (put_all to bs us) b ≡ use_at us b
unfolding put_all
put_all-apart to [] us b n = refl
put_all-apart to (c ∷ cs) us b n = told (put_all-apart to cs (set us c to) b) (c == b) refl n
  where
    told : (is_among b cs ≡ false → use_at (put_all to cs (set us c to)) b ≡ use_at (set us c to) b) → (x : Bool) → (c == b) ≡ x → (x || is_among b cs) ≡ false → use_at (put_all to cs (set us c to)) b ≡ use_at us b
    told ih true e n = absurd (true≢false n)
    told ih false e n = ih n ∙ get_or-set_other us c b to System (λ q. eqb-false c b e (sym q))

pub used-where : (u : Use) (us : List Use) (bs : List ℕ) (b : ℕ) → AreUsed u us bs → is_among b bs ≡ true → use_at us b ≡ u
used-where u us [] b a n = absurd (true≢false (sym n))
used-where u us (c ∷ cs) b a n = told (used-where u us cs b (AreUsed-tail u us c cs a)) (c == b) refl n
  where
    told : (is_among b cs ≡ true → use_at us b ≡ u) → (x : Bool) → (c == b) ≡ x → (x || is_among b cs) ≡ true → use_at us b ≡ u
    told ih true e n = subst (λ (k : ℕ). use_at us k ≡ u) (eqb_tells c b e) (AreUsed-first u us c cs a)
    told ih false e n = ih n

-- All blocks of a use are listed, so these get another use is a change of each use.
module _ (p : Use → Bool) (f : Use → Use) (u to : Use) (mine : p u ≡ true) (gone : p to ≡ false) (sends : f u ≡ to) (stays : f to ≡ to) (others : (v : Use) → p v ≡ false → f v ≡ v) where
  none_left : (us : List Use) → count_by p us ≡ 0 → map f us ≡ us
  none_left [] e = refl
  none_left (x ∷ xs) e =
      let s : count_by p (x ∷ xs) ≡ cond (p x) 1 0 + count_by p xs = sum_by-cons (λ y. cond (p y) 1 0) x xs in
      ap (λ (y : Use). y ∷ map f xs) (others x (zero_is (p x) (omega (arith, s, e)))) ∙ ap (λ (ys : List Use). x ∷ ys) (none_left xs (omega (arith, s, e)))
    where
      zero_is : (b : Bool) → cond {A = ℕ} b 1 0 ≡ 0 → b ≡ false
      zero_is true h = absurd (omega (arith, h))
      zero_is false h = refl

  pub put_all-map : (bs : List ℕ) (us : List Use) → (System ≡ u → ⊥) → AreUsed u us bs → count_by p us ≡ length bs → put_all to bs us ≡ map f us
  unfolding put_all
  put_all-map [] us n h e = sym (none_left us e)
  put_all-map (b ∷ bs) us n h e =
      let first : get_or us b System ≡ u = AreUsed-first u us b bs h in
      let m : count_by p (set us b to) + cond (p u) 1 0 ≡ count_by p us + cond (p to) 1 0 = moved p us b u to (within us b u first n) first in
      put_all-map bs (set us b to) n (AreUsed-less u to us b bs h) (omega (arith, m, one_of (p u) mine, none_of (p to) gone, e))
      ∙ map-set_same f us b to System (stays ∙ sym (ap f first ∙ sends))

  pub all-listed : (bs : List ℕ) (us : List Use) (b : ℕ) → (System ≡ u → ⊥) → f System ≡ System → (u ≡ to → ⊥) → AreUsed u us bs → count_by p us ≡ length bs → use_at us b ≡ u → is_among b bs ≡ true
  all-listed bs us b n s d h e here = told (is_among b bs) refl
    where
      told : (x : Bool) → is_among b bs ≡ x → x ≡ true
      told true q = refl
      told false q = absurd (d (
          sym here ∙ sym (put_all-apart to bs us b q) ∙ ap (λ (vs : List Use). use_at vs b) (put_all-map bs us n h e) ∙ at-map f us b s ∙ ap f here ∙ sends
          ))
