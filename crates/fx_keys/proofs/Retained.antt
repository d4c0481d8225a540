-- What a closure that keeps its state leaves of a list; the least of a list of numbers; a list written back whole.
use Rattle.std.proofs.Common.{◌≡◌, ℕ, ◌<◌, ◌≤◌, Bool, cond, List, [], ◌∷◌, ◌++◌, length, get_or, take, filter, fold, min, All, Contains, Option, Some, None, option_map, refl, sym, ap, ◌∙◌, subst, arith, append-nil, drop_of_length-le, zero, suc, ◌⊎◌, inl, inr}
use Rattle.std.specs.List.{retain_mut, refill, reduce}
use Rattle.std.specs.List.Retain.{RetainsInTurn}
use Rattle.std.proofs.lemmas.List.Elements.{All-nil, All-cons, All-head, All-tail}
use Rattle.fx_keys.specs.Seats.{IsLeastOf}

module _ {S X : Type 0} (R : S → X → Bool → S → X → Type 0) (test : X → Bool) (change : X → X) (f : S) (says : (x : X) (b : Bool) (t : S) (y : X) → R f x b t y → (b ≡ test x) × ((t ≡ f) × (y ≡ change x))) where
  pub retained : (xs ys : List X) → RetainsInTurn R f xs ys → ys ≡ retain_mut test change xs
  retained [] ys h = h
  retained (x ∷ xs) ys (b, t, y, r, zs, rest, is) =
      let said = says x b t y r in
      let later = retained xs zs (subst (λ s. RetainsInTurn R s xs zs) said.1.0 rest) in
      is ∙ (λ i. cond (said.0 i) (said.1.1 i ∷ later i) (later i))

pub filter_retains : {X : Type 0} (test : X → Bool) (xs : List X) → retain_mut test (λ x. x) xs ≡ filter test xs
filter_retains test [] = refl
filter_retains test (x ∷ xs) = ap (λ l. cond (test x) (x ∷ l) l) (filter_retains test xs)

pub refill_whole : {X : Type 0} (n : ℕ) (xs ws : List X) → n ≡ length xs → length ws ≡ n → refill n xs ws ≡ ws
refill_whole n xs ws long same =
    ap (λ l. take n (ws ++ l)) (drop_of_length-le xs (omega arith)) ∙ ap (take n) (append-nil ws) ∙ ap (λ k. take k ws) (sym same) ∙ whole ws
  where
    whole : {X : Type 0} (ws : List X) → take (length ws) ws ≡ ws
    whole [] = refl
    whole (w ∷ ws) = ap (λ l. w ∷ l) (whole ws)

min_cases : (a b : ℕ) → (min a b ≡ a) ⊎ (min a b ≡ b)
min_cases a b = grind arith

contains_later : (x y : ℕ) (ys : List ℕ) → Contains ys x → Contains (y ∷ ys) x
contains_later x y ys (k, lt, is) = (suc k, omega arith, is)

least_fold : (a : ℕ) (xs : List ℕ) → Contains (a ∷ xs) (fold min a xs) × All (λ v. fold min a xs ≤ v) (a ∷ xs)
least_fold a [] = ((zero, omega arith, refl), All-cons (λ v. a ≤ v) a [] (omega arith) (All-nil (λ v. a ≤ v)))
least_fold a (x ∷ xs) =
    let rest = least_fold (min a x) xs in
    let low : fold min (min a x) xs ≤ min a x = All-head (λ v. fold min (min a x) xs ≤ v) (min a x) xs rest.1 in
    let P : ℕ → Type 0 = λ v. fold min (min a x) xs ≤ v in (
      found a x xs (fold min (min a x) xs) rest.0 (min_cases a x),
      All-cons P a (x ∷ xs) (omega arith) (All-cons P x xs (omega arith) (All-tail P (min a x) xs rest.1)),
    )
  where
    found : (a x : ℕ) (xs : List ℕ) (m : ℕ) → Contains (min a x ∷ xs) m → (min a x ≡ a) ⊎ (min a x ≡ x) → Contains (a ∷ x ∷ xs) m
    found a x xs m (zero, lt, is) (inl e) = (zero, omega arith, sym e ∙ is)
    found a x xs m (zero, lt, is) (inr e) = (suc zero, omega arith, sym e ∙ is)
    found a x xs m (suc k, lt, is) which = (suc (suc k), omega arith, is)

pub least_of : (ns : List ℕ) (r : Option ℕ) → option_map (λ x. x) r ≡ reduce min ns → IsLeastOf ns r
least_of [] None e = refl
least_of [] (Some w) e = absurd (cc)
least_of (n ∷ ns) None e = absurd (cc)
least_of (n ∷ ns) (Some w) e =
    let same : fold min n ns ≡ w = cc in
    subst (λ m. Contains (n ∷ ns) m × All (λ v. m ≤ v) (n ∷ ns)) same (least_fold n ns)

-- an element that is there does not depend on the default
pub any_default : {X : Type 0} (xs : List X) (i : ℕ) (d e : X) → i < length xs → get_or xs i d ≡ get_or xs i e
any_default [] i d e lt = absurd (omega arith)
any_default (x ∷ xs) zero d e lt = refl
any_default (x ∷ xs) (suc i) d e lt = any_default xs i d e (omega arith)
