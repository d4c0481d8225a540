-- How many pins a layer set has, and which blocks layer sets have.
use Rattle.std.proofs.Common.{◌≡◌, ◌≢◌, ℕ, ◌+◌, ◌-◌, ◌<◌, ◌≤◌, zero, suc, Bool, true, false, cond, ◌==◌, ◌||◌, ◌&&◌, not, List, [], ◌∷◌, ◌++◌, length, get_or, set, replicate, count_by, is_some, Option, Some, None, refl, sym, ◌∙◌, ap, subst, arith, length-append, inl, inr}
use Rattle.std.proofs.lemmas.List.{get_or-set_same, get_or-set_other, length-replicate, map-append, append-nil}
use Rattle.std.proofs.lemmas.List.Sums.{sum_by-set, sum_by-cons}
use Rattle.std.proofs.lemmas.Bool.{cases_eq, cases_lt, ne_eqb}
use Rattle.std.proofs.Math.ListN.{get_or-eq_default}
use native.Mathlib.Numerals.{unary_clauses}
use Rattle.fx_alloc.specs.declared.pins.Kept.{Kept}
use Rattle.fx_alloc.specs.Uses.{blocks_from}
use Rattle.fx_alloc.specs.Pins.{is_among, is_same_set, pins_of, kept_blocks, is_kept, set_has, in_set, other_sets}
use Rattle.fx_alloc.proofs.Changes.{eqb_same, eqb_tells}

-- ---- counts over slots

count-same : (p : Option ℕ → Bool) (xs ys : List (Option ℕ)) → p None ≡ false → ((i : ℕ) → get_or xs i None ≡ get_or ys i None) → count_by p xs ≡ count_by p ys
count-same p [] [] n h = refl
count-same p [] (y ∷ ys) n h =
    let s : count_by p (y ∷ ys) ≡ cond (p y) 1 0 + count_by p ys = sum_by-cons (λ o. cond (p o) 1 0) y ys in
    let e : p y ≡ false = ap p (sym (h 0)) ∙ n in
    let r : count_by p [] ≡ count_by p ys = count-same p [] ys n (λ i. h (suc i)) in
    omega (arith, s, r, ap (λ (b : Bool). cond {A = ℕ} b 1 0) e)
count-same p (x ∷ xs) [] n h =
    let s : count_by p (x ∷ xs) ≡ cond (p x) 1 0 + count_by p xs = sum_by-cons (λ o. cond (p o) 1 0) x xs in
    let e : p x ≡ false = ap p (h 0) ∙ n in
    let r : count_by p xs ≡ count_by p [] = count-same p xs [] n (λ i. h (suc i)) in
    omega (arith, s, r, ap (λ (b : Bool). cond {A = ℕ} b 1 0) e)
count-same p (x ∷ xs) (y ∷ ys) n h =
    let s : count_by p (x ∷ xs) ≡ cond (p x) 1 0 + count_by p xs = sum_by-cons (λ o. cond (p o) 1 0) x xs in
    let t : count_by p (y ∷ ys) ≡ cond (p y) 1 0 + count_by p ys = sum_by-cons (λ o. cond (p o) 1 0) y ys in
    let r : count_by p xs ≡ count_by p ys = count-same p xs ys n (λ i. h (suc i)) in
    omega (arith, s, t, r, ap (λ (o : Option ℕ). cond {A = ℕ} (p o) 1 0) (h 0))

padded-none : (n i : ℕ) → get_or {A = Option ℕ} (replicate n None) i None ≡ None
padded-none zero i = refl
padded-none (suc n) zero = refl
padded-none (suc n) (suc i) = padded-none n i

padded : (xs : List (Option ℕ)) (n i : ℕ) → get_or (xs ++ replicate n None) i None ≡ get_or xs i None
padded [] n i = padded-none n i
padded (x ∷ xs) n zero = refl
padded (x ∷ xs) n (suc i) = padded xs n i

-- one slot more has something
pub count-put : (p : Option ℕ → Bool) (xs ys : List (Option ℕ)) (key : ℕ) (v : Option ℕ) → p None ≡ false → get_or xs key None ≡ None → get_or ys key None ≡ v
    → ((i : ℕ) → i ≢ key → get_or ys i None ≡ get_or xs i None) → count_by p ys ≡ count_by p xs + cond (p v) 1 0
count-put p xs ys key v n vacant changed others =
    let long : List (Option ℕ) = xs ++ replicate (key + 1) None in
    let below : key < length (xs ++ replicate (key + 1) None) = omega (arith, length-append xs (replicate (key + 1) None), length-replicate {A = Option ℕ} (key + 1) None) in
    let a : count_by p (set (xs ++ replicate (key + 1) None) key v) + cond (p (get_or (xs ++ replicate (key + 1) None) key None)) 1 0 ≡ count_by p (xs ++ replicate (key + 1) None) + cond (p v) 1 0 =
    sum_by-set (λ o. cond (p o) 1 0) (xs ++ replicate (key + 1) None) key v None below in
    let b : count_by p (xs ++ replicate (key + 1) None) ≡ count_by p xs = count-same p (xs ++ replicate (key + 1) None) xs n (padded xs (key + 1)) in
    let c : count_by p ys ≡ count_by p (set (xs ++ replicate (key + 1) None) key v) = count-same p ys (set (xs ++ replicate (key + 1) None) key v) n (each below) in
    let e : p (get_or (xs ++ replicate (key + 1) None) key None) ≡ false = ap p (padded xs (key + 1) key ∙ vacant) ∙ n in
    omega (arith, a, b, c, ap (λ (x : Bool). cond {A = ℕ} x 1 0) e)
  where
    each : key < length (xs ++ replicate (key + 1) None) → (i : ℕ) → get_or ys i None ≡ get_or (set (xs ++ replicate (key + 1) None) key v) i None
    each below i = elim (cases_eq i key) [
      | inl e ↦ subst (λ (k : ℕ). get_or ys k None ≡ get_or (set (xs ++ replicate (key + 1) None) key v) k None) (sym e) (changed ∙ sym (get_or-set_same (xs ++ replicate (key + 1) None) key v None below))
      | inr ne ↦ others i ne ∙ sym (padded xs (key + 1) i) ∙ sym (get_or-set_other (xs ++ replicate (key + 1) None) key i v None ne)
    ]

-- a slot that has something is one of the list
pub slot-within : (xs : List (Option ℕ)) (key v : ℕ) → get_or xs key None ≡ Some v → key < length xs
slot-within xs key v e = elim (cases_lt key (length xs)) [ inl l ↦ l | inr h ↦ absurd (none_some (sym (get_or-eq_default xs None {n = key} h) ∙ e)) ]
  where
    none_some : None ≡ Some v → ⊥
    none_some q = cc

-- the pins of a set after one of this set ended
pub pins_of-removed : (xs : List (Option ℕ)) (key own other : ℕ) → get_or xs key None ≡ Some own → pins_of (set xs key None) other + cond (own == other) 1 0 ≡ pins_of xs other
pins_of-removed xs key own other e =
    let a : pins_of (set xs key None) other + cond (is_same_set other (get_or xs key None)) 1 0 ≡ pins_of xs other + 0 = sum_by-set (λ o. cond (is_same_set other o) 1 0) xs key None None (slot-within xs key own e) in
    omega (arith, a, ap (λ (o : Option ℕ). cond {A = ℕ} (is_same_set other o) 1 0) e)

pub one_here : (n : ℕ) → cond {A = ℕ} (n == n) 1 0 ≡ 1
one_here n = ap (λ (b : Bool). cond {A = ℕ} b 1 0) (eqb_same n n refl)

pub none_there : (n m : ℕ) → n ≢ m → cond {A = ℕ} (n == m) 1 0 ≡ 0
none_there n m ne = ap (λ (b : Bool). cond {A = ℕ} b 1 0) (ne_eqb n m ne)

-- no set has more pins than there are
pub pins_of-few : (xs : List (Option ℕ)) (own : ℕ) → pins_of xs own ≤ count_by is_some xs
pins_of-few [] own = omega arith
pins_of-few (x ∷ xs) own =
    let a : pins_of (x ∷ xs) own ≡ cond (is_same_set own x) 1 0 + pins_of xs own = sum_by-cons (λ o. cond (is_same_set own o) 1 0) x xs in
    let b : count_by is_some (x ∷ xs) ≡ cond (is_some x) 1 0 + count_by is_some xs = sum_by-cons (λ o. cond (is_some o) 1 0) x xs in
    omega (arith, a, b, less x, pins_of-few xs own)
  where
    one : (b : Bool) → cond {A = ℕ} b 1 0 ≤ 1
    one true = omega arith
    one false = omega arith

    less : (o : Option ℕ) → cond {A = ℕ} (is_same_set own o) 1 0 ≤ cond {A = ℕ} (is_some o) 1 0
    less None = omega arith
    less (Some s) = one (s == own)

-- ---- which blocks sets have

or-assoc : (a b c : Bool) → (a || (b || c)) ≡ ((a || b) || c)
or-assoc true b c = refl
or-assoc false b c = refl

pub set_has-append : (xs ys : List Kept) (own b : ℕ) → set_has (xs ++ ys) own b ≡ (set_has xs own b || set_has ys own b)
set_has-append [] ys own b = refl
set_has-append (x ∷ xs) ys own b =
    ap (λ (t : Bool). ((x.set == own) && (x.block == b)) || t) (set_has-append xs ys own b)
    ∙ or-assoc ((x.set == own) && (x.block == b)) (set_has xs own b) (set_has ys own b)

pub set_has-in_set : (own b : ℕ) (bs : List ℕ) → set_has (in_set own bs) own b ≡ is_among b bs
set_has-in_set own b [] = refl
set_has-in_set own b (c ∷ cs) =
    ap (λ (t : Bool). (t && (c == b)) || set_has (in_set own cs) own b) (eqb_same own own refl)
    ∙ ap (λ (t : Bool). (c == b) || t) (set_has-in_set own b cs)

pub set_has-in_other : (own other b : ℕ) (bs : List ℕ) → own ≢ other → set_has (in_set own bs) other b ≡ false
set_has-in_other own other b [] n = refl
set_has-in_other own other b (c ∷ cs) n =
    ap (λ (t : Bool). (t && (c == b)) || set_has (in_set own cs) other b) (ne_eqb own other n)
    ∙ set_has-in_other own other b cs n

-- the sets but one
pub set_has-left : (own other b : ℕ) (ks : List Kept) → other ≢ own → set_has (other_sets own ks) other b ≡ set_has ks other b
set_has-left own other b [] n = refl
set_has-left own other b (k ∷ ks) n = told (set_has-left own other b ks n) (k.set == own) refl
  where
    told : set_has (other_sets own ks) other b ≡ set_has ks other b → (x : Bool) → (k.set == own) ≡ x → set_has (cond (not x) (k ∷ other_sets own ks) (other_sets own ks)) other b ≡ (((k.set == other) && (k.block == b)) || set_has ks other b)
    told ih true e = ih ∙ sym (ap (λ (t : Bool). (t && (k.block == b)) || set_has ks other b) (ne_eqb k.set other (λ q. n (sym q ∙ eqb_tells k.set own e))))
    told ih false e = ap (λ (t : Bool). ((k.set == other) && (k.block == b)) || t) ih

pub set_has-gone : (own b : ℕ) (ks : List Kept) → set_has (other_sets own ks) own b ≡ false
set_has-gone own b [] = refl
set_has-gone own b (k ∷ ks) = told (set_has-gone own b ks) (k.set == own) refl
  where
    told : set_has (other_sets own ks) own b ≡ false → (x : Bool) → (k.set == own) ≡ x → set_has (cond (not x) (k ∷ other_sets own ks) (other_sets own ks)) own b ≡ false
    told ih true e = ih
    told ih false e = ap (λ (t : Bool). (t && (k.block == b)) || set_has (other_sets own ks) own b) e ∙ ih

pub is_kept-left : (own b : ℕ) (ks : List Kept) → is_kept (other_sets own ks) b ≡ true → is_kept ks b ≡ true
is_kept-left own b [] h = h
is_kept-left own b (k ∷ ks) h = told (is_kept-left own b ks) (k.set == own) refl h
  where
    more : (x y z : Bool) → (y ≡ true → z ≡ true) → (x || y) ≡ true → (x || z) ≡ true
    more true y z n q = refl
    more false y z n q = n q

    later : (x z : Bool) → z ≡ true → (x || z) ≡ true
    later true z q = refl
    later false z q = q

    told : (is_kept (other_sets own ks) b ≡ true → is_kept ks b ≡ true) → (x : Bool) → (k.set == own) ≡ x → is_kept (cond (not x) (k ∷ other_sets own ks) (other_sets own ks)) b ≡ true → ((k.block == b) || is_kept ks b) ≡ true
    told ih true e q = later (k.block == b) (is_kept ks b) (ih q)
    told ih false e q = more (k.block == b) (is_kept (other_sets own ks) b) (is_kept ks b) ih q

pub among-append : (b : ℕ) (xs ys : List ℕ) → is_among b (xs ++ ys) ≡ (is_among b xs || is_among b ys)
among-append b [] ys = refl
among-append b (x ∷ xs) ys = ap (λ (t : Bool). (x == b) || t) (among-append b xs ys) ∙ or-assoc (x == b) (is_among b xs) (is_among b ys)

blocks-in_set : (own : ℕ) (bs : List ℕ) → kept_blocks (in_set own bs) ≡ bs
blocks-in_set own [] = refl
blocks-in_set own (b ∷ bs) = ap (λ (l : List ℕ). b ∷ l) (blocks-in_set own bs)

pub is_kept-added : (own b : ℕ) (ks : List Kept) (bs : List ℕ) → is_kept (ks ++ in_set own bs) b ≡ (is_kept ks b || is_among b bs)
is_kept-added own b ks bs =
    ap (λ (l : List ℕ). is_among b l) (map-append (λ (k : Kept). k.block) ks (in_set own bs))
    ∙ among-append b (kept_blocks ks) (kept_blocks (in_set own bs))
    ∙ ap (λ (l : List ℕ). is_kept ks b || is_among b l) (blocks-in_set own bs)

-- ---- along a chain

append-again : (xs ys zs : List Kept) → (xs ++ ys) ++ zs ≡ xs ++ (ys ++ zs)
append-again [] ys zs = refl
append-again (x ∷ xs) ys zs = ap (λ (l : List Kept). x ∷ l) (append-again xs ys zs)

pub in_set-step : (own : ℕ) (links : List ℕ) (b n : ℕ) (ks ls : List Kept) → 0 < n → ks ++ in_set own (blocks_from links b n) ≡ ls → (ks ++ record { block = b; set = own } ∷ []) ++ in_set own (blocks_from links (get_or links b 0) (n - 1)) ≡ ls
unfolding blocks_from
in_set-step own links b zero ks ls h e = absurd (omega (arith, h))
in_set-step own links b (suc n) ks ls h e = simp unary_clauses (append-again ks (record { block = b; set = own } ∷ []) (in_set own (blocks_from links (get_or links b 0) n)) ∙ e)

pub in_set-end : (own : ℕ) (links : List ℕ) (b n : ℕ) (ks ls : List Kept) → n ≡ 0 → ks ++ in_set own (blocks_from links b n) ≡ ls → ks ≡ ls
unfolding blocks_from
in_set-end own links b zero ks ls h e = sym (append-nil ks) ∙ e
in_set-end own links b (suc n) ks ls h e = absurd (omega (arith, h))
