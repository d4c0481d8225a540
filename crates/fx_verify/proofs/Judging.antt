-- The set of wrong blocks over one transaction, and what it tells of the number that is kept.
use Rattle.std.proofs.Common.{◌≡◌, inl, inr, ℕ, ◌+◌, ◌-◌, ◌<◌, ◌≤◌, ◌==◌, ◌&&◌, ◌||◌, Bool, true, false, cond, not, List, [], ◌∷◌, ◌++◌, take, get_or, length, Option, Some, None, refl, sym, ap, subst, ◌∙◌, arith, eqb-true, eq-eqb}
use Rattle.std.specs.List.{Contains, fold, list_any}
use Rattle.std.proofs.lemmas.Bool.{cases_lt}
use Rattle.std.proofs.lemmas.List.{length-append, length-map, length-take-le, map-append, take-append-le, take_all, take_more}
use Rattle.std.proofs.lemmas.List.Folds.{list_any-append}
use Rattle.fx_item.specs.Item.{PlainItem, item_of, items_of}
use Rattle.fx_item.specs.declared.item.Item.{Item}
use Rattle.fx_verify.specs.Kept.{IsKeptNumber, Passes, after_items, is_freed_by, is_freed_under, last_stated, live_sum, plain_txns, written_by}
use Rattle.fx_verify.specs.Wrong.{KeepsWrong, is_found, is_wrong, judged}
use Rattle.fx_verify.specs.Written.{StatesLike}
use Rattle.fx_verify.proofs.KeptLaws.{contains_cons, contains_nothing, contains_or}

-- ---- one transaction

-- one more item that frees blocks
pub freed_more : (items : List Item) (i : ℕ) (x : Item) (old now new : ℕ → Bool) → i < length items → x ≡ get_or items i x
    → ((b : ℕ) → now b ≡ (old b && not (is_freed_by (items_of (take i items)) b)))
    → ((b : ℕ) → new b ≡ (now b && not (is_freed_under b (item_of x).key (item_of x).value)))
    → (b : ℕ) → new b ≡ (old b && not (is_freed_by (items_of (take (i + 1) items)) b))
freed_more items i x old now new lt is before step b =
    let test : PlainItem → Bool = λ y. is_freed_under b y.key y.value in
    let all : is_freed_by (items_of (take (i + 1) items)) b ≡ (is_freed_by (items_of (take i items)) b || (test (item_of x) || false)) =
    ap (λ xs. list_any test (items_of xs)) (take_more items i x lt ∙ ap (λ y. take i items ++ y ∷ []) (sym is))
    ∙ ap (list_any test) (map-append item_of (take i items) (x ∷ []))
    ∙ list_any-append test (items_of (take i items)) (item_of x ∷ []) in
    step b ∙ ap (λ t. t && not (test (item_of x))) (before b) ∙ both (old b) (is_freed_by (items_of (take i items)) b) (test (item_of x))
    ∙ ap (λ t. old b && not t) (sym all)
  where
    both : (a f g : Bool) → ((a && not f) && not g) ≡ (a && not (f || (g || false)))
    both true true g = refl
    both true false true = refl
    both true false false = refl
    both false f g = refl

judged_all : (found : ℕ → ℕ → Bool) (b : ℕ) (ps : List (ℕ × ℕ)) (o : Option ℕ) → fold (judged found b) (is_wrong found b o) ps ≡ is_wrong found b (last_stated b ps o)
judged_all found b [] o = refl
judged_all found b (p ∷ ps) o = ap (λ t. fold (judged found b) t ps) (one (p.0 == b) refl) ∙ judged_all found b ps (cond (p.0 == b) (Some p.1) o)
  where
    one : (t : Bool) → (p.0 == b) ≡ t → cond (p.0 == b) (not (found p.0 p.1)) (is_wrong found b o) ≡ is_wrong found b (cond (p.0 == b) (Some p.1) o)
    one true e = (λ j. cond (e j) (not (found (eqb-true p.0 b e j) p.1)) (is_wrong found b o)) ∙ sym (ap (λ t. is_wrong found b (cond t (Some p.1) o)) e)
    one false e = ap (λ t. cond t (not (found p.0 p.1)) (is_wrong found b o)) e ∙ sym (ap (λ t. is_wrong found b (cond t (Some p.1) o)) e)

pub keeps_wrong : (found : ℕ → ℕ → Bool) (items : List PlainItem) (written : List (ℕ × ℕ)) (old rest new : ℕ → Bool)
    → ((b : ℕ) → rest b ≡ (old b && not (is_freed_by items b))) → StatesLike (written_by items) written
    → ((b : ℕ) → new b ≡ fold (judged found b) (rest b) written) → KeepsWrong found items old new
keeps_wrong found items written old rest new freed states judges live is b =
    judges b ∙ ap (λ t. fold (judged found b) t written) (freed b ∙ ap (λ t. t && not (is_freed_by items b)) (is b) ∙ gone (is_freed_by items b) (live b))
    ∙ judged_all found b written (cond (is_freed_by items b) None (live b)) ∙ ap (is_wrong found b) (states b (cond (is_freed_by items b) None (live b)))
  where
    gone : (f : Bool) (o : Option ℕ) → (is_wrong found b o && not f) ≡ is_wrong found b (cond f None o)
    gone true o = false_right (is_wrong found b o)
      where
        false_right : (t : Bool) → (t && false) ≡ false
        false_right true = refl
        false_right false = refl
    gone false o = true_right (is_wrong found b o)
      where
        true_right : (t : Bool) → (t && true) ≡ t
        true_right true = refl
        true_right false = refl

-- ---- the number that is kept

found_contains : (found : List (ℕ × ℕ)) (b x : ℕ) → is_found found b x ≡ true → Contains found (b, x)
found_contains [] b x e = absurd (cc)
found_contains (p ∷ ps) b x e = by (p.0 == b) (p.1 == x) refl refl (found_contains ps b x) e
  where
    by : (s t : Bool) → (p.0 == b) ≡ s → (p.1 == x) ≡ t → (is_found ps b x ≡ true → Contains ps (b, x)) → ((s && t) || is_found ps b x) ≡ true → Contains (p ∷ ps) (b, x)
    by true true f g later h = (0, omega arith, λ i. (eqb-true p.0 b f i, eqb-true p.1 x g i))
    by true false f g later h = contains_cons p (b, x) ps (later h)
    by false t f g later h = contains_cons p (b, x) ps (later h)

contains_found : (found : List (ℕ × ℕ)) (b x : ℕ) → Contains found (b, x) → is_found found b x ≡ true
contains_found [] b x c = absurd (contains_nothing (b, x) c)
contains_found (p ∷ ps) b x c = elim (contains_or p (b, x) ps c) [
  | inl same ↦ (λ i. (eq-eqb p.0 b (ap (λ (r : ℕ × ℕ). r.0) same) i && eq-eqb p.1 x (ap (λ (r : ℕ × ℕ). r.1) same) i) || is_found ps b x)
  | inr there ↦ ap (λ t. (p.0 == b && p.1 == x) || t) (contains_found ps b x there) ∙ true_last (p.0 == b && p.1 == x)
]
  where
    true_last : (t : Bool) → (t || true) ≡ true
    true_last true = refl
    true_last false = refl

module _ (ts : List (ℕ × List PlainItem)) (found : List (ℕ × ℕ)) (held : ℕ → ℕ → Bool) (is : (b x : ℕ) → held b x ≡ is_found found b x) where
  pub passes_if_clear : ((b : ℕ) → is_wrong held b (live_sum ts b) ≡ false) → Passes ts found
  passes_if_clear clear b x live = found_contains found b x (sym (is b x) ∙ of (held b x) (sym (ap (is_wrong held b) live) ∙ clear b))
    where
      of : (t : Bool) → not t ≡ false → t ≡ true
      of true e = refl
      of false e = absurd (cc)

  pub fails_if_wrong : (b : ℕ) → is_wrong held b (live_sum ts b) ≡ true → Passes ts found → ⊥
  fails_if_wrong b wrong passes = by (live_sum ts b) refl
    where
      by : (o : Option ℕ) → live_sum ts b ≡ o → ⊥
      by None e = absurd (cc (sym wrong ∙ ap (is_wrong held b) e))
      by (Some x) e = absurd (cc (sym (ap not (is b x ∙ contains_found found b x (passes b x e))) ∙ sym (ap (is_wrong held b) e) ∙ wrong))

taken_of : {X : Type 0} (n : ℕ) (xs : List X) (x : X) → n ≤ length xs → take n (xs ++ x ∷ []) ≡ take n xs
taken_of n xs x le = take-append-le n xs (x ∷ []) le

module _ (base : ℕ) (ts : List (ℕ × List PlainItem)) (found : List (ℕ × ℕ)) (t : ℕ × List PlainItem) where
  -- the last number passes
  pub kept_now : Passes (ts ++ t ∷ []) found → IsKeptNumber base (ts ++ t ∷ []) found (base + length ts + 1)
  kept_now passes = record {
    least = omega arith;
    most = omega (arith, count);
    passes = subst (λ xs. Passes xs found) (sym (take_all (base + length ts + 1 - base) (ts ++ t ∷ []) (omega (arith, count)))) passes;
    greatest = λ j more most _. absurd (omega (arith, count));
  }
    where
      count : length (ts ++ t ∷ []) ≡ length ts + 1
      count = length-append ts (t ∷ [])

  -- it does not
  pub kept_before : (k : ℕ) → IsKeptNumber base ts found k → (Passes (ts ++ t ∷ []) found → ⊥) → IsKeptNumber base (ts ++ t ∷ []) found k
  kept_before k h fails = record {
    least = h.least;
    most = omega (arith, count, h.most);
    passes = subst (λ xs. Passes xs found) (sym (taken_of (k - base) ts t (omega (arith, h.most)))) h.passes;
    greatest = λ j more most passes. elim (cases_lt j (base + length ts + 1)) [
      | inl below ↦ h.greatest j more (omega arith) (subst (λ xs. Passes xs found) (taken_of (j - base) ts t (omega arith)) passes)
      | inr last ↦ fails (subst (λ xs. Passes xs found) (take_all (j - base) (ts ++ t ∷ []) (omega (arith, count, h.least))) passes)
    ];
  }
    where
      count : length (ts ++ t ∷ []) ≡ length ts + 1
      count = length-append ts (t ∷ [])

-- ---- one more transaction

fold_last : {A B : Type 0} (f : B → A → B) (b : B) (xs : List A) (x : A) → fold f b (xs ++ x ∷ []) ≡ f (fold f b xs) x
fold_last f b [] x = refl
fold_last f b (y ∷ ys) x = fold_last f (f b y) ys x

module _ (base : ℕ) (txns : List (ℕ × List Item)) (i : ℕ) (t : ℕ × List Item) (found : List (ℕ × ℕ)) (held : ℕ → ℕ → Bool) (new : ℕ → Bool)
    (lt : i < length txns) (is : t ≡ get_or txns i t) where
  joined : plain_txns (take (i + 1) txns) ≡ plain_txns (take i txns) ++ (t.0, items_of t.1) ∷ []
  joined =
      ap plain_txns (take_more txns i t lt ∙ ap (λ y. take i txns ++ y ∷ []) (sym is))
      ∙ map-append (λ (u : ℕ × List Item). (u.0, items_of u.1)) (take i txns) (t ∷ [])

  count : length (plain_txns (take i txns)) ≡ i
  count = length-map (take i txns) (λ (u : ℕ × List Item). (u.0, items_of u.1)) ∙ length-take-le i txns (omega (arith, lt))

  pub wrong_more : (old : ℕ → Bool) → KeepsWrong held (items_of t.1) old new
      → ((b : ℕ) → old b ≡ is_wrong held b (live_sum (plain_txns (take i txns)) b))
      → (b : ℕ) → new b ≡ is_wrong held b (live_sum (plain_txns (take (i + 1) txns)) b)
  wrong_more old keeps before b =
      keeps (live_sum (plain_txns (take i txns))) before b
      ∙ sym (ap (is_wrong held b) (ap (λ ts. live_sum ts b) joined ∙ fold_last (λ old (u : ℕ × List PlainItem). after_items b old u.1) None (plain_txns (take i txns)) (t.0, items_of t.1)))

  module _ (same : (b x : ℕ) → held b x ≡ is_found found b x) (all : (b : ℕ) → new b ≡ is_wrong held b (live_sum (plain_txns (take (i + 1) txns)) b)) where
    pub kept_if_clear : (last : ℕ) → last ≡ base + i → ((b : ℕ) → new b ≡ false) → IsKeptNumber base (plain_txns (take (i + 1) txns)) found (last + 1)
    kept_if_clear last at clear =
        let passes : Passes (plain_txns (take (i + 1) txns)) found = passes_if_clear (plain_txns (take (i + 1) txns)) found held same (λ b. sym (all b) ∙ clear b) in
        let k : base + length (plain_txns (take i txns)) + 1 ≡ last + 1 = omega (arith, count, at) in
        subst (λ ts. IsKeptNumber base ts found (last + 1)) (sym joined)
        (subst (IsKeptNumber base (plain_txns (take i txns) ++ (t.0, items_of t.1) ∷ []) found) k
        (kept_now base (plain_txns (take i txns)) found (t.0, items_of t.1) (subst (λ ts. Passes ts found) joined passes)))

    pub kept_if_wrong : (k : ℕ) → (b : ℕ) × (new b ≡ true) → IsKeptNumber base (plain_txns (take i txns)) found k → IsKeptNumber base (plain_txns (take (i + 1) txns)) found k
    kept_if_wrong k wrong h =
        let fails : Passes (plain_txns (take (i + 1) txns)) found → ⊥ = fails_if_wrong (plain_txns (take (i + 1) txns)) found held same wrong.0 (sym (all wrong.0) ∙ wrong.1) in
        subst (λ ts. IsKeptNumber base ts found k) (sym joined)
        (kept_before base (plain_txns (take i txns)) found (t.0, items_of t.1) k h (λ p. fails (subst (λ ts. Passes ts found) (sym joined) p)))
