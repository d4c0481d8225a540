-- The sums that are found, and the number that is kept by them.
use Rattle.std.proofs.Common.{◌≡◌, ℕ, zero, suc, Bool, true, false, ◌||◌, if◌then◌else◌, List, [], ◌∷◌, map, refl, sym, ap, subst, ◌∙◌, ◌⊎◌, inl, inr, arith, Option, Some, None, IsSome}
use Rattle.std.specs.Prelude.{◌==◌, slice_get}
use Rattle.std.specs.List.{Contains, list_any}
use Rattle.std.proofs.lemmas.List.Elements.{Contains-append_left, Contains-append_right, Contains-append_cases}
use Rattle.fx_item.specs.Item.{PlainItem}
use Rattle.fx_verify.specs.Kept.{IsKeptNumber, is_written, last_stated, writes_block, written_by}
use Rattle.fx_uses.specs.Live.{AreNumbered, IsPut, put_in, txn_of}
use Rattle.fx_kept.specs.Kept.{IsKeptIn, none_live, sum_found}
use Rattle.fx_kept.proofs.VerifyKept.{items_of_kept, kept_of_items}
use Rattle.fx_kept.proofs.KeptAtMount.{kept_same}
use Rattle.fx_found.specs.Reading.{pair_with, sum_in, sums_in}

abbrev Transactions : Type 0
Transactions = List (ℕ × List PlainItem)

-- ---- the pairs

contains_head : {X : Type 0} (x : X) (xs : List X) → Contains (x ∷ xs) x
contains_head x xs = (0, omega arith, refl)

contains_none : {X : Type 0} (x : X) → Contains {X = X} [] x → ⊥
contains_none x c = omega (arith, c.1)

contains_cases : {X : Type 0} (x : X) (xs : List X) (y : X) → Contains (x ∷ xs) y → (x ≡ y) ⊎ Contains xs y
contains_cases x xs y (zero, l, e) = inl e
contains_cases x xs y (suc k, l, e) = inr (k, omega arith, e)

module _ (sum : List ℕ → ℕ) (begin : ℕ) (image : List (List ℕ)) where
  in_pair : (block b x : ℕ) (o : Option ℕ) → Contains (pair_with block o) (b, x) → (block ≡ b) × (o ≡ Some x)
  in_pair block b x None c = absurd (contains_none (b, x) c)
  in_pair block b x (Some y) c = elim (contains_cases (block, y) [] (b, x) c) [
    | inl e ↦ (ap (λ (p : ℕ × ℕ). p.0) e, ap (λ (p : ℕ × ℕ). Some p.1) e)
    | inr n ↦ absurd (contains_none (b, x) n)
  ]

  pair_in : (b x : ℕ) (o : Option ℕ) → o ≡ Some x → Contains (pair_with b o) (b, x)
  pair_in b x o e = subst (λ (p : Option ℕ). Contains (pair_with b p) (b, x)) (sym e) (contains_head (b, x) [])

  sums_have : (blocks : List ℕ) (b x : ℕ) → Contains (sums_in sum begin image blocks) (b, x) → Contains blocks b × (sum_found sum begin image b ≡ Some x)
  sums_have [] b x c = absurd (contains_none (b, x) c)
  sums_have (block ∷ blocks) b x c = elim (Contains-append_cases (sum_in sum begin image block) (sums_in sum begin image blocks) (b, x) c) [
    | inl here ↦
        let p = in_pair block b x (sum_found sum begin image block) here in
        (subst (λ (n : ℕ). Contains (block ∷ blocks) n) p.0 (contains_head block blocks), ap (sum_found sum begin image) (sym p.0) ∙ p.1)
    | inr later ↦
        let p = sums_have blocks b x later in
        ((suc p.0.0, omega (arith, p.0.1), p.0.2), p.1)
  ]

  have_sums : (blocks : List ℕ) (b x : ℕ) → Contains blocks b → sum_found sum begin image b ≡ Some x → Contains (sums_in sum begin image blocks) (b, x)
  have_sums [] b x c e = absurd (contains_none b c)
  have_sums (block ∷ blocks) b x c e = elim (contains_cases block blocks b c) [
    | inl here ↦ Contains-append_left (sum_in sum begin image block) (sums_in sum begin image blocks) (b, x) (subst (λ (n : ℕ). Contains (sum_in sum begin image n) (b, x)) (sym here) (pair_in b x (sum_found sum begin image b) e))
    | inr later ↦ Contains-append_right (sum_in sum begin image block) (sums_in sum begin image blocks) (b, x) (have_sums blocks b x later e)
  ]

-- ---- what transactions write

or_true : (x y : Bool) → y ≡ true → (x || y) ≡ true
or_true true y e = refl
or_true false y e = e

stated_any : (b : ℕ) (ps : List (ℕ × ℕ)) (old : Option ℕ) → IsSome (last_stated b ps old) → (list_any (λ p. p.0 == b) ps ≡ true) ⊎ IsSome old
stated_any b [] old s = inr s
stated_any b (p ∷ ps) old s = elim (stated_any b ps (if p.0 == b then Some p.1 else old) s) [
  | inl later ↦ inl (or_true (p.0 == b) (list_any (λ p. p.0 == b) ps) later)
  | inr here ↦ by_test (p.0 == b) refl here
]
  where
    by_test : (t : Bool) → (p.0 == b) ≡ t → IsSome (if p.0 == b then Some p.1 else old) → (list_any (λ p. p.0 == b) (p ∷ ps) ≡ true) ⊎ IsSome old
    by_test true e h = inl (ap (λ (t : Bool). t || list_any (λ p. p.0 == b) ps) e)
    by_test false e h = inr (subst (λ (t : Bool). IsSome (if t then Some p.1 else old)) e h)

put_written : (txns : Transactions) (n b : ℕ) → IsPut (map txn_of txns) n b → is_written txns b ≡ true
put_written txns n b p = at_place txns p.at p.got
  where
    at_place : (ts : Transactions) (i : ℕ) → slice_get (map txn_of ts) i ≡ Some p.txn → is_written ts b ≡ true
    at_place [] i e = let z : None ≡ Some p.txn = e in absurd (cc)
    at_place (t ∷ ts) zero e =
        let same : txn_of t ≡ p.txn = cc in
        elim (stated_any b (written_by t.1) None (subst (λ u. IsSome (put_in b u.puts)) (sym same) p.written)) [
          | inl here ↦ ap (λ (x : Bool). x || is_written ts b) here
          | inr none ↦ absurd (cc)
        ]
    at_place (t ∷ ts) (suc i) e = or_true (writes_block t.1 b) (is_written ts b) (at_place ts i e)

-- ---- the number that is kept

module _ (sum : List ℕ → ℕ) (begin : ℕ) (image : List (List ℕ)) (txns : Transactions) (blocks : List ℕ) (each : (b : ℕ) → (Contains blocks b → is_written txns b ≡ true) × (is_written txns b ≡ true → Contains blocks b)) where
  abbrev found_written : ℕ → Option ℕ
  found_written b = if is_written txns b then sum_found sum begin image b else None

  listed_found : (b x : ℕ) → Contains (sums_in sum begin image blocks) (b, x) → found_written b ≡ Some x
  listed_found b x c =
      let h = sums_have sum begin image blocks b x c in
      ap (λ (t : Bool). if t then sum_found sum begin image b else None) ((each b).0 h.0) ∙ h.1

  found_listed : (b x : ℕ) → found_written b ≡ Some x → Contains (sums_in sum begin image blocks) (b, x)
  found_listed b x e = by_test (is_written txns b) refl
    where
      by_test : (t : Bool) → is_written txns b ≡ t → Contains (sums_in sum begin image blocks) (b, x)
      by_test true w = have_sums sum begin image blocks b x ((each b).1 w) (sym (ap (λ (t : Bool). if t then sum_found sum begin image b else None) w) ∙ e)
      by_test false w = let z : None ≡ Some x = sym (ap (λ (t : Bool). if t then sum_found sum begin image b else None) w) ∙ e in absurd (cc)

  pub kept_in_image : (base k : ℕ) → AreNumbered base (map txn_of txns) → IsKeptNumber base txns (sums_in sum begin image blocks) k → IsKeptIn sum begin image base txns k
  kept_in_image base k numbered kept =
      kept_same found_written (sum_found sum begin image) base none_live (map txn_of txns) k
      (λ n b p. ap (λ (t : Bool). if t then sum_found sum begin image b else None) (put_written txns n b p))
      (kept_of_items base none_live txns (sums_in sum begin image blocks) found_written numbered listed_found found_listed k kept)

  pub image_keeps : (base k : ℕ) → AreNumbered base (map txn_of txns) → IsKeptIn sum begin image base txns k → IsKeptNumber base txns (sums_in sum begin image blocks) k
  image_keeps base k numbered kept =
      items_of_kept base none_live txns (sums_in sum begin image blocks) found_written numbered listed_found found_listed k
      (kept_same (sum_found sum begin image) found_written base none_live (map txn_of txns) k
      (λ n b p. sym (ap (λ (t : Bool). if t then sum_found sum begin image b else None) (put_written txns n b p))) kept)
