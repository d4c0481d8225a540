-- What a number has after parts were cut off or put together.
use Rattle.std.specs.Prelude.{◌≡◌, ◌≢◌, ℕ, ◌<◌, ◌+◌, ◌++◌, Bool, true, false, not, cond, eqb, List, [], ◌∷◌, Some, None}
use Rattle.std.specs.Option.{is_some, option_or}
use Rattle.std.specs.Ordering.{nat_cmp, eq_by_cmp}
use Rattle.std.specs.Cmp.{nat_cmp_total, unsigned_tied}
use Rattle.std.specs.FinMap.{find, entries, get, retain_keys, from_entries, get-entries, get-retain_keys, get-from_entries, nat_cmp-IsAntisymmetric}
use Rattle.std.proofs.Common.{sym, refl, ap, ◌∙◌, arith, ne_eqb, eq-eqb}
use mathlib.Core.Logic.{dite}
use native.Mathlib.Decide.{ℕ_discrete}
use Rattle.fx_turn.specs.Parts.{Parts, Has, only, without, union, is_others, without_others}

not_cond : {A : Type 0} (b : Bool) (x y : A) → cond (not b) x y ≡ cond b y x
not_cond true x y = refl
not_cond false x y = refl

module _ {P : Type 0} where
  pub get-kept : (m : Parts P) (test : ℕ → Bool) (q : ℕ)
      → get (retain_keys m test) q ≡ cond (test q) (get m q) None
  get-kept m test q = get-retain_keys m test q
      (λ x e. ap test (sym (nat_cmp-IsAntisymmetric q x e)))

  pub get-only : (who : ℕ) (m : Parts P) (q : ℕ)
      → get (only who m) q ≡ cond (eqb q who) (get m q) None
  get-only who m q = get-kept m (λ q. eqb q who) q

  pub get-without : (who : ℕ) (m : Parts P) (q : ℕ)
      → get (without who m) q ≡ cond (eqb q who) None (get m q)
  get-without who m q = get-kept m (λ q. not (eqb q who)) q ∙ not_cond (eqb q who) (get m q) None

  pub get-without_others : (old mine new : Parts P) (q : ℕ)
      → get (without_others old mine new) q ≡ cond (is_others old mine q) None (get new q)
  get-without_others old mine new q =
      get-kept new (λ q. not (is_others old mine q)) q
      ∙ not_cond (is_others old mine q) (get new q) None

  find_both : (q : ℕ) (es fs : List (ℕ × P))
      → find nat_cmp q (es ++ fs) ≡ option_or (find nat_cmp q es) (find nat_cmp q fs)
  find_both q [] fs = refl
  find_both q (e ∷ es) fs = elim (eq_by_cmp nat_cmp q e.0) as
      (λ b. cond b (Some e.1) (find nat_cmp q (es ++ fs))
      ≡ option_or (cond b (Some e.1) (find nat_cmp q es)) (find nat_cmp q fs))
      [ true ↦ refl | false ↦ find_both q es fs ]

  pub get-union : (m n : Parts P) (q : ℕ) → get (union m n) q ≡ option_or (get m q) (get n q)
  get-union m n q = get-from_entries nat_cmp_total (entries m ++ entries n) q
      ∙ (find_both q (entries m) (entries n)
      ∙ (λ i. option_or (sym (get-entries m q) i) (sym (get-entries n q) i)))

  pub Has-without : (who : ℕ) (m : Parts P) (q : ℕ) → q ≢ who → Has m q → Has (without who m) q
  Has-without who m q ne h = ap is_some
      (get-without who m q ∙ ap (λ b. cond b None (get m q)) (ne_eqb q who ne)) ∙ h

  pub Has-only : (who : ℕ) (m : Parts P) → Has m who → Has (only who m) who
  Has-only who m h = ap is_some (get-only who m who
      ∙ ap (λ b. cond b (get m who) None) (eq-eqb who who refl)) ∙ h

  found_before : (es fs : List (ℕ × P)) (q : ℕ) → is_some (find nat_cmp q es) ≡ true
      → is_some (find nat_cmp q (es ++ fs)) ≡ true
  found_before [] fs q = λ e. absurd (cc)
  found_before (x ∷ es) fs q = elim (eq_by_cmp nat_cmp q x.0) as
      (λ b. is_some (cond b (Some x.1) (find nat_cmp q es)) ≡ true
      → is_some (cond b (Some x.1) (find nat_cmp q (es ++ fs))) ≡ true)
      [ true ↦ λ e. refl | false ↦ found_before es fs q ]

  found_last : (es : List (ℕ × P)) (k : ℕ) (x : P)
      → is_some (find nat_cmp k (es ++ (k, x) ∷ [])) ≡ true
  found_last [] k x = ap (λ (b : Bool). is_some (cond b (Some x) None))
      (unsigned_tied k k ∙ eq-eqb k k refl)
  found_last (y ∷ es) k x = elim (eq_by_cmp nat_cmp k y.0) as
      (λ b. is_some (cond b (Some y.1) (find nat_cmp k (es ++ (k, x) ∷ []))) ≡ true)
      [ true ↦ refl | false ↦ found_last es k x ]

  -- numbers from 0 on, put in one after another
  pub Has-push : (es : List (ℕ × P)) (k : ℕ) (x : P)
      → ((q : ℕ) → q < k → Has (from_entries {R = nat_cmp} es) q) → (q : ℕ) → q < k + 1
      → Has (from_entries {R = nat_cmp} (es ++ (k, x) ∷ [])) q
  Has-push es k x before q less = ap is_some (get-from_entries nat_cmp_total (es ++ (k, x) ∷ []) q)
      ∙ dite (ℕ_discrete q k)
      (λ same. ap (λ (z : ℕ). is_some (find nat_cmp z (es ++ (k, x) ∷ []))) same
      ∙ found_last es k x)
      (λ ne. found_before es ((k, x) ∷ []) q
      (ap is_some (sym (get-from_entries nat_cmp_total es q)) ∙ before q (omega arith)))
