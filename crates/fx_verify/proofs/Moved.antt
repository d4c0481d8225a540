-- Blocks that are moved one by one from those that are stated to those that are written.
use Rattle.std.proofs.Common.{◌≡◌, ◌⊎◌, inl, inr, ℕ, ◌==◌, Bool, true, false, cond, List, [], ◌∷◌, ◌++◌, Option, Some, None, refl, sym, ap, ◌∙◌, eqb-true}
use Rattle.std.specs.Ordering.{is_eq, nat_cmp}
use Rattle.fx_verify.specs.Kept.{last_stated}
use Rattle.fx_verify.specs.Written.{MovesTaken, sum_over}
use Rattle.fx_verify.proofs.Numbers.{is_eq_nat}
use Rattle.fx_verify.proofs.Sums.{last_stated-append}

module _ (may : ℕ → Bool) (stated left : ℕ → Option ℕ) (old new : List (ℕ × ℕ)) where
  -- the block is where it was
  abbrev pub IsAtHome : ℕ → Type 0
  IsAtHome b = (left b ≡ stated b) × ((before : Option ℕ) → last_stated b new before ≡ last_stated b old before)

  -- the block was moved, as it may be
  abbrev pub IsMoved : ℕ → Type 0
  IsMoved b = (may b ≡ true) × (left b ≡ None) × ((before : Option ℕ) → last_stated b new before ≡ sum_over (stated b) (last_stated b old before))

  abbrev pub AreMoved : Type 0
  AreMoved = (b : ℕ) → IsAtHome b ⊎ IsMoved b

none_some : (x : ℕ) → None ≡ Some x → ⊥
none_some x e = absurd (cc)

module _ (may : ℕ → Bool) (stated left : ℕ → Option ℕ) (old new : List (ℕ × ℕ)) where
  -- one more
  pub moved_more : (next : ℕ → Option ℕ) (k x : ℕ) → AreMoved may stated left old new → may k ≡ true → left k ≡ Some x
      → ((b : ℕ) → next b ≡ cond (is_eq (nat_cmp k b)) None (left b))
      → AreMoved may stated next old (new ++ (k, x) ∷ [])
  moved_more next k x so_far allowed found step b = by (k == b) refl (so_far b)
    where
      last : (before : Option ℕ) → last_stated b (new ++ (k, x) ∷ []) before ≡ cond (k == b) (Some x) (last_stated b new before)
      last before = last_stated-append b new ((k, x) ∷ []) before

      now : next b ≡ cond (k == b) None (left b)
      now = step b ∙ ap (λ t. cond t None (left b)) (is_eq_nat k b)

      by : (t : Bool) → (k == b) ≡ t → IsAtHome may stated left old new b ⊎ IsMoved may stated left old new b
          → IsAtHome may stated next old (new ++ (k, x) ∷ []) b ⊎ IsMoved may stated next old (new ++ (k, x) ∷ []) b
      by false e (inl h) = inl (
        now ∙ ap (λ t. cond t None (left b)) e ∙ h.0,
        λ before. last before ∙ ap (λ t. cond t (Some x) (last_stated b new before)) e ∙ h.1 before,
      )
      by false e (inr m) = inr (
        m.0,
        now ∙ ap (λ t. cond t None (left b)) e ∙ m.1,
        λ before. last before ∙ ap (λ t. cond t (Some x) (last_stated b new before)) e ∙ m.2 before,
      )
      by true e (inl h) =
          let same : k ≡ b = eqb-true k b e in
          let had : stated b ≡ Some x = sym h.0 ∙ ap left (sym same) ∙ found in
          inr (
            ap may (sym same) ∙ allowed,
            now ∙ ap (λ t. cond t None (left b)) e,
            λ before. last before ∙ ap (λ t. cond t (Some x) (last_stated b new before)) e ∙ sym (ap (λ o. sum_over o (last_stated b old before)) had),
          )
      by true e (inr m) = absurd (none_some x (sym m.1 ∙ ap left (sym (eqb-true k b e)) ∙ found))

  -- none is left that may be moved
  pub moved_all : AreMoved may stated left old new → ((b : ℕ) → may b ≡ true → left b ≡ None) → MovesTaken may stated left old new
  moved_all all gone = record { left_is = λ b. (at b (may b) refl (all b)).0; new_is = λ b before. (at b (may b) refl (all b)).1 before }
    where
      at : (b : ℕ) (t : Bool) → may b ≡ t → IsAtHome may stated left old new b ⊎ IsMoved may stated left old new b
          → (left b ≡ cond (may b) None (stated b))
          × ((before : Option ℕ) → last_stated b new before ≡ cond (may b) (sum_over (stated b) (last_stated b old before)) (last_stated b old before))
      at b false e (inl h) = (h.0 ∙ sym (ap (λ t. cond t None (stated b)) e), λ before. h.1 before ∙ sym (ap (λ t. cond t (sum_over (stated b) (last_stated b old before)) (last_stated b old before)) e))
      at b true e (inl h) =
          let none : stated b ≡ None = sym h.0 ∙ gone b e in (
            gone b e ∙ sym (ap (λ t. cond t None (stated b)) e),
            λ before. h.1 before ∙ sym (ap (λ o. sum_over o (last_stated b old before)) none)
                ∙ sym (ap (λ t. cond t (sum_over (stated b) (last_stated b old before)) (last_stated b old before)) e),
          )
      at b t e (inr m) = (
        m.1 ∙ sym (ap (λ t. cond t None (stated b)) m.0),
        λ before. m.2 before ∙ sym (ap (λ t. cond t (sum_over (stated b) (last_stated b old before)) (last_stated b old before)) m.0),
      )
