-- A part set anew or taken away in a map from numbers, and a key set anew in a map from keys.
use Rattle.std.proofs.Common.{◌≡◌, ◌≢◌, ◌⊎◌, inl, inr, ℕ, cond, Option, Some, None, sym, ap, ◌∙◌, arith}
use Rattle.std.specs.FinMap.{FinMap, get, insert, remove, get-insert, get-remove}
use Rattle.std.specs.Ordering.{nat_cmp}
use Rattle.std.specs.Cmp.{nat_cmp_total}
use Rattle.std.proofs.lemmas.Bool.{cases_eq}
use Rattle.fx_item.specs.LockKey.{key_cmp}
use Rattle.fx_item.specs.declared.lock.LockKey.{LockKey}
use Rattle.fx_item.proofs.KeyOrder.{lock_keys_total}
use Rattle.fx_keys.proofs.Orders.{key_itself, keys_untied, same_or_not}

pub some_is : {X : Type 0} (a b : X) → Some a ≡ Some b → a ≡ b
some_is a b e = cc

module _ {P : Type 0} where
  pub get_same : (m : FinMap nat_cmp P) (k : ℕ) (x : P) → get (insert m k x) k ≡ Some x
  get_same m k x = grind (arith, get-insert nat_cmp_total m k x k)

  pub get_other : (m : FinMap nat_cmp P) (k q : ℕ) (x : P) → q ≢ k → get (insert m k x) q ≡ get m q
  get_other m k q x ne = grind (arith, get-insert nat_cmp_total m k x q)

  pub gone_same : (m : FinMap nat_cmp P) (k : ℕ) → get (remove m k) k ≡ None
  gone_same m k = grind (arith, get-remove nat_cmp_total m k k)

  pub gone_other : (m : FinMap nat_cmp P) (k q : ℕ) → q ≢ k → get (remove m k) q ≡ get m q
  gone_other m k q ne = grind (arith, get-remove nat_cmp_total m k q)

  -- a part of the map with one set anew is the new one or was there
  pub found : (m : FinMap nat_cmp P) (k q : ℕ) (x p : P) → get (insert m k x) q ≡ Some p → ((q ≡ k) × (x ≡ p)) ⊎ ((q ≢ k) × (get m q ≡ Some p))
  found m k q x p is = elim (cases_eq q k) [
    | inl same ↦ inl (same, some_is x p (sym (get_same m k x) ∙ ap (get (insert m k x)) (sym same) ∙ is))
    | inr ne ↦ inr (ne, sym (get_other m k q x ne) ∙ is)
  ]

  pub stayed : (m : FinMap nat_cmp P) (k q : ℕ) (p : P) → get (remove m k) q ≡ Some p → (q ≢ k) × (get m q ≡ Some p)
  stayed m k q p is = elim (cases_eq q k) [
    | inl same ↦ absurd (none_some p (sym (gone_same m k) ∙ ap (get (remove m k)) (sym same) ∙ is))
    | inr ne ↦ (ne, sym (gone_other m k q ne) ∙ is)
  ]
    where
      none_some : (x : P) → (let a : Option P = None in a ≡ Some x) → ⊥
      none_some x e = cc

module _ {X : Type 0} where
  pub key_same : (m : FinMap key_cmp X) (k : LockKey) (x : X) → get (insert m k x) k ≡ Some x
  key_same m k x = get-insert lock_keys_total m k x k ∙ ap (λ b. cond b (Some x) (get m k)) (key_itself k)

  pub key_other : (m : FinMap key_cmp X) (k q : LockKey) (x : X) → q ≢ k → get (insert m k x) q ≡ get m q
  key_other m k q x ne = get-insert lock_keys_total m k x q ∙ ap (λ b. cond b (Some x) (get m q)) (keys_untied q k ne)

  pub key_found : (m : FinMap key_cmp X) (k q : LockKey) (x p : X) → get (insert m k x) q ≡ Some p → ((q ≡ k) × (x ≡ p)) ⊎ ((q ≢ k) × (get m q ≡ Some p))
  key_found m k q x p is = elim (same_or_not q k) [
    | inl same ↦ inl (same, some_is x p (sym (key_same m k x) ∙ ap (get (insert m k x)) (sym same) ∙ is))
    | inr ne ↦ inr (ne, sym (key_other m k q x ne) ∙ is)
  ]
