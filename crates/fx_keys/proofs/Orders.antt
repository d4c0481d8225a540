-- The orders of keys and of holds are total, and only equal ones tie; what a map of holds answers after a call.
use Rattle.std.proofs.Common.{◌≡◌, ◌≢◌, ℕ, true, false, cond, not, ◌==◌, ◌&&◌, eqb, Some, None, Ordering, Less, Equal, Greater, refl, sym, ap, ◌∙◌, subst, eqb-true, ne_eqb, ◌⊎◌, inl, inr}
use Rattle.std.specs.Ordering.{nat_cmp, ordering_then, eq_by_cmp, is_eq}
use Rattle.std.specs.Cmp.{IsTotalOrder, then_total, on_total, nat_cmp_total, tied_itself}
use Rattle.std.specs.FinMap as map
use Rattle.std.specs.FinMap.{IsAntisymmetric, nat_cmp-IsAntisymmetric, get-insert, get-retain_keys}
use Rattle.std.proofs.lemmas.Bool.{eqb-false}
use Rattle.fx_item.specs.declared.lock.LockKey.{LockKey}
use Rattle.fx_item.specs.declared.lock.Mode.{Mode}
use Rattle.fx_item.specs.LockKey.{key_cmp}
use Rattle.fx_item.proofs.KeyOrder.{lock_keys_total, lock_keys_exact}
use Rattle.fx_keys.specs.Table.{hold_cmp}

pub hold_total : IsTotalOrder hold_cmp
hold_total = then_total (on_total (λ (x : LockKey × ℕ). x.0) lock_keys_total) (on_total (λ (x : LockKey × ℕ). x.1) nat_cmp_total)

-- what ties by two orders ties by each
then_parts : (a b : Ordering) → ordering_then a b ≡ Equal → (a ≡ Equal) × (b ≡ Equal)
then_parts Less b e = absurd (cc)
then_parts Equal b e = (refl, e)
then_parts Greater b e = absurd (cc)

pub hold_exact : IsAntisymmetric hold_cmp
hold_exact x y e =
    let parts = then_parts (key_cmp x.0 y.0) (nat_cmp x.1 y.1) e in
    let keys = lock_keys_exact x.0 y.0 parts.0 in
    let numbers = nat_cmp-IsAntisymmetric x.1 y.1 parts.1 in
    λ i. (keys i, numbers i)

pub key_irreflexive : (k : LockKey) → key_cmp k k ≢ Less
key_irreflexive k e = let tie = tied_itself lock_keys_total k in absurd (cc)

from_is_eq : (r : Ordering) → is_eq r ≡ true → r ≡ Equal
from_is_eq Less e = absurd (cc)
from_is_eq Equal e = refl
from_is_eq Greater e = absurd (cc)

-- holds of two numbers do not tie
pub numbers_apart : (j k : LockKey) (v w : ℕ) → v ≢ w → eq_by_cmp hold_cmp (j, v) (k, w) ≡ false
numbers_apart j k v w ne =
    elim (eq_by_cmp hold_cmp (j, v) (k, w)) as (λ b. eq_by_cmp hold_cmp (j, v) (k, w) ≡ b → b ≡ false) [
      | true ↦ λ e. absurd (ne (ap (λ (x : LockKey × ℕ). x.1) (hold_exact (j, v) (k, w) (from_is_eq _ e))))
      | false ↦ λ e. refl
    ] refl

-- a hold ties with itself
pub hold_itself : (x : LockKey × ℕ) → eq_by_cmp hold_cmp x x ≡ true
hold_itself x = ap is_eq (tied_itself hold_total x)

module _ (holds : map.FinMap hold_cmp Mode) where
  pub get-insert_same : (x : LockKey × ℕ) (mode : Mode) → map.get (map.insert holds x mode) x ≡ Some mode
  get-insert_same x mode = get-insert hold_total holds x mode x ∙ ap (λ b. cond b (Some mode) (map.get holds x)) (hold_itself x)

  -- a hold of another number stays
  pub get-insert_other : (k : LockKey) (who : ℕ) (mode : Mode) (j : LockKey) (w : ℕ) → w ≢ who → map.get (map.insert holds (k, who) mode) (j, w) ≡ map.get holds (j, w)
  get-insert_other k who mode j w ne = get-insert hold_total holds (k, who) mode (j, w) ∙ ap (λ b. cond b (Some mode) (map.get holds (j, w))) (numbers_apart j k w who ne)

  -- the number's holds are gone, and no others
  pub get-left : (who : ℕ) (x : LockKey × ℕ) → map.get (map.retain_keys holds (λ hold. not (hold.1 == who))) x ≡ cond (not (x.1 == who)) (map.get holds x) None
  get-left who x = get-retain_keys holds (λ hold. not (hold.1 == who)) x (λ y tie. ap (λ (z : LockKey × ℕ). not (z.1 == who)) (sym (hold_exact x y tie)))

  pub get-left_other : (who : ℕ) (j : LockKey) (w : ℕ) → w ≢ who → map.get (map.retain_keys holds (λ hold. not (hold.1 == who))) (j, w) ≡ map.get holds (j, w)
  get-left_other who j w ne = get-left who (j, w) ∙ ap (λ b. cond (not b) (map.get holds (j, w)) None) (ne_eqb w who ne)

-- holds of two keys do not tie
pub keys_apart : (j k : LockKey) (v w : ℕ) → j ≢ k → eq_by_cmp hold_cmp (j, v) (k, w) ≡ false
keys_apart j k v w ne =
    elim (eq_by_cmp hold_cmp (j, v) (k, w)) as (λ b. eq_by_cmp hold_cmp (j, v) (k, w) ≡ b → b ≡ false) [
      | true ↦ λ e. absurd (ne (ap (λ (x : LockKey × ℕ). x.0) (hold_exact (j, v) (k, w) (from_is_eq _ e))))
      | false ↦ λ e. refl
    ] refl

-- holds of one key tie where the numbers do
pub one_key : (k : LockKey) (v w : ℕ) → eq_by_cmp hold_cmp (k, v) (k, w) ≡ eq_by_cmp nat_cmp v w
one_key k v w = ap (λ r. is_eq (ordering_then r (nat_cmp v w))) (tied_itself lock_keys_total k)

-- to tie and to be equal is one for numbers
pub nat_ties : (a b : ℕ) → eq_by_cmp nat_cmp a b ≡ eqb a b
nat_ties a b =
    elim (eqb a b) as (λ t. eqb a b ≡ t → eq_by_cmp nat_cmp a b ≡ t) [
      | true ↦ λ e. subst (λ x. eq_by_cmp nat_cmp a x ≡ true) (eqb-true a b e) (ap is_eq (tied_itself nat_cmp_total a))
      | false ↦ λ e. elim (eq_by_cmp nat_cmp a b) as (λ t. eq_by_cmp nat_cmp a b ≡ t → t ≡ false) [
        | true ↦ λ t. absurd (eqb-false a b e (nat_cmp-IsAntisymmetric a b (from_is_eq _ t)))
        | false ↦ λ t. refl
      ] refl
    ] refl

-- a key is another or not
pub same_or_not : (j k : LockKey) → (j ≡ k) ⊎ (j ≢ k)
same_or_not j k =
    elim (key_cmp j k) as (λ r. key_cmp j k ≡ r → (j ≡ k) ⊎ (j ≢ k)) [
      | Less ↦ λ e. inr (λ same. let tie = tied_itself lock_keys_total k in let here : key_cmp k k ≡ Less = subst (λ x. key_cmp x k ≡ Less) same e in absurd (cc))
      | Equal ↦ λ e. inl (lock_keys_exact j k e)
      | Greater ↦ λ e. inr (λ same. let tie = tied_itself lock_keys_total k in let here : key_cmp k k ≡ Greater = subst (λ x. key_cmp x k ≡ Greater) same e in absurd (cc))
    ] refl

-- a key ties with itself alone
pub key_itself : (k : LockKey) → eq_by_cmp key_cmp k k ≡ true
key_itself k = ap is_eq (tied_itself lock_keys_total k)

pub keys_untied : (j k : LockKey) → j ≢ k → eq_by_cmp key_cmp j k ≡ false
keys_untied j k ne =
    elim (eq_by_cmp key_cmp j k) as (λ b. eq_by_cmp key_cmp j k ≡ b → b ≡ false) [
      | true ↦ λ e. absurd (ne (lock_keys_exact j k (from_is_eq _ e)))
      | false ↦ λ e. refl
    ] refl

-- two holds tie where both the keys and the numbers do
pub hold_ties : (j k : LockKey) (v w : ℕ) → eq_by_cmp hold_cmp (j, v) (k, w) ≡ (eq_by_cmp key_cmp j k && eqb v w)
hold_ties j k v w =
    elim (same_or_not j k) [
      | inl e ↦ subst (λ x. eq_by_cmp hold_cmp (j, v) (x, w) ≡ (eq_by_cmp key_cmp j x && eqb v w)) e (one_key j v w ∙ nat_ties v w ∙ ap (λ b. b && eqb v w) (sym (key_itself j)))
      | inr ne ↦ keys_apart j k v w ne ∙ ap (λ b. b && eqb v w) (sym (keys_untied j k ne))
    ]
