-- The orders of keys and of lock keys are total, and keys that compare equal are equal.
use Rattle.std.proofs.Common.{◌≡◌, ℕ, List, ◌∷◌, refl, sym, ap, ◌∙◌, zero, suc}
use Rattle.std.specs.Cmp.{IsTotalOrder, nat_cmp_total, on_total, then_total}
use Rattle.std.specs.Cmp.Lexicographic.{on_texts}
use Rattle.std.specs.FinMap.{IsAntisymmetric, nat_cmp-IsAntisymmetric}
use Rattle.std.specs.Ordering.{nat_cmp}
use Rattle.std.proofs.lemmas.Map.Lookups.{exact_bytes}
use Rattle.fx_base.proofs.Orderings.{then_parts}
use Rattle.fx_item.specs.Item.{PlainKey, ObjectKey, AttributeKey, ExtentKey, ChildKey, GraveKey, AllocationKey}
use Rattle.fx_item.specs.LockKey as lock
use Rattle.fx_item.specs.Order.{key_cmp, rank}
use Rattle.fx_item.specs.declared.lock.LockKey.{LockKey}

-- ---- keys of items

-- the key that these numbers are the rank of
unrank : List ℕ → PlainKey
unrank (zero ∷ s ∷ i ∷ suc zero ∷ r) = ObjectKey s i
unrank (zero ∷ s ∷ i ∷ suc (suc zero) ∷ r) = AttributeKey s i r
unrank (zero ∷ s ∷ i ∷ suc (suc (suc zero)) ∷ a ∷ b ∷ r) = ExtentKey s i a b
unrank (zero ∷ s ∷ i ∷ suc (suc (suc (suc zero))) ∷ r) = ChildKey s i r
unrank (zero ∷ s ∷ i ∷ suc (suc (suc (suc (suc zero)))) ∷ r) = GraveKey s i
unrank (suc zero ∷ a ∷ b ∷ r) = AllocationKey a b
unrank r = AllocationKey 0 0

unrank-rank : (k : PlainKey) → unrank (rank k) ≡ k
unfolding unrank
unrank-rank (ObjectKey s i) = refl
unrank-rank (AttributeKey s i name) = refl
unrank-rank (ExtentKey s i a b) = refl
unrank-rank (ChildKey s i name) = refl
unrank-rank (GraveKey s i) = refl
unrank-rank (AllocationKey a b) = refl

pub keys_total : IsTotalOrder key_cmp
keys_total = on_texts rank

pub keys_exact : IsAntisymmetric key_cmp
keys_exact j k e = sym (unrank-rank j) ∙ ap unrank (exact_bytes (rank j) (rank k) e) ∙ unrank-rank k

-- ---- lock keys, which name nodes

pub lock_keys_total : IsTotalOrder lock.key_cmp
lock_keys_total = then_total (on_total (λ (k : LockKey). k.store) nat_cmp_total) (on_total (λ (k : LockKey). k.id) nat_cmp_total)

pub lock_keys_exact : IsAntisymmetric lock.key_cmp
lock_keys_exact j k e =
    let parts = then_parts (nat_cmp j.store k.store) (nat_cmp j.id k.id) e in
    let stores = nat_cmp-IsAntisymmetric j.store k.store parts.0 in
    let ids = nat_cmp-IsAntisymmetric j.id k.id parts.1 in
    λ i. record { store = stores i; id = ids i }
