-- The order of a pool that has a block more than a ring: as many digits as the ring's length has.
use Rattle.std.proofs.Common.{◌≡◌, inl, inr, ℕ, zero, suc, ◌+◌, ◌*◌, ◌-◌, ◌^◌, ◌<◌, ◌≤◌, refl, sym, ap, subst, ◌∙◌, arith}
use Rattle.std.specs.Prelude.{IfOk, Result, Ok, Err, None, replicate}
use Rattle.std.specs.List.{sum_by}
use Rattle.std.proofs.lemmas.List.Sums.{sum_by-cons}
use Rattle.std.specs.Int.Count.{count_leading_zeros}
use Rattle.std.proofs.lemmas.Bool.{cases_lt}
use Rattle.std.proofs.lemmas.Nat.{leading_length, pow_below}
use Rattle.fx_pool.specs.Region.{IsSound, Region, whole}
use Rattle.fx_journal.specs.Ring.{blocks_out, run_blocks}
use Rattle.fx_store.specs.Opening.{IsPoolFor}
use Rattle.fx_super.specs.declared.superblock.TheConstants.{MAX_RING}

few-digits : (ring m : ℕ) → ring ≤ MAX_RING → 2 ^ m ≤ 2 * ring + 1 → m < 13
few-digits ring m most low = elim (cases_lt m 13) [ inl less ↦ less | inr more ↦ absurd (let high : 2 ^ 12 < 2 ^ m = pow_below 12 m (omega (arith, more)) in omega (arith, most, low, high)) ]

pub ring-order : (ring zeros : ℕ) → ring ≤ MAX_RING → zeros ≡ count_leading_zeros 32 ring → (zeros ≤ 32) × (32 - zeros ≤ 12) × (ring + 1 ≤ 2 ^ (32 - zeros))
ring-order ring zeros most is =
    let d = leading_length 32 ring (omega (arith, most)) in
    let order : 32 - zeros ≡ d.0 = omega (arith, d.1, is) in
    (omega (arith, d.1, is), omega (arith, order, few-digits ring d.0 most d.3), rw order (omega (arith, d.2)))

none-out : (n : ℕ) → sum_by run_blocks (replicate n None) ≡ 0
none-out zero = refl
none-out (suc n) = omega (arith, sum_by-cons run_blocks None (replicate n None), none-out n)

-- a pool of that order has a block more
pub pool-for : (ring order : ℕ) → ring + 1 ≤ 2 ^ order → {E : Type 0} (r : Result Region E) → IfOk r (λ pool. pool ≡ whole order) → IfOk r IsSound → IfOk r (IsPoolFor ring)
pool-for ring order enough (Ok pool) is sound = record {
  sound = sound;
  free = ap blocks_out is ∙ none-out (2 ^ order);
  enough = subst (λ (p : Region). ring + 1 ≤ 2 ^ p.order) (sym is) enough;
}
pool-for ring order enough (Err e) is sound = tt
