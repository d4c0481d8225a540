-- The buddy of a run, by the remainder of its start.
use Rattle.std.proofs.Common.{◌≡◌, ◌≢◌, ℕ, ◌+◌, ◌-◌, ◌*◌, ◌/◌, ◌%◌, ◌^◌, refl, ◌∙◌, ap, inl, inr, arith}
use Rattle.std.proofs.Math.Nat.{div-add-mod, mul-mod_left}
use Rattle.std.proofs.lemmas.Bool.{cases_eq}
use Rattle.fx_pool.specs.Region.{IsMultiple, IsBuddy}

pub first-half : (s k : ℕ) → s % (2 * 2 ^ k) ≡ 0 → IsBuddy s (s + 2 ^ k) k
first-half s k e = record {
  start = s;
  aligned = (s / (2 * 2 ^ k), omega (arith, div-add-mod s (2 * 2 ^ k)));
  halves = inl (refl, refl);
}

odd_multiple : (s q m : ℕ) → s ≡ q * m → s % (2 * m) ≢ 0 → s ≡ (q / 2) * (2 * m) + m
odd_multiple s q m e ne = elim (cases_eq (q % 2) 0) [
  | inl z ↦ (let h : q ≡ (q / 2) * 2 = omega arith in
      let w : s ≡ (q / 2) * (2 * m) = omega (arith, ap (λ x. x * m) h) in
      absurd (ne (ap (λ x. x % (2 * m)) w ∙ mul-mod_left (q / 2) (2 * m))))
  | inr z ↦ (let h : q ≡ (q / 2) * 2 + 1 = omega arith in omega (arith, ap (λ x. x * m) h))
]

pub second-half : (s k : ℕ) → IsMultiple s (2 ^ k) → s % (2 * 2 ^ k) ≢ 0 → IsBuddy s (s - 2 ^ k) k
second-half s k (q, e) ne = let w : s ≡ (q / 2) * (2 * 2 ^ k) + 2 ^ k = odd_multiple s q (2 ^ k) e ne in record {
  start = s - 2 ^ k;
  aligned = (q / 2, omega arith);
  halves = inr (omega arith, refl);
}
