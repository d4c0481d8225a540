-- A tiling after a run is cut into halves, or two halves are joined.
use Rattle.std.proofs.Common.{◌≡◌, ◌≢◌, ℕ, suc, ◌+◌, ◌*◌, ◌^◌, ◌<◌, ◌≤◌, sym, ◌∙◌, subst, ap, arith, inl, inr}
use Rattle.std.proofs.Math.Nat.{pow-suc}
use Rattle.std.proofs.lemmas.Bool.{cases_eq, cases_lt}
use Rattle.fx_pool.specs.Region.{IsTiling, Covers, IsMultiple}

pub IsTiling-same : (n : ℕ) (R S : ℕ → ℕ → Type 0) → ((t j : ℕ) → S t j → R t j) → ((t j : ℕ) → R t j → S t j) → IsTiling n R → IsTiling n S
IsTiling-same n R S back forth h = record {
  aligned = λ s k r. h.aligned s k (back s k r);
  within = λ s k r. h.within s k (back s k r);
  apart = λ s k t j r q lt. h.apart s k t j (back s k r) (back t j q) lt;
  covered = λ b lt. let w : Covers R b = h.covered b lt in record { start = w.start; order = w.order; begins = forth w.start w.order w.begins; low = w.low; high = w.high };
}

-- where a run of order k + 1 begins at s, the halves of it begin, and each other run
pub data Halved (R : ℕ → ℕ → Type 0) (s k t j : ℕ) : Type 0 where
  lower : t ≡ s → j ≡ k → Halved R s k t j
  upper : t ≡ s + 2 ^ k → j ≡ k → Halved R s k t j
  other : t ≢ s → R t j → Halved R s k t j

double : (q m : ℕ) → q * (m * 2) ≡ (2 * q) * m
double q m = omega arith

double_more : (q m : ℕ) → q * (m * 2) + m ≡ (2 * q + 1) * m
double_more q m = omega arith

halved_aligned : (n s k : ℕ) (R : ℕ → ℕ → Type 0) → IsTiling n R → R s (suc k) → (t j : ℕ) → Halved R s k t j → IsMultiple t (2 ^ j)
halved_aligned n s k R h r t j (lower e f) =
    let (q, a) = h.aligned s (suc k) r in
    subst (λ (x : ℕ). IsMultiple t (2 ^ x)) (sym f) (2 * q, e ∙ a ∙ ap (λ x. q * x) (pow-suc 2 k) ∙ double q (2 ^ k))
halved_aligned n s k R h r t j (upper e f) =
    let (q, a) = h.aligned s (suc k) r in
    subst (λ (x : ℕ). IsMultiple t (2 ^ x)) (sym f) (2 * q + 1, e ∙ ap (λ x. x + 2 ^ k) (a ∙ ap (λ x. q * x) (pow-suc 2 k)) ∙ double_more q (2 ^ k))
halved_aligned n s k R h r t j (other ne o) = h.aligned t j o

halved_within : (n s k : ℕ) (R : ℕ → ℕ → Type 0) → IsTiling n R → R s (suc k) → (t j : ℕ) → Halved R s k t j → t + 2 ^ j ≤ n
halved_within n s k R h r t j (lower e f) = omega (arith, h.within s (suc k) r, pow-suc 2 k, ap (λ x. 2 ^ x) f)
halved_within n s k R h r t j (upper e f) = omega (arith, h.within s (suc k) r, pow-suc 2 k, ap (λ x. 2 ^ x) f)
halved_within n s k R h r t j (other ne o) = h.within t j o

-- s < u when u is another run, and after s
other_after : (n s k : ℕ) (R : ℕ → ℕ → Type 0) → IsTiling n R → R s (suc k) → (u i : ℕ) → R u i → s < u → s + 2 ^ k + 2 ^ k ≤ u
other_after n s k R h r u i o lt = omega (arith, h.apart s (suc k) u i r o lt, pow-suc 2 k)

halved_apart : (n s k : ℕ) (R : ℕ → ℕ → Type 0) → IsTiling n R → R s (suc k) → (t j u i : ℕ) → Halved R s k t j → Halved R s k u i → t < u → t + 2 ^ j ≤ u
halved_apart n s k R h r t j u i (lower e f) (lower e' f') lt = absurd (omega arith)
halved_apart n s k R h r t j u i (lower e f) (upper e' f') lt = omega (arith, ap (λ x. 2 ^ x) f)
halved_apart n s k R h r t j u i (lower e f) (other ne o) lt = omega (arith, other_after n s k R h r u i o (omega arith), ap (λ x. 2 ^ x) f)
halved_apart n s k R h r t j u i (upper e f) (lower e' f') lt = absurd (omega arith)
halved_apart n s k R h r t j u i (upper e f) (upper e' f') lt = absurd (omega arith)
halved_apart n s k R h r t j u i (upper e f) (other ne o) lt = omega (arith, other_after n s k R h r u i o (omega arith), ap (λ x. 2 ^ x) f)
halved_apart n s k R h r t j u i (other ne o) (lower e' f') lt = omega (arith, h.apart t j s (suc k) o r (omega arith))
halved_apart n s k R h r t j u i (other ne o) (upper e' f') lt = elim (cases_lt t s) [
  | inl b ↦ omega (arith, h.apart t j s (suc k) o r b)
  | inr ge ↦ let a : s < t = omega arith in absurd (omega (arith, other_after n s k R h r t j o a))
]
halved_apart n s k R h r t j u i (other ne o) (other ne' o') lt = h.apart t j u i o o' lt

halved_covered : (n s k : ℕ) (R S : ℕ → ℕ → Type 0) → ((j : ℕ) → R s j → j ≡ suc k) → S s k → S (s + 2 ^ k) k → ((t j : ℕ) → t ≢ s → R t j → S t j) → (b : ℕ) → Covers R b → Covers S b
halved_covered n s k R S one low high keep b w = elim (cases_eq w.start s) [
  | inl e ↦ (let long : 2 ^ w.order ≡ 2 ^ k * 2 = ap (λ x. 2 ^ x) (one w.order (subst (λ (x : ℕ). R x w.order) e w.begins)) ∙ pow-suc 2 k in
      elim (cases_lt b (s + 2 ^ k)) [
        | inl lt ↦ record { start = s; order = k; begins = low; low = omega (arith, w.low); high = lt }
        | inr ge ↦ record { start = s + 2 ^ k; order = k; begins = high; low = ge; high = omega (arith, w.high, long) }
      ])
  | inr ne ↦ record { start = w.start; order = w.order; begins = keep w.start w.order ne w.begins; low = w.low; high = w.high }
]

-- the run of order k + 1 that began at s is cut into its halves
pub IsTiling-halved : (n s k : ℕ) (R S : ℕ → ℕ → Type 0) → IsTiling n R → R s (suc k) → ((j : ℕ) → R s j → j ≡ suc k) → S s k → S (s + 2 ^ k) k → ((t j : ℕ) → S t j → Halved R s k t j) → ((t j : ℕ) → t ≢ s → R t j → S t j) → IsTiling n S
IsTiling-halved n s k R S h r one low high back keep = record {
  aligned = λ t j x. halved_aligned n s k R h r t j (back t j x);
  within = λ t j x. halved_within n s k R h r t j (back t j x);
  apart = λ t j u i x y lt. halved_apart n s k R h r t j u i (back t j x) (back u i y) lt;
  covered = λ b lt. halved_covered n s k R S one low high keep b (h.covered b lt);
}

-- where two halves of order k begin, the first of them at s, the joined run begins at s, and each other run
pub data Joined (R : ℕ → ℕ → Type 0) (s k t j : ℕ) : Type 0 where
  whole : t ≡ s → j ≡ suc k → Joined R s k t j
  other : t ≢ s → t ≢ s + 2 ^ k → R t j → Joined R s k t j

joined_aligned : (n s k : ℕ) (R : ℕ → ℕ → Type 0) → IsTiling n R → IsMultiple s (2 * 2 ^ k) → (t j : ℕ) → Joined R s k t j → IsMultiple t (2 ^ j)
joined_aligned n s k R h (q, a) t j (whole e f) =
    subst (λ (x : ℕ). IsMultiple t (2 ^ x)) (sym f) (q, omega (arith, ap (λ x. q * x) (pow-suc 2 k)))
joined_aligned n s k R h m t j (other ne ne' o) = h.aligned t j o

joined_within : (n s k : ℕ) (R : ℕ → ℕ → Type 0) → IsTiling n R → R (s + 2 ^ k) k → (t j : ℕ) → Joined R s k t j → t + 2 ^ j ≤ n
joined_within n s k R h r t j (whole e f) = omega (arith, h.within (s + 2 ^ k) k r, pow-suc 2 k, ap (λ x. 2 ^ x) f)
joined_within n s k R h r t j (other ne ne' o) = h.within t j o

joined_apart : (n s k : ℕ) (R : ℕ → ℕ → Type 0) → IsTiling n R → R s k → R (s + 2 ^ k) k → (t j u i : ℕ) → Joined R s k t j → Joined R s k u i → t < u → t + 2 ^ j ≤ u
joined_apart n s k R h r r' t j u i (whole e f) (whole e' f') lt = absurd (omega arith)
joined_apart n s k R h r r' t j u i (whole e f) (other ne ne' o) lt =
    let first : s + 2 ^ k ≤ u = h.apart s k u i r o (omega arith) in
    let second : (s + 2 ^ k) + 2 ^ k ≤ u = h.apart (s + 2 ^ k) k u i r' o (omega arith) in
    omega (arith, pow-suc 2 k, ap (λ x. 2 ^ x) f)
joined_apart n s k R h r r' t j u i (other ne ne' o) (whole e f) lt = omega (arith, h.apart t j s k o r (omega arith))
joined_apart n s k R h r r' t j u i (other ne ne' o) (other x x' o') lt = h.apart t j u i o o' lt

joined_covered : (n s k : ℕ) (R S : ℕ → ℕ → Type 0) → ((j : ℕ) → R s j → j ≡ k) → ((j : ℕ) → R (s + 2 ^ k) j → j ≡ k) → S s (suc k) → ((t j : ℕ) → t ≢ s → t ≢ s + 2 ^ k → R t j → S t j) → (b : ℕ) → Covers R b → Covers S b
joined_covered n s k R S one one' at keep b w = elim (cases_eq w.start s) [
  | inl e ↦ (let long : 2 ^ w.order ≡ 2 ^ k = ap (λ x. 2 ^ x) (one w.order (subst (λ (x : ℕ). R x w.order) e w.begins)) in
      record { start = s; order = suc k; begins = at; low = omega (arith, w.low); high = omega (arith, w.high, long, pow-suc 2 k) })
  | inr ne ↦ elim (cases_eq w.start (s + 2 ^ k)) [
    | inl e ↦ (let long : 2 ^ w.order ≡ 2 ^ k = ap (λ x. 2 ^ x) (one' w.order (subst (λ (x : ℕ). R x w.order) e w.begins)) in
        record { start = s; order = suc k; begins = at; low = omega (arith, w.low); high = omega (arith, w.high, long, pow-suc 2 k) })
    | inr ne' ↦ record { start = w.start; order = w.order; begins = keep w.start w.order ne ne' w.begins; low = w.low; high = w.high }
  ]
]

-- the two halves of order k, of which the first began at s, are one run
pub IsTiling-joined : (n s k : ℕ) (R S : ℕ → ℕ → Type 0) → IsTiling n R → IsMultiple s (2 * 2 ^ k) → R s k → R (s + 2 ^ k) k → ((j : ℕ) → R s j → j ≡ k) → ((j : ℕ) → R (s + 2 ^ k) j → j ≡ k) → S s (suc k) → ((t j : ℕ) → S t j → Joined R s k t j) → ((t j : ℕ) → t ≢ s → t ≢ s + 2 ^ k → R t j → S t j) → IsTiling n S
IsTiling-joined n s k R S h m r r' one one' at back keep = record {
  aligned = λ t j x. joined_aligned n s k R h m t j (back t j x);
  within = λ t j x. joined_within n s k R h r' t j (back t j x);
  apart = λ t j u i x y lt. joined_apart n s k R h r r' t j u i (back t j x) (back u i y) lt;
  covered = λ b lt. joined_covered n s k R S one one' at keep b (h.covered b lt);
}
