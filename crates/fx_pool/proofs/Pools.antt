-- What a pool keeps, and what follows for a buffer of it.
use Rattle.std.proofs.Common.{◌≡◌, ℕ, ◌+◌, ◌-◌, ◌*◌, ◌^◌, ◌≤◌, List, Option, Some, None, length, replicate, set, length-set, length-drop, take, drop, refl, sym, ◌∙◌, subst, ap, inr, arith}
use Rattle.std.proofs.Math.Nat.{pow-le-pow_right}
use Rattle.std.proofs.lemmas.List.{length-replicate, length-take}
use Rattle.fx_pool.specs.Region.{IsDivided, IsPool, RunBegins}
use Rattle.fx_pool.proofs.Divided.{IsDivided-whole}

pub few-blocks : (k : ℕ) → k ≤ 12 → 2 ^ k ≤ 4096
few-blocks k h = pow-le-pow_right {n = 2} (omega arith) h

pub IsPool-whole : (k : ℕ) (f o : List (Option ℕ)) (b : List ℕ) → k ≤ 12 → f ≡ set (replicate (2 ^ k) None) 0 (Some k) → o ≡ replicate (2 ^ k) None → length b ≡ 4096 * 2 ^ k → IsPool k f o b
IsPool-whole k f o b h e d l = record {
  order_le = h;
  free_len = ap (λ (x : List (Option ℕ)). length x) e ∙ length-set (replicate (2 ^ k) None) 0 (Some k) ∙ length-replicate (2 ^ k) None;
  out_len = ap (λ (x : List (Option ℕ)). length x) d ∙ length-replicate (2 ^ k) None;
  bytes_len = l;
  divided = subst (λ (x : List (Option ℕ)). IsDivided (2 ^ k) x o) (sym e) (subst (λ (x : List (Option ℕ)). IsDivided (2 ^ k) (set (replicate (2 ^ k) None) 0 (Some k)) x) (sym d) (IsDivided-whole (2 ^ k) k refl));
}

-- a buffer that is out lies within the region, and so do its bytes
pub buffer-within : (n : ℕ) (f o : List (Option ℕ)) (b : List ℕ) → IsPool n f o b → (s k : ℕ) → RunBegins o s k → s + 2 ^ k ≤ 2 ^ n
buffer-within n f o b h s k r = h.divided.tiling.within s k (inr r)

pub bytes-within : (n : ℕ) (f o : List (Option ℕ)) (b : List ℕ) → IsPool n f o b → (s k : ℕ) → RunBegins o s k → 4096 * (s + 2 ^ k) ≤ length b
bytes-within n f o b h s k r = omega (arith, h.bytes_len, buffer-within n f o b h s k r)

pub bytes-len : (n : ℕ) (f o : List (Option ℕ)) (b : List ℕ) → IsPool n f o b → (s k : ℕ) → RunBegins o s k → length (take (4096 * (s + 2 ^ k) - 4096 * s) (drop (4096 * s) b)) ≡ 4096 * 2 ^ k
bytes-len n f o b h s k r =
    let w : 4096 * (s + 2 ^ k) ≤ length b = bytes-within n f o b h s k r in
    omega (arith, length-take (4096 * (s + 2 ^ k) - 4096 * s) (drop (4096 * s) b), length-drop (4096 * s) b)
