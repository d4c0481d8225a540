-- The steps of a take and of a give.
use Rattle.std.proofs.Common.{◌≡◌, ℕ, suc, min, ◌+◌, ◌-◌, ◌*◌, ◌^◌, ◌<◌, ◌≤◌, List, Option, Some, None, length, set, get_or, add-one, sym, ◌∙◌, subst, ap, inr, arith, get_or-set_same}
use Rattle.std.proofs.lemmas.Nat.{pow_pos}
use Rattle.std.proofs.lemmas.List.{set-set, set-get_or}
use Rattle.fx_pool.specs.Region.{IsDivided, IsPool, RunBegins, IsBuddy, IsMultiple, Region, Run}
use Rattle.fx_pool.proofs.Tables.{HasRun-below, set-at}
use Rattle.fx_pool.proofs.Divided.{IsDivided-halved, IsDivided-joined, IsDivided-back, IsBuddy-min, IsBuddy-unique, joined-begins, upper-none, upper-below, out-order}

-- the buffer that is given, in the table of those that are out
pub buffer-run : (o : List (Option ℕ)) (s k : ℕ) (p : Region) (r : Run) → o ≡ p.out → s ≡ r.start → k ≡ r.order → RunBegins p.out r.start r.order → RunBegins o s k
buffer-run o s k p r a b c h =
    subst (λ (x : List (Option ℕ)). RunBegins x s k) (sym a)
    (subst (λ (x : ℕ). RunBegins p.out x k) (sym b)
    (subst (λ (x : ℕ). RunBegins p.out r.start x) (sym c) h))

-- a buffer that is struck out, and put back
pub struck-back : (o : List (Option ℕ)) (s k : ℕ) → RunBegins o s k → set (set o s None) s (Some k) ≡ o
struck-back o s k r = set-set o s None (Some k) ∙ ap (λ (x : Option ℕ). set o s x) (sym r) ∙ set-get_or o s None

pub struck-none : (o : List (Option ℕ)) (s k : ℕ) → RunBegins o s k → get_or (set o s None) s None ≡ None
struck-none o s k r = get_or-set_same o s None None (HasRun-below o s k r)

-- a buffer of order r is halved
pub record Halving (n : ℕ) (f o : List (Option ℕ)) (s k : ℕ) : Type 0 where
  pub below : s + 2 ^ k < length f
  pub none : get_or f (s + 2 ^ k) None ≡ None
  pub divided : IsDivided (2 ^ n) (set f (s + 2 ^ k) (Some k)) (set o s (Some k))

halving : (n : ℕ) (f o : List (Option ℕ)) (s k : ℕ) → s < length o → length f ≡ 2 ^ n → IsDivided (2 ^ n) f (set o s (Some (suc k))) → Halving n f o s k
halving n f o s k u e h =
    let b : s + 2 ^ k < length f = omega (arith, upper-below (2 ^ n) f o s k u h, pow_pos k) in
    record { below = b; none = upper-none (2 ^ n) f o s k u h; divided = IsDivided-halved (2 ^ n) f o s k u b h }

pub halving-of : (n : ℕ) (f o : List (Option ℕ)) (s r : ℕ) → s < length o → length f ≡ 2 ^ n → 0 < r → IsDivided (2 ^ n) f (set o s (Some r)) → Halving n f o s (r - 1)
halving-of n f o s r u e p h =
    let q : r ≡ suc (r - 1) = omega arith in
    halving n f o s (r - 1) u e (subst (λ (x : ℕ). IsDivided (2 ^ n) f (set o s (Some x))) q h)

-- a buffer and its free buddy at b are one buffer at m
pub record Joining (n : ℕ) (f o : List (Option ℕ)) (b k m : ℕ) : Type 0 where
  pub below : m < length o
  pub none : get_or o m None ≡ None
  pub divided : IsDivided (2 ^ n) (set f b None) (set o m (Some (k + 1)))
  pub order : k + 1 ≤ n
  pub aligned : IsMultiple m (2 ^ (k + 1))
  pub within : m < 2 ^ n

joining : (n : ℕ) (f o : List (Option ℕ)) (b k m : ℕ) → m < length o → get_or o m None ≡ None → IsDivided (2 ^ n) (set f b None) (set o m (Some (k + 1))) → Joining n f o b k m
joining n f o b k m u z h = record {
  below = u;
  none = z;
  divided = h;
  order = out-order n (set f b None) o m (k + 1) u h;
  aligned = h.tiling.aligned m (k + 1) (inr (set-at o m (k + 1) u));
  within = omega (arith, h.tiling.within m (k + 1) (inr (set-at o m (k + 1) u)), pow_pos (k + 1));
}

pub joining-of : (n : ℕ) (f o : List (Option ℕ)) (s b k m : ℕ) → IsBuddy s b k → IsDivided (2 ^ n) f (set o s (Some k)) → s < length o → get_or o s None ≡ None → RunBegins f b k → m ≡ min s b → Joining n f o b k m
joining-of n f o s b k m d h u z r e =
    let q : m ≡ d.start = e ∙ IsBuddy-min s b k d in
    let j = joined-begins (2 ^ n) f o s b k d h u z r in
    let h' : IsDivided (2 ^ n) (set f b None) (set o d.start (Some (k + 1))) =
    subst (λ (x : ℕ). IsDivided (2 ^ n) (set f b None) (set o d.start (Some x))) (sym (add-one k)) (IsDivided-joined (2 ^ n) f o s b k d h u z r) in
    subst (λ (x : ℕ). Joining n f o b k x) (sym q) (joining n f o b k d.start j.0 j.1 h')

-- a buffer whose buddy is not free is free
pub back-of : (n : ℕ) (f o : List (Option ℕ)) (s b k : ℕ) → IsBuddy s b k → s < length f → s < length o → get_or o s None ≡ None → IsDivided n f (set o s (Some k)) → (RunBegins f b k → ⊥) → IsDivided n (set f s (Some k)) o
back-of n f o s b k d a u z h alone = IsDivided-back n f o s k a u z h (λ c e x. alone (subst (λ (w : ℕ). RunBegins f w k) (sym (IsBuddy-unique s b c k d e)) x))

-- a pool with other tables of the same lengths
pub IsPool-next : (n m : ℕ) (f g o q : List (Option ℕ)) (b c : List ℕ) → IsPool n f o b → m ≡ n → length g ≡ length f → length q ≡ length o → length c ≡ length b → IsDivided (2 ^ m) g q → IsPool m g q c
IsPool-next n m f g o q b c h e ef eo eb d = record {
  order_le = omega (arith, h.order_le);
  free_len = ef ∙ h.free_len ∙ ap (λ (x : ℕ). 2 ^ x) (sym e);
  out_len = eo ∙ h.out_len ∙ ap (λ (x : ℕ). 2 ^ x) (sym e);
  bytes_len = eb ∙ h.bytes_len ∙ ap (λ (x : ℕ). 4096 * 2 ^ x) (sym e);
  divided = d;
}
