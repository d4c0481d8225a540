-- A division of the region after a step of the pool: a free run goes out, a buffer is halved,
-- a buffer takes in its free buddy, a buffer comes back.
use Rattle.std.proofs.Common.{◌≡◌, ◌≢◌, ℕ, suc, ◌+◌, ◌*◌, ◌^◌, ◌<◌, ◌≤◌, List, Option, Some, None, length, min, replicate, set, get_or, refl, sym, ◌∙◌, subst, ap, arith, ◌⊎◌, inl, inr}
use Rattle.std.proofs.Math.Nat.{pow-suc, pow-le-pow_right, mul-le-mul_right}
use Rattle.std.proofs.lemmas.Nat.{pow_pos}
use Rattle.std.proofs.lemmas.Bool.{cases_eq, cases_lt}
use Rattle.std.proofs.lemmas.List.{get_or-replicate, length-replicate}
use Rattle.fx_pool.specs.Region.{IsTiling, IsDivided, Begins, RunBegins, IsMultiple, IsBuddy}
use Rattle.fx_pool.proofs.Tables.{none_some, none_where, HasRun-below, HasRun-once, set-at, set-other, unset-other, at-set, at-clear}
use Rattle.fx_pool.proofs.Tilings.{IsTiling-same, Halved, IsTiling-halved, Joined, IsTiling-joined}

swap : (q m : ℕ) → q * (m * 2) ≡ q * (2 * m)
swap q m = omega arith

odd : (q r m : ℕ) → 0 < m → q * (m * 2) + m ≡ r * (2 * m) → ⊥
odd q r m p e = elim (cases_lt q r) [
  | inl lt ↦ omega (arith, mul-le-mul_right (2 * m) (let l : q + 1 ≤ r = omega arith in l))
  | inr ge ↦ omega (arith, mul-le-mul_right (2 * m) ge)
]

pub IsBuddy-sym : (s b k : ℕ) → IsBuddy s b k → IsBuddy b s k
IsBuddy-sym s b k d = record {
  start = d.start;
  aligned = d.aligned;
  halves = elim d.halves [ inl e ↦ inr (e.1, e.0) | inr e ↦ inl (e.1, e.0) ];
}

pub IsBuddy-other : (s b k : ℕ) → IsBuddy s b k → b ≢ s
IsBuddy-other s b k d e = elim d.halves [
  | inl h ↦ omega (arith, h.0, h.1, pow_pos k)
  | inr h ↦ omega (arith, h.0, h.1, pow_pos k)
]

-- a multiple of twice m is not m after another
multiple_odd : (n m : ℕ) → 0 < m → IsMultiple n (2 * m) → IsMultiple (n + m) (2 * m) → ⊥
multiple_odd n m p (q, a) (r, b) = odd q r m p (ap (λ x. x + m) (swap q m ∙ sym a) ∙ b)

pub IsBuddy-unique : (s b c k : ℕ) → IsBuddy s b k → IsBuddy s c k → b ≡ c
IsBuddy-unique s b c k d e = elim d.halves [
  | inl h ↦ elim e.halves [
    | inl g ↦ omega (arith, h.0, h.1, g.0, g.1)
    | inr g ↦ absurd (multiple_odd e.start (2 ^ k) (pow_pos k) e.aligned (subst (λ (x : ℕ). IsMultiple x (2 * 2 ^ k)) (sym h.0 ∙ g.0) d.aligned))
  ]
  | inr h ↦ elim e.halves [
    | inl g ↦ absurd (multiple_odd d.start (2 ^ k) (pow_pos k) d.aligned (subst (λ (x : ℕ). IsMultiple x (2 * 2 ^ k)) (sym g.0 ∙ h.0) e.aligned))
    | inr g ↦ omega (arith, h.0, h.1, g.0, g.1)
  ]
]

pub IsBuddy-min : (s b k : ℕ) → (d : IsBuddy s b k) → min s b ≡ d.start
IsBuddy-min s b k d = elim d.halves [
  | inl h ↦ omega (arith, h.0, h.1)
  | inr h ↦ omega (arith, h.0, h.1)
]

-- a block holds one run at most
pub Begins-once : (n : ℕ) (f o : List (Option ℕ)) → IsDivided n f o → (s k j : ℕ) → Begins f o s k → Begins f o s j → j ≡ k
Begins-once n f o h s k j (inl a) (inl b) = HasRun-once f s j k b a
Begins-once n f o h s k j (inl a) (inr b) = absurd (h.exclusive s k j a b)
Begins-once n f o h s k j (inr a) (inl b) = absurd (h.exclusive s j k b a)
Begins-once n f o h s k j (inr a) (inr b) = HasRun-once o s j k b a

-- no run begins within another
pub none_within : (n : ℕ) (f o : List (Option ℕ)) → IsDivided n f o → (s k t j : ℕ) → Begins f o s k → s < t → t < s + 2 ^ k → Begins f o t j → ⊥
none_within n f o h s k t j a lt lt' b = absurd (omega (arith, h.tiling.apart s k t j a b lt))

-- the free run at s goes out
lent_back : (f o : List (Option ℕ)) (s k : ℕ) → s < length f → s < length o → RunBegins f s k → (t j : ℕ) → Begins (set f s None) (set o s (Some k)) t j → Begins f o t j
lent_back f o s k a b r t j (inl x) = inl (at-clear f s t j a x).1
lent_back f o s k a b r t j (inr x) = elim (at-set o s t j k b x) [
  | inl e ↦ inl (subst (λ (y : ℕ). RunBegins f t y) (sym e.1) (subst (λ (y : ℕ). RunBegins f y k) (sym e.0) r))
  | inr y ↦ inr y.1
]

lent_forth : (n : ℕ) (f o : List (Option ℕ)) (s k : ℕ) → IsDivided n f o → s < length o → RunBegins f s k → (t j : ℕ) → Begins f o t j → Begins (set f s None) (set o s (Some k)) t j
lent_forth n f o s k h b r t j (inl x) = elim (cases_eq t s) [
  | inl e ↦ (let same : j ≡ k = HasRun-once f s j k (subst (λ (y : ℕ). RunBegins f y j) e x) r in
      inr (subst (λ (y : ℕ). RunBegins (set o s (Some k)) t y) (sym same) (subst (λ (y : ℕ). RunBegins (set o s (Some k)) y k) (sym e) (set-at o s k b))))
  | inr ne ↦ inl (set-other f s t j None ne x)
]
lent_forth n f o s k h b r t j (inr x) =
    let ne : t ≢ s = λ e. h.exclusive s k j r (subst (λ (y : ℕ). RunBegins o y j) e x) in
    inr (set-other o s t j (Some k) ne x)

pub IsDivided-lent : (n : ℕ) (f o : List (Option ℕ)) (s k : ℕ) → IsDivided n f o → s < length o → RunBegins f s k → IsDivided n (set f s None) (set o s (Some k))
IsDivided-lent n f o s k h b r = let a : s < length f = HasRun-below f s k r in record {
  tiling = IsTiling-same n (Begins f o) (Begins (set f s None) (set o s (Some k))) (lent_back f o s k a b r) (lent_forth n f o s k h b r) h.tiling;
  exclusive = λ t i j x y. let c = at-clear f s t i a x in h.exclusive t i j c.1 (unset-other o s t j (Some k) c.0 y);
  merged = λ t b i m x y. h.merged t b i m (at-clear f s t i a x).1 (at-clear f s b i a y).1;
}

-- the buffer at s comes back, where its buddy is not free
back_back : (f o : List (Option ℕ)) (s k : ℕ) → s < length f → s < length o → get_or o s None ≡ None → (t j : ℕ) → Begins (set f s (Some k)) o t j → Begins f (set o s (Some k)) t j
back_back f o s k a b z t j (inl x) = elim (at-set f s t j k a x) [
  | inl e ↦ inr (subst (λ (y : ℕ). RunBegins (set o s (Some k)) t y) (sym e.1) (subst (λ (y : ℕ). RunBegins (set o s (Some k)) y k) (sym e.0) (set-at o s k b)))
  | inr y ↦ inl y.1
]
back_back f o s k a b z t j (inr x) = elim (cases_eq t s) [
  | inl e ↦ absurd (none_some j (get_or o s None) z (subst (λ (y : ℕ). RunBegins o y j) e x))
  | inr ne ↦ inr (set-other o s t j (Some k) ne x)
]

back_forth : (n : ℕ) (f o : List (Option ℕ)) (s k : ℕ) → s < length f → s < length o → IsDivided n f (set o s (Some k)) → (t j : ℕ) → Begins f (set o s (Some k)) t j → Begins (set f s (Some k)) o t j
back_forth n f o s k a b h t j (inl x) =
    let ne : t ≢ s = λ e. h.exclusive s j k (subst (λ (y : ℕ). RunBegins f y j) e x) (set-at o s k b) in
    inl (set-other f s t j (Some k) ne x)
back_forth n f o s k a b h t j (inr x) = elim (at-set o s t j k b x) [
  | inl e ↦ inl (subst (λ (y : ℕ). RunBegins (set f s (Some k)) t y) (sym e.1) (subst (λ (y : ℕ). RunBegins (set f s (Some k)) y k) (sym e.0) (set-at f s k a)))
  | inr y ↦ inr y.1
]

back_exclusive : (n : ℕ) (f o : List (Option ℕ)) (s k : ℕ) → s < length f → s < length o → get_or o s None ≡ None → IsDivided n f (set o s (Some k)) → (t i j : ℕ) → RunBegins (set f s (Some k)) t i → RunBegins o t j → ⊥
back_exclusive n f o s k a b z h t i j x y = elim (cases_eq t s) [
  | inl e ↦ none_some j (get_or o s None) z (subst (λ (w : ℕ). RunBegins o w j) e y)
  | inr ne ↦ h.exclusive t i j (unset-other f s t i (Some k) ne x) (set-other o s t j (Some k) ne y)
]

back_merged : (n : ℕ) (f o : List (Option ℕ)) (s k : ℕ) → s < length f → IsDivided n f (set o s (Some k)) → ((b : ℕ) → IsBuddy s b k → RunBegins f b k → ⊥) → (t b i : ℕ) → IsBuddy t b i → RunBegins (set f s (Some k)) t i → RunBegins (set f s (Some k)) b i → ⊥
back_merged n f o s k a h alone t b i d x y = elim (at-set f s t i k a x) [
  | inl e ↦ (let d' : IsBuddy s b k = subst (λ (w : ℕ). IsBuddy w b k) e.0 (subst (λ (w : ℕ). IsBuddy t b w) e.1 d) in
      alone b d' (unset-other f s b k (Some k) (IsBuddy-other s b k d') (subst (λ (w : ℕ). RunBegins (set f s (Some k)) b w) e.1 y)))
  | inr x' ↦ elim (at-set f s b i k a y) [
    | inl e ↦ (let d' : IsBuddy s t k = IsBuddy-sym t s k (subst (λ (w : ℕ). IsBuddy t w k) e.0 (subst (λ (w : ℕ). IsBuddy t b w) e.1 d)) in
        alone t d' (subst (λ (w : ℕ). RunBegins f t w) e.1 x'.1))
    | inr y' ↦ h.merged t b i d x'.1 y'.1
  ]
]

pub IsDivided-back : (n : ℕ) (f o : List (Option ℕ)) (s k : ℕ) → s < length f → s < length o → get_or o s None ≡ None → IsDivided n f (set o s (Some k)) → ((b : ℕ) → IsBuddy s b k → RunBegins f b k → ⊥) → IsDivided n (set f s (Some k)) o
IsDivided-back n f o s k a b z h alone = record {
  tiling = IsTiling-same n (Begins f (set o s (Some k))) (Begins (set f s (Some k)) o) (back_back f o s k a b z) (back_forth n f o s k a b h) h.tiling;
  exclusive = back_exclusive n f o s k a b z h;
  merged = back_merged n f o s k a h alone;
}

-- the buffer at s of order k + 1 is halved, and its upper half is free
inside : (n : ℕ) (f o : List (Option ℕ)) (s k : ℕ) → s < length o → IsDivided n f (set o s (Some (suc k))) → (j : ℕ) → Begins f (set o s (Some (suc k))) (s + 2 ^ k) j → ⊥
inside n f o s k b h j x = none_within n f (set o s (Some (suc k))) h s (suc k) (s + 2 ^ k) j (inr (set-at o s (suc k) b)) (omega (arith, pow_pos k)) (omega (arith, pow_pos k, pow-suc 2 k)) x

upper_free : (n : ℕ) (f o : List (Option ℕ)) (s k : ℕ) → s < length o → IsDivided n f (set o s (Some (suc k))) → (t j : ℕ) → RunBegins f t j → t ≢ s + 2 ^ k
upper_free n f o s k b h t j x e = inside n f o s k b h j (inl (subst (λ (w : ℕ). RunBegins f w j) e x))

upper_out : (n : ℕ) (f o : List (Option ℕ)) (s k : ℕ) → s < length o → IsDivided n f (set o s (Some (suc k))) → (t j : ℕ) → t ≢ s → RunBegins o t j → t ≢ s + 2 ^ k
upper_out n f o s k b h t j ne x e = inside n f o s k b h j (inr (subst (λ (w : ℕ). RunBegins (set o s (Some (suc k))) w j) e (set-other o s t j (Some (suc k)) ne x)))

lower_free : (n : ℕ) (f o : List (Option ℕ)) (s k : ℕ) → s < length o → IsDivided n f (set o s (Some k)) → (t j : ℕ) → RunBegins f t j → t ≢ s
lower_free n f o s k b h t j x e = h.exclusive s j k (subst (λ (w : ℕ). RunBegins f w j) e x) (set-at o s k b)

halve_back : (n : ℕ) (f o : List (Option ℕ)) (s k : ℕ) → s < length o → s + 2 ^ k < length f → IsDivided n f (set o s (Some (suc k))) → (t j : ℕ) → Begins (set f (s + 2 ^ k) (Some k)) (set o s (Some k)) t j → Halved (Begins f (set o s (Some (suc k)))) s k t j
halve_back n f o s k b a h t j (inl x) = elim (at-set f (s + 2 ^ k) t j k a x) [
  | inl e ↦ Halved.upper e.0 e.1
  | inr y ↦ Halved.other (lower_free n f o s (suc k) b h t j y.1) (inl y.1)
]
halve_back n f o s k b a h t j (inr x) = elim (at-set o s t j k b x) [
  | inl e ↦ Halved.lower e.0 e.1
  | inr y ↦ Halved.other y.0 (inr (set-other o s t j (Some (suc k)) y.0 y.1))
]

halve_keep : (n : ℕ) (f o : List (Option ℕ)) (s k : ℕ) → s < length o → IsDivided n f (set o s (Some (suc k))) → (t j : ℕ) → t ≢ s → Begins f (set o s (Some (suc k))) t j → Begins (set f (s + 2 ^ k) (Some k)) (set o s (Some k)) t j
halve_keep n f o s k b h t j ne (inl x) = inl (set-other f (s + 2 ^ k) t j (Some k) (upper_free n f o s k b h t j x) x)
halve_keep n f o s k b h t j ne (inr x) = inr (set-other o s t j (Some k) ne (unset-other o s t j (Some (suc k)) ne x))

halve_exclusive : (n : ℕ) (f o : List (Option ℕ)) (s k : ℕ) → s < length o → s + 2 ^ k < length f → IsDivided n f (set o s (Some (suc k))) → (t i j : ℕ) → RunBegins (set f (s + 2 ^ k) (Some k)) t i → RunBegins (set o s (Some k)) t j → ⊥
halve_exclusive n f o s k b a h t i j x y = elim (at-set o s t j k b y) [
  | inl e ↦ (let ne : t ≢ s + 2 ^ k = λ q. omega (arith, pow_pos k) in
      lower_free n f o s (suc k) b h t i (unset-other f (s + 2 ^ k) t i (Some k) ne x) e.0)
  | inr y' ↦ elim (at-set f (s + 2 ^ k) t i k a x) [
    | inl e ↦ upper_out n f o s k b h t j y'.0 y'.1 e.0
    | inr x' ↦ h.exclusive t i j x'.1 (set-other o s t j (Some (suc k)) y'.0 y'.1)
  ]
]

upper_odd : (n : ℕ) (R : ℕ → ℕ → Type 0) → IsTiling n R → (s k : ℕ) → R s (suc k) → IsMultiple (s + 2 ^ k) (2 * 2 ^ k) → ⊥
upper_odd n R h s k r (c, e) =
    let (q, a) = h.aligned s (suc k) r in
    odd q c (2 ^ k) (pow_pos k) (ap (λ x. x + 2 ^ k) (sym (a ∙ ap (λ x. q * x) (pow-suc 2 k))) ∙ e)

halve_alone : (n : ℕ) (f o : List (Option ℕ)) (s k : ℕ) → s < length o → IsDivided n f (set o s (Some (suc k))) → (b : ℕ) → IsBuddy (s + 2 ^ k) b k → RunBegins f b k → ⊥
halve_alone n f o s k u h b d x = elim d.halves [
  | inl e ↦ upper_odd n (Begins f (set o s (Some (suc k)))) h.tiling s k (inr (set-at o s (suc k) u)) (subst (λ (w : ℕ). IsMultiple w (2 * 2 ^ k)) (sym e.0) d.aligned)
  | inr e ↦ lower_free n f o s (suc k) u h b k x (omega (arith, e.0, e.1))
]

halve_merged : (n : ℕ) (f o : List (Option ℕ)) (s k : ℕ) → s < length o → s + 2 ^ k < length f → IsDivided n f (set o s (Some (suc k))) → (t b i : ℕ) → IsBuddy t b i → RunBegins (set f (s + 2 ^ k) (Some k)) t i → RunBegins (set f (s + 2 ^ k) (Some k)) b i → ⊥
halve_merged n f o s k u a h t b i d x y = elim (at-set f (s + 2 ^ k) t i k a x) [
  | inl e ↦ (let d' : IsBuddy (s + 2 ^ k) b k = subst (λ (w : ℕ). IsBuddy w b k) e.0 (subst (λ (w : ℕ). IsBuddy t b w) e.1 d) in
      halve_alone n f o s k u h b d' (unset-other f (s + 2 ^ k) b k (Some k) (IsBuddy-other (s + 2 ^ k) b k d') (subst (λ (w : ℕ). RunBegins (set f (s + 2 ^ k) (Some k)) b w) e.1 y)))
  | inr x' ↦ elim (at-set f (s + 2 ^ k) b i k a y) [
    | inl e ↦ (let d' : IsBuddy (s + 2 ^ k) t k = IsBuddy-sym t (s + 2 ^ k) k (subst (λ (w : ℕ). IsBuddy t w k) e.0 (subst (λ (w : ℕ). IsBuddy t b w) e.1 d)) in
        halve_alone n f o s k u h t d' (subst (λ (w : ℕ). RunBegins f t w) e.1 x'.1))
    | inr y' ↦ h.merged t b i d x'.1 y'.1
  ]
]

pub IsDivided-halved : (n : ℕ) (f o : List (Option ℕ)) (s k : ℕ) → s < length o → s + 2 ^ k < length f → IsDivided n f (set o s (Some (suc k))) → IsDivided n (set f (s + 2 ^ k) (Some k)) (set o s (Some k))
IsDivided-halved n f o s k b a h = record {
  tiling = IsTiling-halved n s k (Begins f (set o s (Some (suc k)))) (Begins (set f (s + 2 ^ k) (Some k)) (set o s (Some k))) h.tiling
      (inr (set-at o s (suc k) b))
      (λ j x. Begins-once n f (set o s (Some (suc k))) h s (suc k) j (inr (set-at o s (suc k) b)) x)
      (inr (set-at o s k b))
      (inl (set-at f (s + 2 ^ k) k a))
      (halve_back n f o s k b a h)
      (halve_keep n f o s k b h);
  exclusive = halve_exclusive n f o s k b a h;
  merged = halve_merged n f o s k b a h;
}

-- the upper half of a run of order k + 1, which is a buffer, is within the tables, and nothing begins there
pub upper-none : (n : ℕ) (f o : List (Option ℕ)) (s k : ℕ) → s < length o → IsDivided n f (set o s (Some (suc k))) → get_or f (s + 2 ^ k) None ≡ None
upper-none n f o s k b h = none_where (get_or f (s + 2 ^ k) None) (λ j e. upper_free n f o s k b h (s + 2 ^ k) j e refl)

pub upper-below : (n : ℕ) (f o : List (Option ℕ)) (s k : ℕ) → s < length o → IsDivided n f (set o s (Some (suc k))) → s + 2 ^ k + 2 ^ k ≤ n
upper-below n f o s k b h = omega (arith, h.tiling.within s (suc k) (inr (set-at o s (suc k) b)), pow-suc 2 k)

-- s and b are the halves, of order k, of the run at l
abbrev AreHalves : ℕ → ℕ → ℕ → ℕ → Type 0
AreHalves s b l k = ((s ≡ l) × (b ≡ l + 2 ^ k)) ⊎ ((s ≡ l + 2 ^ k) × (b ≡ l))

neither : (s b l k t : ℕ) → AreHalves s b l k → t ≢ s → t ≢ b → (t ≢ l) × (t ≢ l + 2 ^ k)
neither s b l k t (inl (e, f)) ns nb = (λ x. ns (x ∙ sym e), λ x. nb (x ∙ sym f))
neither s b l k t (inr (e, f)) ns nb = (λ x. nb (x ∙ sym f), λ x. ns (x ∙ sym e))

neither_back : (s b l k t : ℕ) → AreHalves s b l k → t ≢ l → t ≢ l + 2 ^ k → (t ≢ s) × (t ≢ b)
neither_back s b l k t (inl (e, f)) nl nh = (λ x. nl (x ∙ e), λ x. nh (x ∙ f))
neither_back s b l k t (inr (e, f)) nl nh = (λ x. nh (x ∙ e), λ x. nl (x ∙ f))

both_begin : (R : ℕ → ℕ → Type 0) (s b l k : ℕ) → AreHalves s b l k → R s k → R b k → R l k × R (l + 2 ^ k) k
both_begin R s b l k (inl (e, f)) x y = (subst (λ (w : ℕ). R w k) e x, subst (λ (w : ℕ). R w k) f y)
both_begin R s b l k (inr (e, f)) x y = (subst (λ (w : ℕ). R w k) f y, subst (λ (w : ℕ). R w k) e x)

lowest : (s b l k : ℕ) → AreHalves s b l k → l ≤ s
lowest s b l k (inl (e, f)) = omega arith
lowest s b l k (inr (e, f)) = omega arith

buddy_out : (n : ℕ) (f o : List (Option ℕ)) (s b k : ℕ) → IsDivided n f (set o s (Some k)) → s < length o → RunBegins f b k → (j : ℕ) → RunBegins o b j → ⊥
buddy_out n f o s b k h u r j x = h.exclusive b k j r (set-other o s b j (Some k) (lower_free n f o s k u h b k r) x)

-- nothing in o begins where the joined run does
pub joined-none : (n : ℕ) (f o : List (Option ℕ)) (s b l k : ℕ) → IsDivided n f (set o s (Some k)) → s < length o → get_or o s None ≡ None → RunBegins f b k → AreHalves s b l k → get_or o l None ≡ None
joined-none n f o s b l k h u z r (inl (e, g)) = subst (λ (w : ℕ). get_or o w None ≡ None) e z
joined-none n f o s b l k h u z r (inr (e, g)) = subst (λ (w : ℕ). get_or o w None ≡ None) g (none_where (get_or o b None) (λ j x. buddy_out n f o s b k h u r j x))

join_back : (n : ℕ) (f o : List (Option ℕ)) (s b l k : ℕ) → IsDivided n f (set o s (Some k)) → s < length o → get_or o s None ≡ None → RunBegins f b k → AreHalves s b l k → (t j : ℕ) → Begins (set f b None) (set o l (Some (suc k))) t j → Joined (Begins f (set o s (Some k))) l k t j
join_back n f o s b l k h u z r d t j (inl x) =
    let c = at-clear f b t j (HasRun-below f b k r) x in
    let ne = neither s b l k t d (lower_free n f o s k u h t j c.1) c.0 in
    Joined.other ne.0 ne.1 (inl c.1)
join_back n f o s b l k h u z r d t j (inr x) = elim (at-set o l t j (suc k) (omega (arith, lowest s b l k d)) x) [
  | inl e ↦ Joined.whole e.0 e.1
  | inr y ↦ (let ns : t ≢ s = λ e. none_some j (get_or o s None) z (subst (λ (w : ℕ). RunBegins o w j) e y.1) in
      let nb : t ≢ b = λ e. buddy_out n f o s b k h u r j (subst (λ (w : ℕ). RunBegins o w j) e y.1) in
      let ne = neither s b l k t d ns nb in
      Joined.other ne.0 ne.1 (inr (set-other o s t j (Some k) ns y.1)))
]

join_keep : (f o : List (Option ℕ)) (s b l k : ℕ) → AreHalves s b l k → (t j : ℕ) → t ≢ l → t ≢ l + 2 ^ k → Begins f (set o s (Some k)) t j → Begins (set f b None) (set o l (Some (suc k))) t j
join_keep f o s b l k d t j nl nh (inl x) = inl (set-other f b t j None (neither_back s b l k t d nl nh).1 x)
join_keep f o s b l k d t j nl nh (inr x) = inr (set-other o l t j (Some (suc k)) nl (unset-other o s t j (Some k) (neither_back s b l k t d nl nh).0 x))

join_exclusive : (n : ℕ) (f o : List (Option ℕ)) (s b l k : ℕ) → IsDivided n f (set o s (Some k)) → s < length o → RunBegins f b k → AreHalves s b l k → (t i j : ℕ) → RunBegins (set f b None) t i → RunBegins (set o l (Some (suc k))) t j → ⊥
join_exclusive n f o s b l k h u r d t i j x y =
    let c = at-clear f b t i (HasRun-below f b k r) x in
    let ns : t ≢ s = lower_free n f o s k u h t i c.1 in
    let ne = neither s b l k t d ns c.0 in
    h.exclusive t i j c.1 (set-other o s t j (Some k) ns (unset-other o l t j (Some (suc k)) ne.0 y))

-- the buffer at s takes in its free buddy
pub IsDivided-joined : (n : ℕ) (f o : List (Option ℕ)) (s b k : ℕ) (d : IsBuddy s b k) → IsDivided n f (set o s (Some k)) → s < length o → get_or o s None ≡ None → RunBegins f b k → IsDivided n (set f b None) (set o d.start (Some (suc k)))
IsDivided-joined n f o s b k d h u z r =
    let B : ℕ → ℕ → Type 0 = Begins f (set o s (Some k)) in
    let l : ℕ = d.start in
    let both : B l k × B (l + 2 ^ k) k = both_begin B s b l k d.halves (inr (set-at o s k u)) (inl r) in
    let a : b < length f = HasRun-below f b k r in
    record {
      tiling = IsTiling-joined n l k B (Begins (set f b None) (set o l (Some (suc k)))) h.tiling d.aligned both.0 both.1
          (λ j x. Begins-once n f (set o s (Some k)) h l k j both.0 x)
          (λ j x. Begins-once n f (set o s (Some k)) h (l + 2 ^ k) k j both.1 x)
          (inr (set-at o l (suc k) (omega (arith, lowest s b l k d.halves))))
          (join_back n f o s b l k h u z r d.halves)
          (join_keep f o s b l k d.halves);
      exclusive = join_exclusive n f o s b l k h u r d.halves;
      merged = λ t e i c x y. h.merged t e i c (at-clear f b t i a x).1 (at-clear f b e i a y).1;
    }

-- the joined run begins within the table, where no buffer does, and is of an order that the region has
pub joined-begins : (n : ℕ) (f o : List (Option ℕ)) (s b k : ℕ) (d : IsBuddy s b k) → IsDivided n f (set o s (Some k)) → s < length o → get_or o s None ≡ None → RunBegins f b k → (d.start < length o) × (get_or o d.start None ≡ None)
joined-begins n f o s b k d h u z r = (omega (arith, lowest s b d.start k d.halves), joined-none n f o s b d.start k h u z r d.halves)

-- the orders of a region
pub order-le : (n k : ℕ) → 2 ^ k ≤ 2 ^ n → k ≤ n
order-le n k h = elim (cases_lt n k) [
  | inl lt ↦ (let m : suc n ≤ k = omega arith in absurd (omega (arith, pow-le-pow_right {n = 2} (omega arith) m, pow-suc 2 n, pow_pos n)))
  | inr ge ↦ ge
]

pub out-order : (n : ℕ) (f o : List (Option ℕ)) (s k : ℕ) → s < length o → IsDivided (2 ^ n) f (set o s (Some k)) → k ≤ n
out-order n f o s k b h = order-le n k (omega (arith, h.tiling.within s k (inr (set-at o s k b))))

-- the whole region is free
pub IsDivided-whole : (n k : ℕ) → n ≡ 2 ^ k → IsDivided n (set (replicate n None) 0 (Some k)) (replicate n None)
IsDivided-whole n k e =
    let f : List (Option ℕ) = set (replicate n None) 0 (Some k) in
    let o : List (Option ℕ) = replicate n None in
    let none : (t j : ℕ) → RunBegins o t j → ⊥ = λ t j r. none_some j (get_or o t None) (get_or-replicate n t None None (omega (arith, HasRun-below o t j r, length-replicate {A = Option ℕ} n None))) r in
    let below : 0 < length o = omega (arith, length-replicate {A = Option ℕ} n None, pow_pos k) in
    let free : (t j : ℕ) → RunBegins f t j → (t ≡ 0) × (j ≡ k) = λ t j r. elim (at-set o 0 t j k below r) [ inl x ↦ x | inr y ↦ absurd (none t j y.1) ] in
    let begins : (t j : ℕ) → Begins f o t j → (t ≡ 0) × (j ≡ k) = λ t j r. elim r [ inl x ↦ free t j x | inr y ↦ absurd (none t j y) ] in
    record {
      tiling = record {
        aligned = λ s j r. (0, omega (arith, (begins s j r).0));
        within = λ s j r. omega (arith, (begins s j r).0, ap (λ (w : ℕ). 2 ^ w) (begins s j r).1);
        apart = λ s j t i r q lt. absurd (omega (arith, (begins s j r).0, (begins t i q).0));
        covered = λ b lt. record { start = 0; order = k; begins = inl (set-at o 0 k below); low = omega arith; high = omega arith };
      };
      exclusive = λ s j i x y. none s i y;
      merged = λ s b j d x y. IsBuddy-other s b j d (omega (arith, (free s j x).0, (free b j y).0));
    }

-- where a buffer begins no free run does
pub out-none : (n : ℕ) (f o : List (Option ℕ)) (s k : ℕ) → s < length o → IsDivided n f (set o s (Some k)) → get_or f s None ≡ None
out-none n f o s k u h = none_where (get_or f s None) (λ j e. lower_free n f o s k u h s j e refl)
