-- How often a block is claimed: not at all, once, or twice.
use Rattle.std.proofs.Common.{◌≡◌, ◌⊎◌, inl, inr, ℕ, zero, suc, ◌+◌, ◌-◌, ◌<◌, ◌≤◌, Bool, true, false, cond, List, [], ◌∷◌, ◌++◌, refl, sym, ap, subst, ◌∙◌, arith}
use Rattle.std.specs.Prelude.{nat_le, nat_lt, ◌==◌, ◌&&◌}
use Rattle.std.specs.List.{flat_map, fold}
use Rattle.std.proofs.lemmas.Bool.{and_parts, cases_lt, le-leb, leb-true, lt-ltb, ltb-true}
use Rattle.fx_verify.specs.Kept.{is_within}
use Rattle.fx_nodes.specs.Lists.{IsIn}
use Rattle.fx_nodes.proofs.Lists.{in_cases, in_left, in_right}
use Rattle.fx_audit.specs.Claims.{claimed, claims_on, one_more}

-- ---- one range

pub within_parts : (a c b : ℕ) → is_within a c b ≡ true → (a ≤ b) × (b < c)
within_parts a c b e = let p = and_parts (nat_le a b) (nat_lt b c) e in (leb-true a b p.0, ltb-true b c p.1)

pub is_within_range : (a c b : ℕ) → a ≤ b → b < c → is_within a c b ≡ true
is_within_range a c b l h = ap (λ x. x && nat_lt b c) (le-leb a b l) ∙ lt-ltb b c h

pub false_or_true : (b : Bool) → (b ≡ true) ⊎ (b ≡ false)
false_or_true true = inl refl
false_or_true false = inr refl

pub not_within : (a c b : ℕ) → ((a ≤ b) × (b < c) → ⊥) → is_within a c b ≡ false
not_within a c b h = elim (false_or_true (is_within a c b)) [ inl e ↦ absurd (h (within_parts a c b e)) | inr e ↦ e ]

-- what a count becomes
abbrev Step : ℕ → ℕ → ℕ × ℕ → Type 0
Step b n r = ((is_within r.0 r.1 b ≡ true) × (n < 2) × (claimed b n r ≡ n + 1))
    ⊎ (((is_within r.0 r.1 b ≡ true) × (2 ≤ n) × (claimed b n r ≡ n))
    ⊎ ((is_within r.0 r.1 b ≡ false) × (claimed b n r ≡ n)))

less_test : (n m : ℕ) → m ≤ n → nat_lt n m ≡ false
less_test n m l = elim (false_or_true (nat_lt n m)) [ inl e ↦ absurd (let k : n < m = ltb-true n m e in omega (arith, k, l)) | inr e ↦ e ]

step_at : (b n : ℕ) (r : ℕ × ℕ) → Step b n r
step_at b n r = by (false_or_true (is_within r.0 r.1 b)) (cases_lt n 2)
  where
    by : (is_within r.0 r.1 b ≡ true) ⊎ (is_within r.0 r.1 b ≡ false) → (n < 2) ⊎ (2 ≤ n) → Step b n r
    by (inl e) (inl l) = inl (e, l, ap (λ x. cond x (one_more n) n) e ∙ ap (λ x. cond x (n + 1) n) (lt-ltb n 2 l))
    by (inl e) (inr l) = inr (inl (e, l, ap (λ x. cond x (one_more n) n) e ∙ ap (λ x. cond x (n + 1) n) (less_test n 2 l)))
    by (inr e) l = inr (inr (e, ap (λ x. cond x (one_more n) n) e))

-- ---- lists of ranges

-- some range has the block; two have
abbrev pub SomeHas : ℕ → List (ℕ × ℕ) → Type 0
SomeHas b rs = (r : ℕ × ℕ) × IsIn rs r × (is_within r.0 r.1 b ≡ true)

abbrev pub TwoHave : ℕ → List (ℕ × ℕ) → Type 0
TwoHave b [] = ⊥
TwoHave b (r ∷ rs) = ((is_within r.0 r.1 b ≡ true) × SomeHas b rs) ⊎ TwoHave b rs

some_later : (b : ℕ) (r : ℕ × ℕ) (rs : List (ℕ × ℕ)) → SomeHas b rs → SomeHas b (r ∷ rs)
some_later b r rs s = (s.0, inr s.1, s.2)

module _ (b : ℕ) where
  grows : (rs : List (ℕ × ℕ)) (n : ℕ) → n ≤ fold (claimed b) n rs
  grows [] n = omega arith
  grows (r ∷ rs) n = let ih : claimed b n r ≤ fold (claimed b) (claimed b n r) rs = grows rs (claimed b n r) in
      elim (step_at b n r) [ inl c ↦ omega (arith, ih, c.2) | inr d ↦ elim d [ inl c ↦ omega (arith, ih, c.2) | inr c ↦ omega (arith, ih, c.1) ] ]

  one : (rs : List (ℕ × ℕ)) (n : ℕ) → SomeHas b rs → n < 2 → n + 1 ≤ fold (claimed b) n rs
  one [] n s l = absurd s.1
  one (r ∷ rs) n s l =
      let ih : claimed b n r ≤ fold (claimed b) (claimed b n r) rs = grows rs (claimed b n r) in
      elim (step_at b n r) [
        | inl c ↦ omega (arith, ih, c.2)
        | inr d ↦ elim d [
          | inl c ↦ absurd (omega (arith, c.1, l))
          | inr c ↦ elim s.1 [
            | inl e ↦ absurd (let q : true ≡ false = sym s.2 ∙ ap (λ (z : ℕ × ℕ). is_within z.0 z.1 b) (sym e) ∙ c.0 in cc)
            | inr i ↦ let k : claimed b n r + 1 ≤ fold (claimed b) (claimed b n r) rs = one rs (claimed b n r) (s.0, i, s.2) (omega (arith, c.1, l)) in omega (arith, k, c.1)
          ]
        ]
      ]

  two : (rs : List (ℕ × ℕ)) (n : ℕ) → TwoHave b rs → 2 ≤ fold (claimed b) n rs
  two [] n t = absurd t
  two (r ∷ rs) n (inl t) =
      let ih : claimed b n r ≤ fold (claimed b) (claimed b n r) rs = grows rs (claimed b n r) in
      elim (step_at b n r) [
        | inl c ↦ elim (cases_lt (claimed b n r) 2) [
          | inl l ↦ let k : claimed b n r + 1 ≤ fold (claimed b) (claimed b n r) rs = one rs (claimed b n r) t.1 l in omega (arith, k, c.2)
          | inr l ↦ omega (arith, ih, l)
        ]
        | inr d ↦ elim d [
          | inl c ↦ omega (arith, ih, c.1, c.2)
          | inr c ↦ absurd (let q : true ≡ false = sym t.0 ∙ c.0 in cc)
        ]
      ]
  two (r ∷ rs) n (inr t) = two rs (claimed b n r) t

  some : (rs : List (ℕ × ℕ)) (n : ℕ) → n < fold (claimed b) n rs → SomeHas b rs
  some [] n l = absurd (omega (arith, l))
  some (r ∷ rs) n l = elim (step_at b n r) [
    | inl c ↦ (r, inl refl, c.0)
    | inr d ↦ elim d [
      | inl c ↦ (r, inl refl, c.0)
      | inr c ↦ some_later b r rs (some rs n (subst (λ k. n < fold (claimed b) k rs) c.1 l))
    ]
  ]

  doubled : (rs : List (ℕ × ℕ)) → 2 ≤ fold (claimed b) 0 rs → TwoHave b rs
  doubled [] l = absurd (omega (arith, l))
  doubled (r ∷ rs) l = elim (step_at b 0 r) [
    | inl c ↦ inl (c.0, some rs 1 (let k : 2 ≤ fold (claimed b) 1 rs = subst (λ k. 2 ≤ fold (claimed b) k rs) c.2 l in omega (arith, k)))
    | inr d ↦ elim d [
      | inl c ↦ absurd (omega (arith, c.1))
      | inr c ↦ inr (doubled rs (subst (λ k. 2 ≤ fold (claimed b) k rs) c.1 l))
    ]
  ]

  -- ---- the count

  pub counts_some : (rs : List (ℕ × ℕ)) → SomeHas b rs → 0 < claims_on rs b
  counts_some rs s = let k : 0 + 1 ≤ fold (claimed b) 0 rs = one rs 0 s (omega arith) in omega (arith, k)

  pub some_counted : (rs : List (ℕ × ℕ)) → 0 < claims_on rs b → SomeHas b rs
  some_counted rs l = some rs 0 l

  pub counts_two : (rs : List (ℕ × ℕ)) → TwoHave b rs → 2 ≤ claims_on rs b
  counts_two rs t = two rs 0 t

  pub two_counted : (rs : List (ℕ × ℕ)) → 2 ≤ claims_on rs b → TwoHave b rs
  two_counted rs l = doubled rs l
