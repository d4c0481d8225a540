-- The number that an image keeps exists and is one: whether a list of transactions passes can be decided.
use Rattle.std.proofs.Common.{◌≡◌, ◌≢◌, ℕ, zero, suc, ◌+◌, ◌-◌, ◌<◌, ◌≤◌, ◌==◌, ◌||◌, ◌⊎◌, inl, inr, Bool, true, false, cond, List, [], ◌∷◌, ◌++◌, length, take, Option, Some, None, refl, sym, ap, ◌∙◌, subst, arith, eqb-true, eq-eqb}
use Rattle.std.specs.List.{Contains, fold, list_any}
use Rattle.std.proofs.lemmas.Bool.{cases_lt, eqb-false}
use Rattle.std.proofs.lemmas.List.Folds.{list_any-append}
use Rattle.fx_item.specs.Item.{PlainItem}
use Rattle.fx_verify.specs.Kept.{is_written, writes_block, written_by, is_freed_by, last_stated, after_items, live_sum, Passes, IsKeptNumber}

-- ---- only one

pub one : (base : ℕ) (txns : List (ℕ × List PlainItem)) (found : List (ℕ × ℕ)) (j k : ℕ) → IsKeptNumber base txns found j → IsKeptNumber base txns found k → j ≡ k
one base txns found j k a b =
    elim (cases_lt j k) [
      | inl less ↦ absurd (a.greatest k less b.most b.passes)
      | inr more ↦ elim (cases_lt k j) [
        | inl less ↦ absurd (b.greatest j less a.most a.passes)
        | inr same ↦ omega arith
      ]
    ]

-- ---- which blocks can be named

-- a block that is in the list
data Among (b : ℕ) : List (ℕ × ℕ) → Type 0 where
  Here : {p : ℕ × ℕ} {ps : List (ℕ × ℕ)} → p.0 ≡ b → Among b (p ∷ ps)
  Later : {p : ℕ × ℕ} {ps : List (ℕ × ℕ)} → Among b ps → Among b (p ∷ ps)

among_left : (b : ℕ) (xs ys : List (ℕ × ℕ)) → Among b xs → Among b (xs ++ ys)
among_left b [] ys a = elim a [ ]
among_left b (x ∷ xs) ys (Here e) = Here e
among_left b (x ∷ xs) ys (Later a) = Later (among_left b xs ys a)

among_right : (b : ℕ) (xs ys : List (ℕ × ℕ)) → Among b ys → Among b (xs ++ ys)
among_right b [] ys a = a
among_right b (x ∷ xs) ys a = Later (among_right b xs ys a)

stated_among : (b x : ℕ) (ps : List (ℕ × ℕ)) (old : Option ℕ) → last_stated b ps old ≡ Some x → Among b ps ⊎ (old ≡ Some x)
stated_among b x [] old e = inr e
stated_among b x (p ∷ ps) old e =
    elim (p.0 == b) as (λ t. (p.0 == b) ≡ t → last_stated b ps (cond t (Some p.1) old) ≡ Some x → Among b (p ∷ ps) ⊎ (old ≡ Some x)) [
      | true ↦ λ same _. inl (Here (eqb-true p.0 b same))
      | false ↦ λ _ rest. elim (stated_among b x ps old rest) [ inl a ↦ inl (Later a) | inr o ↦ inr o ]
    ] refl e

-- all that the transactions state
all_written : List (ℕ × List PlainItem) → List (ℕ × ℕ)
all_written [] = []
all_written (t ∷ ts) = written_by t.1 ++ all_written ts

none_some : (x : ℕ) → None ≡ Some x → ⊥
none_some x e = absurd (cc)

kept_old : (b : Bool) (old : Option ℕ) (x : ℕ) → cond b None old ≡ Some x → old ≡ Some x
kept_old true old x e = absurd (none_some x e)
kept_old false old x e = e

live_among : (b : ℕ) (ts : List (ℕ × List PlainItem)) (old : Option ℕ) (x : ℕ) → fold (λ old t. after_items b old t.1) old ts ≡ Some x → Among b (all_written ts) ⊎ ((y : ℕ) × (old ≡ Some y))
unfolding all_written
live_among b [] old x e = inr (x, e)
live_among b (t ∷ ts) old x e =
    elim (live_among b ts (after_items b old t.1) x e) [
      | inl a ↦ inl (among_right b (written_by t.1) (all_written ts) a)
      | inr y ↦ elim (stated_among b y.0 (written_by t.1) (cond (is_freed_by t.1 b) None old) y.1) [
        | inl a ↦ inl (among_left b (written_by t.1) (all_written ts) a)
        | inr o ↦ inr (y.0, kept_old (is_freed_by t.1 b) old y.0 o)
      ]
    ]

-- ---- whether they pass

Right : List (ℕ × List PlainItem) → List (ℕ × ℕ) → ℕ → Type 0
Right ts found b = (x : ℕ) → live_sum ts b ≡ Some x → Contains found (b, x)

pub contains_cons : (p q : ℕ × ℕ) (ps : List (ℕ × ℕ)) → Contains ps q → Contains (p ∷ ps) q
contains_cons p q ps (k, lt, is) = (suc k, omega arith, is)

pub contains_or : (p q : ℕ × ℕ) (ps : List (ℕ × ℕ)) → Contains (p ∷ ps) q → (p ≡ q) ⊎ Contains ps q
contains_or p q ps (zero, lt, is) = inl is
contains_or p q ps (suc k, lt, is) = inr (k, omega arith, is)

pair_or_not : (p q : ℕ × ℕ) → (p ≡ q) ⊎ (p ≢ q)
pair_or_not p q =
    elim (p.0 == q.0) as (λ t. (p.0 == q.0) ≡ t → (p ≡ q) ⊎ (p ≢ q)) [
      | false ↦ λ e. inr (λ same. eqb-false p.0 q.0 e (ap (λ (r : ℕ × ℕ). r.0) same))
      | true ↦ λ e. elim (p.1 == q.1) as (λ t. (p.1 == q.1) ≡ t → (p ≡ q) ⊎ (p ≢ q)) [
        | false ↦ λ f. inr (λ same. eqb-false p.1 q.1 f (ap (λ (r : ℕ × ℕ). r.1) same))
        | true ↦ λ f. inl (λ i. (eqb-true p.0 q.0 e i, eqb-true p.1 q.1 f i))
      ] refl
    ] refl

pub contains_nothing : (q : ℕ × ℕ) → Contains [] q → ⊥
contains_nothing q (k, lt, is) = absurd (omega arith)

contained : (found : List (ℕ × ℕ)) (q : ℕ × ℕ) → Contains found q ⊎ (Contains found q → ⊥)
contained [] q = inr (contains_nothing q)
contained (p ∷ ps) q =
    elim (pair_or_not p q) [
      | inl same ↦ inl (zero, omega arith, same)
      | inr ne ↦ elim (contained ps q) [
        | inl there ↦ inl (contains_cons p q ps there)
        | inr miss ↦ inr (λ c. elim (contains_or p q ps c) [ inl same ↦ ne same | inr there ↦ miss there ])
      ]
    ]

right_or_not : (ts : List (ℕ × List PlainItem)) (found : List (ℕ × ℕ)) (b : ℕ) → Right ts found b ⊎ (Right ts found b → ⊥)
unfolding Right
right_or_not ts found b = of (live_sum ts b) refl
  where
    of : (o : Option ℕ) → live_sum ts b ≡ o → Right ts found b ⊎ (Right ts found b → ⊥)
    of None e = inl (λ x is. absurd (none_some x (sym e ∙ is)))
    of (Some y) e = elim (contained found (b, y)) [
      | inl there ↦ inl (λ x is. let both : Some y ≡ Some x = sym e ∙ is in let same : y ≡ x = cc in subst (λ z. Contains found (b, z)) same there)
      | inr miss ↦ inr (λ right. miss (right y e))
    ]

all_right : (ts : List (ℕ × List PlainItem)) (found : List (ℕ × ℕ)) (ps : List (ℕ × ℕ)) → ((b : ℕ) → Among b ps → Right ts found b) ⊎ ((b : ℕ) × (Right ts found b → ⊥))
all_right ts found [] = inl (λ b a. absurd (nothing b a))
  where
    nothing : (b : ℕ) → Among b [] → ⊥
    nothing b a = elim a [ ]
all_right ts found (p ∷ ps) =
    elim (right_or_not ts found p.0) [
      | inr miss ↦ inr (p.0, miss)
      | inl holds ↦ elim (all_right ts found ps) [
        | inr miss ↦ inr miss
        | inl rest ↦ inl (each holds rest)
      ]
    ]
  where
    each : Right ts found p.0 → ((b : ℕ) → Among b ps → Right ts found b) → (b : ℕ) → Among b (p ∷ ps) → Right ts found b
    each holds rest b (Here e) = subst (Right ts found) e holds
    each holds rest b (Later a) = rest b a

pub passes_or_not : (ts : List (ℕ × List PlainItem)) (found : List (ℕ × ℕ)) → Passes ts found ⊎ (Passes ts found → ⊥)
unfolding Right
passes_or_not ts found =
    elim (all_right ts found (all_written ts)) [
      | inl all ↦ inl (λ b x is. elim (live_among b ts None x is) [
        | inl a ↦ all b a x is
        | inr y ↦ absurd (none_some y.0 y.1)
      ])
      | inr miss ↦ inr (λ passes. miss.1 (λ x is. passes miss.0 x is))
    ]

-- ---- the greatest

nothing_passes : (found : List (ℕ × ℕ)) → Passes [] found
nothing_passes found b x is = absurd (none_some x is)

search_down : (base : ℕ) (txns : List (ℕ × List PlainItem)) (found : List (ℕ × ℕ)) (n : ℕ) → n ≤ length txns → ((j : ℕ) → base + n < j → j ≤ base + length txns → Passes (take (j - base) txns) found → ⊥) → (k : ℕ) × IsKeptNumber base txns found k
search_down base txns found zero le above = (
  base + 0,
  record {
    least = omega arith;
    most = omega arith;
    passes = let none : 0 ≡ base + 0 - base = omega arith in subst (λ m. Passes (take m txns) found) none (nothing_passes found);
    greatest = above;
  },
)
search_down base txns found (suc n) le above =
    elim (passes_or_not (take (suc n) txns) found) [
      | inl holds ↦ (
        base + suc n,
        record {
          least = omega arith;
          most = omega arith;
          passes = let so_many : suc n ≡ base + suc n - base = omega arith in subst (λ m. Passes (take m txns) found) so_many holds;
          greatest = above;
        },
      )
      | inr miss ↦ search_down base txns found n (omega arith) (λ j more most passes. elim (cases_lt (base + suc n) j) [
        | inl past ↦ above j past most passes
        | inr here ↦ let so_many : j - base ≡ suc n = omega arith in miss (subst (λ m. Passes (take m txns) found) so_many passes)
      ])
    ]

pub exists : (base : ℕ) (txns : List (ℕ × List PlainItem)) (found : List (ℕ × ℕ)) → (k : ℕ) × IsKeptNumber base txns found k
exists base txns found = search_down base txns found (length txns) (omega arith) (λ j more most _. absurd (omega arith))

-- ---- what is live was written

among_any : (b : ℕ) (ps : List (ℕ × ℕ)) → Among b ps → list_any (λ p. p.0 == b) ps ≡ true
among_any b [] a = elim a [ ]
among_any b (p ∷ ps) (Here e) = ap (λ t. t || list_any (λ q. q.0 == b) ps) (eq-eqb p.0 b e)
among_any b (p ∷ ps) (Later a) = ap (λ t. (p.0 == b) || t) (among_any b ps a) ∙ true_last (p.0 == b)
  where
    true_last : (t : Bool) → (t || true) ≡ true
    true_last true = refl
    true_last false = refl

all_any : (b : ℕ) (ts : List (ℕ × List PlainItem)) → list_any (λ p. p.0 == b) (all_written ts) ≡ is_written ts b
unfolding all_written
all_any b [] = refl
all_any b (t ∷ ts) = list_any-append (λ (p : ℕ × ℕ). p.0 == b) (written_by t.1) (all_written ts) ∙ ap (λ r. writes_block t.1 b || r) (all_any b ts)

pub live_written : (ts : List (ℕ × List PlainItem)) (b x : ℕ) → live_sum ts b ≡ Some x → is_written ts b ≡ true
live_written ts b x live = elim (live_among b ts None x live) [
  | inl a ↦ sym (all_any b ts) ∙ among_any b (all_written ts) a
  | inr y ↦ absurd (none_some y.0 y.1)
]
