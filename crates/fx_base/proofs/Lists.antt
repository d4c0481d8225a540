-- Lists: one more element at the end, one element taken out of the middle, and zeros.
use Rattle.std.proofs.Common.{◌≡◌, ◌⊎◌, inl, inr, ℕ, zero, suc, ◌+◌, ◌<◌, ◌++◌, List, [], ◌∷◌, length, get_or, take, drop, replicate, refl, ap, arith, Bool, cond, Some}
use Rattle.std.specs.Prelude.{slice_get, count_by}
use Rattle.std.proofs.lemmas.List.Sums.{sum_by-append, sum_by-cons}

-- ---- one more element

-- what stands in a list with one more stood there before, or is the last
pub got_split : {X : Type 0} (xs : List X) (last : X) (i : ℕ) (x : X) → slice_get (xs ++ last ∷ []) i ≡ Some x → (slice_get xs i ≡ Some x) ⊎ ((i ≡ length xs) × (last ≡ x))
got_split [] last zero x e = inr (refl, cc)
got_split [] last (suc i) x e = cc
got_split (y ∷ xs) last zero x e = inl e
got_split (y ∷ xs) last (suc i) x e = elim (got_split xs last i x e) [ inl a ↦ inl a | inr a ↦ inr (ap suc a.0, a.1) ]

pub got_kept : {X : Type 0} (xs : List X) (last : X) (i : ℕ) (x : X) → slice_get xs i ≡ Some x → slice_get (xs ++ last ∷ []) i ≡ Some x
got_kept [] last i x e = absurd (cc e)
got_kept (y ∷ xs) last zero x e = e
got_kept (y ∷ xs) last (suc i) x e = got_kept xs last i x e

pub got_last : {X : Type 0} (xs : List X) (last : X) → slice_get (xs ++ last ∷ []) (length xs) ≡ Some last
got_last [] last = refl
got_last (y ∷ xs) last = got_last xs last

pub not_nil : {X : Type 0} (xs : List X) (last : X) → xs ++ last ∷ [] ≡ [] → ⊥
not_nil [] last e = cc e
not_nil (y ∷ xs) last e = cc e

-- how many of a list with one more pass a test
pub count_last : {X : Type 0} (p : X → Bool) (xs : List X) (last : X) → count_by p (xs ++ last ∷ []) ≡ count_by p xs + cond (p last) 1 0
count_last p xs last = omega (arith, sum_by-append (λ x. cond (p x) 1 0) xs (last ∷ []), sum_by-cons (λ x. cond (p x) 1 0) last [])

-- ---- one element in the middle

pub split_at : {X : Type 0} (xs : List X) (i : ℕ) (d : X) → i < length xs → xs ≡ take i xs ++ get_or xs i d ∷ drop (suc i) xs
split_at [] i d l = absurd (omega arith)
split_at (x ∷ xs) zero d l = refl
split_at (x ∷ xs) (suc i) d l = ap (λ ys. x ∷ ys) (split_at xs i d (omega arith))

-- ---- zeros

pub zero_at : (n i : ℕ) → get_or {A = ℕ} (replicate n 0) i 0 ≡ 0
zero_at zero i = refl
zero_at (suc n) zero = refl
zero_at (suc n) (suc i) = zero_at n i
