-- A table of runs after one entry is written.
use Rattle.std.proofs.Common.{◌≡◌, ◌≢◌, ℕ, ◌<◌, List, Option, Some, None, length, set, get_or, refl, sym, ◌∙◌, subst, ◌⊎◌, inl, inr, get_or-set_same, get_or-set_other}
use Rattle.std.proofs.lemmas.Bool.{cases_eq, cases_lt}
use Rattle.std.proofs.lemmas.List.{get_or_past}
use Rattle.fx_pool.specs.Region.{RunBegins}

pub none_some : (k : ℕ) → (x : Option ℕ) → x ≡ None → x ≡ Some k → ⊥
none_some k x e f = cc

pub none_where : (x : Option ℕ) → ((k : ℕ) → x ≡ Some k → ⊥) → x ≡ None
none_where None h = refl
none_where (Some k) h = absurd (h k refl)

-- a run begins within the table
pub HasRun-below : (l : List (Option ℕ)) (t j : ℕ) → RunBegins l t j → t < length l
HasRun-below l t j h = elim (cases_lt t (length l)) [
  | inl lt ↦ lt
  | inr ge ↦ absurd (none_some j (get_or l t None) (get_or_past l t None ge) h)
]

-- what stands at an entry has one order
pub HasRun-once : (l : List (Option ℕ)) (t i j : ℕ) → RunBegins l t i → RunBegins l t j → i ≡ j
HasRun-once l t i j h g = cc

pub set-at : (l : List (Option ℕ)) (i k : ℕ) → i < length l → RunBegins (set l i (Some k)) i k
set-at l i k h = get_or-set_same l i (Some k) None h

pub set-other : (l : List (Option ℕ)) (i t j : ℕ) (v : Option ℕ) → t ≢ i → RunBegins l t j → RunBegins (set l i v) t j
set-other l i t j v ne h = get_or-set_other l i t v None ne ∙ h

pub unset-other : (l : List (Option ℕ)) (i t j : ℕ) (v : Option ℕ) → t ≢ i → RunBegins (set l i v) t j → RunBegins l t j
unset-other l i t j v ne h = sym (get_or-set_other l i t v None ne) ∙ h

-- a run of the table after the write is the one written, or it was there
pub at-set : (l : List (Option ℕ)) (i t j k : ℕ) → i < length l → RunBegins (set l i (Some k)) t j → ((t ≡ i) × (j ≡ k)) ⊎ ((t ≢ i) × RunBegins l t j)
at-set l i t j k b h = elim (cases_eq t i) [
  | inl e ↦ inl (e, HasRun-once (set l i (Some k)) i j k (subst (λ (x : ℕ). RunBegins (set l i (Some k)) x j) e h) (set-at l i k b))
  | inr ne ↦ inr (ne, unset-other l i t j (Some k) ne h)
]

-- after an entry is cleared each run was there, and is another
pub at-clear : (l : List (Option ℕ)) (i t j : ℕ) → i < length l → RunBegins (set l i None) t j → (t ≢ i) × RunBegins l t j
at-clear l i t j b h = elim (cases_eq t i) [
  | inl e ↦ absurd (none_some j (get_or (set l i None) i None) (get_or-set_same l i None None b) (subst (λ (x : ℕ). RunBegins (set l i None) x j) e h))
  | inr ne ↦ (ne, unset-other l i t j None ne h)
]
