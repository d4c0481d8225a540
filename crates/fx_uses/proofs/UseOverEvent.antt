-- What the events keep of who wrote and freed a block, and of what its cell has.
use Rattle.std.proofs.Common.{◌≡◌, ℕ, ◌<◌, Bool, true, false, if◌then◌else◌, ◌==◌, sym, ap, ◌∙◌, arith, ◌⊎◌, inl, inr, Some}
use Rattle.std.specs.Prelude.{nat_le}
use Rattle.std.proofs.lemmas.Bool.Decides.{eqb_tells}
use Rattle.fx_disk.specs.Record.{Cell}
use Rattle.fx_uses.specs.Uses.{Use, Free, Drawn, Staged, Live, Freed, System, IsOurs, since_of, until_of, wanted, HasWanted, IsGood}
use Rattle.fx_uses.specs.Events.{taken_over, freed_by, given_back, let_go}

-- ---- a commit

since_taken : (who n w j : ℕ) → since_of (if w == who then Live n else Staged w) ≡ Some j → (since_of (Staged w) ≡ Some j) ⊎ ((j ≡ n) × (Staged w ≡ Staged who))
since_taken who n w j = elim (eqb_tells w who) [
  | inl same ↦ (λ e. let q : since_of (Live n) ≡ Some j = sym (ap (λ (t : Bool). since_of (if t then Live n else Staged w)) same.0) ∙ e in inr (cc, ap Staged same.1))
  | inr other ↦ (λ e. inl (sym (ap (λ (t : Bool). since_of (if t then Live n else Staged w)) other.0) ∙ e))
]

pub since_commit : (who n : ℕ) (h : Bool) (u : Use) (j : ℕ) → since_of (taken_over who n (if h then freed_by n u else u)) ≡ Some j → (since_of u ≡ Some j) ⊎ ((j ≡ n) × (u ≡ Staged who))
since_commit who n true (Staged w) j = since_taken who n w j
since_commit who n false (Staged w) j = since_taken who n w j
since_commit who n true u j = λ e. inl e
since_commit who n false u j = λ e. inl e

until_taken : (who n w m : ℕ) → until_of (if w == who then Live n else Staged w) ≡ Some m → (until_of (Staged w) ≡ Some m) ⊎ (m ≡ n)
until_taken who n w m = elim (w == who) as (λ t. until_of (if t then Live n else Staged w) ≡ Some m → (until_of (Staged w) ≡ Some m) ⊎ (m ≡ n)) [ true ↦ (λ e. inl e) | false ↦ (λ e. inl e) ]

pub until_commit : (who n : ℕ) (h : Bool) (u : Use) (m : ℕ) → until_of (taken_over who n (if h then freed_by n u else u)) ≡ Some m → (until_of u ≡ Some m) ⊎ (m ≡ n)
until_commit who n true (Staged w) m = until_taken who n w m
until_commit who n false (Staged w) m = until_taken who n w m
until_commit who n true (Live j) m = λ e. inr (cc)
until_commit who n true u m = λ e. inl e
until_commit who n false u m = λ e. inl e

has_taken : (size b firm who n w : ℕ) (cell : Cell) → firm < n → IsGood size b cell → HasWanted size b firm (wanted (if w == who then Live n else Staged w)) cell
has_taken size b firm who n w cell lt good = elim (w == who) as (λ t. HasWanted size b firm (wanted (if t then Live n else Staged w)) cell) [ true ↦ (good, λ le. absurd (omega (arith, lt, le))) | false ↦ good ]

pub has_commit : (size b firm who n : ℕ) (h : Bool) (u : Use) (cell : Cell) → firm < n → HasWanted size b firm (wanted u) cell → HasWanted size b firm (wanted (taken_over who n (if h then freed_by n u else u))) cell
has_commit size b firm who n true (Staged w) cell lt has = has_taken size b firm who n w cell lt has
has_commit size b firm who n false (Staged w) cell lt has = has_taken size b firm who n w cell lt has
has_commit size b firm who n true u cell lt has = has
has_commit size b firm who n false u cell lt has = has

-- ---- a rollback

pub since_given : (who : ℕ) (u : Use) (j : ℕ) → since_of (given_back who u) ≡ Some j → since_of u ≡ Some j
since_given who (Drawn w) j = elim (w == who) as (λ t. since_of (if t then Free else Drawn w) ≡ Some j → since_of (Drawn w) ≡ Some j) [ true ↦ (λ e. e) | false ↦ (λ e. e) ]
since_given who (Staged w) j = elim (w == who) as (λ t. since_of (if t then Free else Staged w) ≡ Some j → since_of (Staged w) ≡ Some j) [ true ↦ (λ e. e) | false ↦ (λ e. e) ]
since_given who u j = λ e. e

pub until_given : (who : ℕ) (u : Use) (j : ℕ) → until_of (given_back who u) ≡ Some j → until_of u ≡ Some j
until_given who (Drawn w) j = elim (w == who) as (λ t. until_of (if t then Free else Drawn w) ≡ Some j → until_of (Drawn w) ≡ Some j) [ true ↦ (λ e. e) | false ↦ (λ e. e) ]
until_given who (Staged w) j = elim (w == who) as (λ t. until_of (if t then Free else Staged w) ≡ Some j → until_of (Staged w) ≡ Some j) [ true ↦ (λ e. e) | false ↦ (λ e. e) ]
until_given who u j = λ e. e

pub has_given : (size b firm who : ℕ) (u : Use) (cell : Cell) → HasWanted size b firm (wanted u) cell → HasWanted size b firm (wanted (given_back who u)) cell
has_given size b firm who (Drawn w) cell has = elim (w == who) as (λ t. HasWanted size b firm (wanted (if t then Free else Drawn w)) cell) [ true ↦ tt | false ↦ tt ]
has_given size b firm who (Staged w) cell has = elim (w == who) as (λ t. HasWanted size b firm (wanted (if t then Free else Staged w)) cell) [ true ↦ tt | false ↦ has ]
has_given size b firm who u cell has = has

-- ---- a settling

pub since_let_go : (n : ℕ) (u : Use) (j : ℕ) → since_of (let_go n u) ≡ Some j → since_of u ≡ Some j
since_let_go n (Freed a m) j = elim (nat_le m n) as (λ t. since_of (if t then Free else Freed a m) ≡ Some j → since_of (Freed a m) ≡ Some j) [ true ↦ (λ e. absurd (cc)) | false ↦ (λ e. e) ]
since_let_go n u j = λ e. e

pub until_let_go : (n : ℕ) (u : Use) (j : ℕ) → until_of (let_go n u) ≡ Some j → until_of u ≡ Some j
until_let_go n (Freed a m) j = elim (nat_le m n) as (λ t. until_of (if t then Free else Freed a m) ≡ Some j → until_of (Freed a m) ≡ Some j) [ true ↦ (λ e. absurd (cc)) | false ↦ (λ e. e) ]
until_let_go n u j = λ e. e

pub has_let_go : (size b firm n : ℕ) (u : Use) (cell : Cell) → HasWanted size b firm (wanted u) cell → HasWanted size b firm (wanted (let_go n u)) cell
has_let_go size b firm n (Freed a m) cell has = elim (nat_le m n) as (λ t. HasWanted size b firm (wanted (if t then Free else Freed a m)) cell) [ true ↦ tt | false ↦ has ]
has_let_go size b firm n u cell has = has

-- ---- what was put there by the transactions

pub ours_commit : (base who n : ℕ) (h : Bool) (u : Use) → IsOurs base (taken_over who n (if h then freed_by n u else u)) → IsOurs base u
ours_commit base who n true (Staged w) = λ _. tt
ours_commit base who n false (Staged w) = λ _. tt
ours_commit base who n true u = λ o. o
ours_commit base who n false u = λ o. o

pub ours_given : (base who : ℕ) (u : Use) → IsOurs base (given_back who u) → IsOurs base u
ours_given base who (Drawn w) = elim (w == who) as (λ t. IsOurs base (if t then Free else Drawn w) → IsOurs base (Drawn w)) [ true ↦ (λ o. o) | false ↦ (λ o. o) ]
ours_given base who (Staged w) = λ _. tt
ours_given base who u = λ o. o

pub ours_let_go : (base n : ℕ) (u : Use) → IsOurs base (let_go n u) → IsOurs base u
ours_let_go base n (Freed a m) = elim (nat_le m n) as (λ t. IsOurs base (if t then Free else Freed a m) → IsOurs base (Freed a m)) [ true ↦ (λ o. absurd o) | false ↦ (λ o. o) ]
ours_let_go base n u = λ o. o

pub ours_since : (base : ℕ) (u : Use) (j : ℕ) → since_of u ≡ Some j → base < j → IsOurs base u
ours_since base (Live a) j e lt = let q : a ≡ j = cc in omega (arith, q, lt)
ours_since base (Freed a m) j e lt = let q : a ≡ j = cc in omega (arith, q, lt)
ours_since base (Staged w) j e lt = tt
ours_since base u j e lt = absurd (cc)

-- ---- superblocks and ring stay what they are

pub system_commit : (who n : ℕ) (h : Bool) (u : Use) → u ≡ System → taken_over who n (if h then freed_by n u else u) ≡ System
system_commit who n true u e = ap (λ (v : Use). taken_over who n (freed_by n v)) e
system_commit who n false u e = ap (taken_over who n) e
