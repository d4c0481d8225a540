-- What the uses show over a commit, a rollback and a settling.
use Rattle.std.proofs.Common.{◌≡◌, ℕ, ◌+◌, ◌<◌, ◌≤◌, Bool, true, false, if◌then◌else◌, ◌==◌, refl, sym, ap, ◌∙◌, arith, inl, inr, Option, Some, None}
use Rattle.std.specs.Prelude.{nat_le}
use Rattle.std.proofs.lemmas.Bool.{lt-leb, le-leb}
use Rattle.std.proofs.lemmas.Bool.Decides.{eqb_tells, leb_tells}
use Rattle.fx_uses.specs.Live.{put_over}
use Rattle.fx_uses.specs.Uses.{Use, Free, Drawn, Staged, Live, Freed, live_by_use, since_of, until_of}
use Rattle.fx_uses.specs.Events.{taken_over, freed_by, given_back, let_go}

-- a commit shows nothing new at the numbers before it
pub shown_before : (who n k : ℕ) (h : Bool) (u : Use) (sum : ℕ) → k < n → live_by_use k (taken_over who n (if h then freed_by n u else u)) sum ≡ live_by_use k u sum
shown_before who n k true (Staged w) sum lt = elim (w == who) as (λ t. live_by_use k (if t then Live n else Staged w) sum ≡ None) [ true ↦ ap (λ (t : Bool). if t then Some sum else None) (lt-leb n k lt) | false ↦ refl ]
shown_before who n k false (Staged w) sum lt = elim (w == who) as (λ t. live_by_use k (if t then Live n else Staged w) sum ≡ None) [ true ↦ ap (λ (t : Bool). if t then Some sum else None) (lt-leb n k lt) | false ↦ refl ]
shown_before who n k true (Live since) sum lt = ap (λ (t : Bool). if nat_le since k then (if t then None else Some sum) else None) (lt-leb n k lt)
shown_before who n k true u sum lt = refl
shown_before who n k false u sum lt = refl

-- a number up to which nothing was freed or written later
shown_live : (j k since : ℕ) (sum : ℕ) → since ≤ j → since ≤ k → live_by_use j (Live since) sum ≡ live_by_use k (Live since) sum
shown_live j k since sum a b = ap (λ (t : Bool). if t then Some sum else None) (le-leb since j a ∙ sym (le-leb since k b))

pub shown_gone : (k since until : ℕ) (sum : ℕ) → until ≤ k → live_by_use k (Freed since until) sum ≡ None
shown_gone k since until sum le = ap (λ (t : Bool). if nat_le since k then (if t then None else Some sum) else None) (le-leb until k le) ∙ both_none (nat_le since k)
  where
    both_none : (t : Bool) → (if◌then◌else◌ {A = Option ℕ} t None None) ≡ None
    both_none true = refl
    both_none false = refl

not_put : (P : Option ℕ) → ((sum : ℕ) → P ≡ Some sum → ⊥) → P ≡ None
not_put None h = refl
not_put (Some sum) h = absurd (h sum refl)

staged_who : (w who : ℕ) → Staged w ≡ Staged who → w ≡ who
staged_who w who e = cc

staged_case : (who last n w : ℕ) (sum : ℕ) (put : Option ℕ) → n ≡ last + 1
    → (Staged w ≡ Staged who → put ≡ Some sum) → ((x : ℕ) → put ≡ Some x → Staged w ≡ Staged who)
    → put_over put None ≡ live_by_use n (if w == who then Live n else Staged w) sum
staged_case who last n w sum put e staged only = elim (eqb_tells w who) [
  | inl same ↦ let whole : nat_le n n ≡ true = le-leb n n (omega arith) in
      ap (λ (p : Option ℕ). put_over p None) (staged (ap Staged same.1))
      ∙ sym (ap (λ (t : Bool). if t then Some sum else None) whole)
      ∙ sym (ap (λ (t : Bool). live_by_use n (if t then Live n else Staged w) sum) same.0)
  | inr other ↦
      ap (λ (p : Option ℕ). put_over p None) (not_put put (λ x p. other.1 (staged_who w who (only x p))))
      ∙ sym (ap (λ (t : Bool). live_by_use n (if t then Live n else Staged w) sum) other.0)
]

-- and the next number shows what the transaction leaves
pub shown_after : (who last n : ℕ) (h : Bool) (u : Use) (sum : ℕ) (put : Option ℕ) → n ≡ last + 1
    → ((j : ℕ) → since_of u ≡ Some j → j ≤ last) → ((m : ℕ) → until_of u ≡ Some m → m ≤ last)
    → (u ≡ Staged who → put ≡ Some sum) → ((x : ℕ) → put ≡ Some x → u ≡ Staged who)
    → put_over put (if h then None else live_by_use last u sum) ≡ live_by_use n (taken_over who n (if h then freed_by n u else u)) sum
shown_after who last n true (Staged w) sum put e since until staged only = staged_case who last n w sum put e staged only
shown_after who last n false (Staged w) sum put e since until staged only = staged_case who last n w sum put e staged only
shown_after who last n true (Live j) sum put e since until staged only =
    ap (λ (p : Option ℕ). put_over p None) (not_put put (λ x p. let q : Live j ≡ Staged who = only x p in absurd (cc)))
    ∙ sym (shown_gone n j n sum (omega arith))
shown_after who last n false (Live j) sum put e since until staged only =
    let le : j ≤ last = since j refl in
    ap (λ (p : Option ℕ). put_over p (live_by_use last (Live j) sum)) (not_put put (λ x p. let q : Live j ≡ Staged who = only x p in absurd (cc)))
    ∙ shown_live last n j sum le (omega (arith, e, le))
shown_after who last n true (Freed j m) sum put e since until staged only =
    let le : m ≤ last = until m refl in
    ap (λ (p : Option ℕ). put_over p None) (not_put put (λ x p. let q : Freed j m ≡ Staged who = only x p in absurd (cc)))
    ∙ sym (shown_gone n j m sum (omega (arith, e, le)))
shown_after who last n false (Freed j m) sum put e since until staged only =
    let le : m ≤ last = until m refl in
    ap (λ (p : Option ℕ). put_over p (live_by_use last (Freed j m) sum)) (not_put put (λ x p. let q : Freed j m ≡ Staged who = only x p in absurd (cc)))
    ∙ shown_gone last j m sum le ∙ sym (shown_gone n j m sum (omega (arith, e, le)))
shown_after who last n true u sum put e since until staged only =
    ap (λ (p : Option ℕ). put_over p None) (not_put put (λ x p. let q : u ≡ Staged who = only x p in absurd (cc)))
shown_after who last n false u sum put e since until staged only =
    ap (λ (p : Option ℕ). put_over p None) (not_put put (λ x p. let q : u ≡ Staged who = only x p in absurd (cc)))

-- what is given back was not shown
pub shown_given : (who k : ℕ) (u : Use) (sum : ℕ) → live_by_use k (given_back who u) sum ≡ live_by_use k u sum
shown_given who k (Drawn w) sum = elim (w == who) as (λ t. live_by_use k (if t then Free else Drawn w) sum ≡ None) [ true ↦ refl | false ↦ refl ]
shown_given who k (Staged w) sum = elim (w == who) as (λ t. live_by_use k (if t then Free else Staged w) sum ≡ None) [ true ↦ refl | false ↦ refl ]
shown_given who k u sum = refl

-- what is let go is not shown from then on
pub shown_let_go : (n k : ℕ) (u : Use) (sum : ℕ) → n ≤ k → live_by_use k (let_go n u) sum ≡ live_by_use k u sum
shown_let_go n k (Freed j m) sum le = elim (leb_tells m n) [
  | inl yes' ↦ ap (λ (t : Bool). live_by_use k (if t then Free else Freed j m) sum) yes'.0 ∙ sym (shown_gone k j m sum (omega (arith, yes'.1)))
  | inr no' ↦ ap (λ (t : Bool). live_by_use k (if t then Free else Freed j m) sum) no'.0
]
shown_let_go n k u sum le = refl
