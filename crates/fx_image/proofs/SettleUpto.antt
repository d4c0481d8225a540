-- The entries of a history up to a number, settled.
use Rattle.std.proofs.Common.{◌≡◌, ℕ, zero, suc, ◌+◌, ◌<◌, ◌≤◌, Bool, true, false, cond, List, [], ◌∷◌, length, map, refl, sym, ap, subst, ◌∙◌, arith, inl, inr}
use Rattle.std.specs.Prelude.{All, IsOk, Some, filter, fold, nat_le, slice_get}
use Rattle.std.proofs.lemmas.Bool.{cases_lt, le-leb, leb-true}
use Rattle.std.proofs.lemmas.List.{length-map}
use Rattle.fx_plain.specs.Table.{do_all}
use Rattle.fx_plain.specs.Tree.{Tree}
use Rattle.fx_history.specs.declared.entry.Entry.{Entry}
use Rattle.fx_history.specs.History.{Legal, SettledFirst, settle, settle_entry, settled_by, tree_after, tree_at}
use Rattle.fx_history.proofs.Settling.{all_got, settled_by_most, settled_by_same, settled_by_some}
use Rattle.fx_image.specs.Journal.{settle_upto}

-- when an entry of a number is settled then
abbrev settled_then : (calls number : ℕ) → Entry → ℕ
settled_then calls number e = cond (nat_le e.number number) (settled_by calls e.settled) e.settled

abbrev settle_one : (calls number : ℕ) → Entry → Entry
settle_one calls number e = record e { settled = settled_then calls number e }

one_is : (calls number : ℕ) (e : Entry) → cond (nat_le e.number number) (settle_entry calls e) e ≡ settle_one calls number e
one_is calls number e = by (nat_le e.number number)
  where
    by : (b : Bool) → cond b (settle_entry calls e) e ≡ record e { settled = cond b (settled_by calls e.settled) e.settled }
    by true = refl
    by false = refl

upto_is : (calls number : ℕ) (h : List Entry) → settle_upto calls number h ≡ map (settle_one calls number) h
upto_is calls number h = ap (λ (f : Entry → Entry). map f h) (λ i e. one_is calls number e i)

pub upto_length : (calls number : ℕ) (h : List Entry) → length (settle_upto calls number h) ≡ length h
upto_length calls number h = length-map h (λ (e : Entry). cond (nat_le e.number number) (settle_entry calls e) e)

got_of : (f : Entry → Entry) (xs : List Entry) (i : ℕ) (y : Entry) → slice_get (map f xs) i ≡ Some y → (x : Entry) × (slice_get xs i ≡ Some x) × (f x ≡ y)
got_of f [] i y got = absurd (cc got)
got_of f (x ∷ xs) zero y got = (x, refl, cc got)
got_of f (x ∷ xs) (suc i) y got = got_of f xs i y got

pub upto_got : (calls number : ℕ) (h : List Entry) (i : ℕ) (y : Entry) → slice_get (settle_upto calls number h) i ≡ Some y → (x : Entry) × (slice_get h i ≡ Some x) × (record x { settled = cond (nat_le x.number number) (settled_by calls x.settled) x.settled } ≡ y)
upto_got calls number h i y got = got_of (settle_one calls number) h i y (ap (λ (xs : List Entry). slice_get xs i) (sym (upto_is calls number h)) ∙ got)

-- ---- trees

after_upto : (t : Tree) (calls number : ℕ) (h : List Entry) → fold tree_after t (map (settle_one calls number) h) ≡ fold tree_after t h
after_upto t calls number [] = refl
after_upto t calls number (e ∷ h) = after_upto (tree_after t e) calls number h

filter_upto : (calls number : ℕ) (h : List Entry) (n : ℕ) → filter (λ (e : Entry). nat_le e.number n) (map (settle_one calls number) h) ≡ map (settle_one calls number) (filter (λ (e : Entry). nat_le e.number n) h)
filter_upto calls number [] n = refl
filter_upto calls number (e ∷ h) n = by (nat_le e.number n) (filter_upto calls number h n)
  where
    p : Entry → Bool
    p = λ (x : Entry). nat_le x.number n

    by : (b : Bool) → filter p (map (settle_one calls number) h) ≡ map (settle_one calls number) (filter p h)
        → cond b (settle_one calls number e ∷ filter p (map (settle_one calls number) h)) (filter p (map (settle_one calls number) h)) ≡ map (settle_one calls number) (cond b (e ∷ filter p h) (filter p h))
    by true rest = ap (λ (xs : List Entry). settle_one calls number e ∷ xs) rest
    by false rest = rest

pub tree_at_upto : (t : Tree) (calls number : ℕ) (h : List Entry) (n : ℕ) → tree_at t (settle_upto calls number h) n ≡ tree_at t h n
tree_at_upto t calls number h n =
    ap (λ (xs : List Entry). tree_at t xs n) (upto_is calls number h)
    ∙ ap (fold tree_after t) (filter_upto calls number h n) ∙ after_upto t calls number (filter (λ (e : Entry). nat_le e.number n) h)

pub tree_now_upto : (t : Tree) (base calls number : ℕ) (h : List Entry) → tree_at t (settle_upto calls number h) (base + length (settle_upto calls number h)) ≡ tree_at t h (base + length h)
tree_now_upto t base calls number h = ap (λ n. tree_at t (settle_upto calls number h) (base + n)) (upto_length calls number h) ∙ tree_at_upto t calls number h (base + length h)

-- ---- where all entries are up to the number

pub upto_all : (calls number : ℕ) (h : List Entry) → ((i : ℕ) (e : Entry) → slice_get h i ≡ Some e → e.number ≤ number) → settle_upto calls number h ≡ settle calls h
upto_all calls number [] low = refl
upto_all calls number (e ∷ h) low =
    ap (λ b. cond b (settle_entry calls e) e ∷ settle_upto calls number h) (le-leb e.number number (low 0 e refl))
    ∙ ap (λ (xs : List Entry). settle_entry calls e ∷ xs) (upto_all calls number h (λ i x got. low (suc i) x got))

-- ---- where they were settled before

not_upto : (n number : ℕ) → number < n → nat_le n number ≡ false
not_upto n number l = by (nat_le n number) refl
  where
    by : (b : Bool) → nat_le n number ≡ b → b ≡ false
    by false e = refl
    by true e = absurd (let a : n ≤ number = leb-true n number e in omega arith)

pub upto_same : (t : Tree) (base calls marks : ℕ) (h : List Entry) → Legal t base h → SettledFirst marks h → settle_upto calls (base + marks) h ≡ h
upto_same t base calls marks h k first = upto_is calls (base + marks) h ∙ each h (λ i e got. elim (cases_lt i marks) [
  | inl l ↦ ap (λ b. record e { settled = cond b (settled_by calls e.settled) e.settled }) (le-leb e.number (base + marks) (omega (arith, k.numbered i e got)))
      ∙ ap (λ n. record e { settled = n }) (settled_by_same calls e.settled (first.before i e got l))
  | inr l ↦ ap (λ b. record e { settled = cond b (settled_by calls e.settled) e.settled }) (not_upto e.number (base + marks) (omega (arith, l, k.numbered i e got)))
])
  where
    each : (xs : List Entry) → ((i : ℕ) (e : Entry) → slice_get xs i ≡ Some e → settle_one calls (base + marks) e ≡ e) → map (settle_one calls (base + marks)) xs ≡ xs
    each [] same = refl
    each (x ∷ xs) same = ap (λ (y : Entry). y ∷ map (settle_one calls (base + marks)) xs) (same 0 x refl) ∙ ap (λ (ys : List Entry). x ∷ ys) (each xs (λ i e got. same (suc i) e got))

-- ---- what is settled then

then_most : (calls number : ℕ) (e : Entry) → e.settled ≤ calls → settled_then calls number e ≤ calls
then_most calls number e most = by (nat_le e.number number)
  where
    by : (b : Bool) → cond b (settled_by calls e.settled) e.settled ≤ calls
    by true = settled_by_most calls e.settled most
    by false = most

pub upto_most : (calls number : ℕ) (h : List Entry) → All (λ entry. entry.settled ≤ calls) h → All (λ entry. entry.settled ≤ calls) (settle_upto calls number h)
upto_most calls number h most = subst (All (λ (entry : Entry). entry.settled ≤ calls)) (sym (upto_is calls number h)) (each h most)
  where
    each : (h : List Entry) → All (λ (entry : Entry). entry.settled ≤ calls) h → All (λ (entry : Entry). entry.settled ≤ calls) (map (settle_one calls number) h)
    each [] most i d l = absurd (omega arith)
    each (e ∷ h) most zero d l = then_most calls number e (most 0 e (omega arith))
    each (e ∷ h) most (suc i) d l = each h (λ j x k. most (suc j) x (omega arith)) i d (omega arith)

module _ (t : Tree) (base calls count : ℕ) (h : List Entry) (k : Legal t base h) (some : 0 < calls) where
  then_is : (i : ℕ) (x : Entry) → slice_get h i ≡ Some x → i < count → settled_then calls (base + count) x ≡ settled_by calls x.settled
  then_is i x got l = ap (λ b. cond b (settled_by calls x.settled) x.settled) (le-leb x.number (base + count) (omega (arith, k.numbered i x got)))

  then_same : (i : ℕ) (x : Entry) → slice_get h i ≡ Some x → count ≤ i → settled_then calls (base + count) x ≡ x.settled
  then_same i x got l = ap (λ b. cond b (settled_by calls x.settled) x.settled) (not_upto x.number (base + count) (omega (arith, k.numbered i x got)))

  pub upto_first : (marks : ℕ) → SettledFirst marks h → marks ≤ count → SettledFirst count (settle_upto calls (base + count) h)
  upto_first marks first more = record {
    before = λ i y got l. let old = upto_got calls (base + count) h i y got in
        subst (λ (z : Entry). 0 < z.settled) old.2 (omega (arith, then_is i old.0 old.1 l, settled_by_some calls old.0.settled some));
    after = λ i y got l. let old = upto_got calls (base + count) h i y got in
        ap (λ (z : Entry). z.settled) (sym old.2) ∙ then_same i old.0 old.1 l ∙ first.after i old.0 old.1 (omega (arith, l, more));
  }

  module _ (most : All (λ entry. entry.settled ≤ calls) h) where
    in_order : (i j : ℕ) (a b : Entry) → i < j → slice_get h i ≡ Some a → slice_get h j ≡ Some b → 0 < settled_then calls (base + count) b
        → (0 < settled_then calls (base + count) a) × (settled_then calls (base + count) a ≤ settled_then calls (base + count) b)
    in_order i j a b before gota gotb later = elim (cases_lt j count) [
      | inl l ↦ (
        omega (arith, then_is i a gota (omega (arith, before, l)), settled_by_some calls a.settled some),
        omega (arith, then_is i a gota (omega (arith, before, l)), then_is j b gotb l, both_then a.settled b.settled (all_got (λ (e : Entry). e.settled ≤ calls) h i a most gota) (k.settles i j a b before gota gotb)),
      )
      | inr l ↦ (
          let same : settled_then calls (base + count) b ≡ b.settled = then_same j b gotb (omega (arith, l)) in
          let both = k.settles i j a b before gota gotb (omega (arith, later, same)) in
          let here : settled_then calls (base + count) a ≡ a.settled = kept a both.0 in
          (omega (arith, here, both.0), omega (arith, here, same, both.1)))
    ]
      where
        both_then : (earlier later : ℕ) → earlier ≤ calls → (0 < later → (0 < earlier) × (earlier ≤ later)) → settled_by calls earlier ≤ settled_by calls later
        both_then earlier zero low f = settled_by_most calls earlier low
        both_then zero (suc later) low f = let both = f (omega arith) in absurd (omega (arith, both.0))
        both_then (suc earlier) (suc later) low f = let both = f (omega arith) in omega (arith, both.1)

        kept : (e : Entry) → 0 < e.settled → settled_then calls (base + count) e ≡ e.settled
        kept e was = by (nat_le e.number (base + count))
          where
            by : (c : Bool) → cond c (settled_by calls e.settled) e.settled ≡ e.settled
            by true = settled_by_same calls e.settled was
            by false = refl

    pub legal_upto : Legal t base (settle_upto calls (base + count) h)
    legal_upto = record {
      numbered = λ i y got. let old = upto_got calls (base + count) h i y got in subst (λ (x : Entry). x.number ≡ base + i + 1) old.2 (k.numbered i old.0 old.1);
      done = λ i y got. let old = upto_got calls (base + count) h i y got in
          subst (λ (x : Entry). IsOk (do_all (tree_at t (settle_upto calls (base + count) h) (base + i)) x.steps)) old.2
          (subst (λ (u : Tree). IsOk (do_all u old.0.steps)) (sym (tree_at_upto t calls (base + count) h (base + i))) (k.done i old.0 old.1));
      upkeep = λ i y got nobody. let old = upto_got calls (base + count) h i y got in
          ap (λ (x : Entry). x.steps) (sym old.2) ∙ k.upkeep i old.0 old.1 (ap (λ (x : Entry). x.who) old.2 ∙ nobody);
      settles = λ i j x y before gotx goty later. let a = upto_got calls (base + count) h i x gotx in let b = upto_got calls (base + count) h j y goty in
          subst (λ (u : Entry). (0 < u.settled) × (u.settled ≤ y.settled)) a.2
          (subst (λ (v : Entry). (0 < settled_then calls (base + count) a.0) × (settled_then calls (base + count) a.0 ≤ v.settled)) b.2
          (in_order i j a.0 b.0 before a.1 b.1 (subst (λ (v : Entry). 0 < v.settled) (sym b.2) later)));
    }
