-- A history that is settled.
use Rattle.std.proofs.Common.{◌≡◌, ℕ, zero, suc, ◌+◌, ◌<◌, ◌≤◌, Bool, true, false, List, [], ◌∷◌, ◌++◌, refl, sym, ap, subst, ◌∙◌, length, take, drop, arith, inl, inr, cond}
use Rattle.std.specs.Prelude.{Some, IsOk, All, nat_le, filter, fold, map, slice_get}
use Rattle.std.proofs.lemmas.Option.{slice_get_within, get_or_from_slice_get}
use Rattle.std.proofs.lemmas.List.{length-map, map-append}
use Rattle.fx_plain.specs.Tree.{Tree}
use Rattle.fx_plain.specs.Table.{do_all}
use Rattle.fx_history.specs.declared.entry.Entry.{Entry}
use Rattle.fx_history.specs.History.{Legal, SettledFirst, tree_after, tree_at, settled_by, settle_entry, settle}
use Rattle.fx_history.proofs.Histories.{got_split}

-- what holds of each element holds of one that stands in the list
pub all_got : {X : Type 0} (P : X → Type 0) (xs : List X) (i : ℕ) (x : X) → All P xs → slice_get xs i ≡ Some x → P x
all_got P xs i x all got = subst P (get_or_from_slice_get xs i x x got) (all i x (slice_get_within xs i x got))

pub settled_by_some : (calls before : ℕ) → 0 < calls → 0 < settled_by calls before
settled_by_some calls zero l = l
settled_by_some calls (suc before) l = omega arith

pub settled_by_most : (calls before : ℕ) → before ≤ calls → settled_by calls before ≤ calls
settled_by_most calls zero l = omega arith
settled_by_most calls (suc before) l = l

pub settled_by_same : (calls before : ℕ) → 0 < before → settled_by calls before ≡ before
settled_by_same calls zero l = absurd (omega arith)
settled_by_same calls (suc before) l = refl

-- an entry that was settled stays as it was
pub settle_entry_same : (calls : ℕ) (e : Entry) → 0 < e.settled → settle_entry calls e ≡ e
settle_entry_same calls e l = ap (λ (n : ℕ). let x : Entry = record e { settled = n } in x) (settled_by_same calls e.settled l)

-- an entry that was not is settled now
pub settle_entry_now : (calls : ℕ) (e : Entry) → e.settled ≡ 0 → settle_entry calls e ≡ record e { settled = calls }
settle_entry_now calls e z = ap (λ (n : ℕ). let x : Entry = record e { settled = settled_by calls n } in x) z

pub settle_length : (calls : ℕ) (h : List Entry) → length (settle calls h) ≡ length h
settle_length calls h = length-map h (settle_entry calls)

pub settle_append : (calls : ℕ) (former latter : List Entry) → settle calls (former ++ latter) ≡ settle calls former ++ settle calls latter
settle_append calls former latter = map-append (settle_entry calls) former latter

-- what stands in a history stands settled in the settled one
pub settle_get : (calls : ℕ) (h : List Entry) (i : ℕ) (e : Entry) → slice_get h i ≡ Some e → slice_get (settle calls h) i ≡ Some (settle_entry calls e)
settle_get calls [] i e got = absurd (cc got)
settle_get calls (x ∷ h) zero e got = let same : x ≡ e = cc got in ap (λ (y : Entry). Some (settle_entry calls y)) same
settle_get calls (x ∷ h) (suc i) e got = settle_get calls h i e got

-- what stands in a settled history stood there before
pub settle_got : (calls : ℕ) (h : List Entry) (i : ℕ) (e : Entry) → slice_get (settle calls h) i ≡ Some e → (old : Entry) × (slice_get h i ≡ Some old) × (settle_entry calls old ≡ e)
settle_got calls [] i e got = absurd (cc got)
settle_got calls (x ∷ h) zero e got = (x, refl, cc got)
settle_got calls (x ∷ h) (suc i) e got = settle_got calls h i e got

-- what does not look at when an entry was settled is as before: its number, its steps
pub settle_kept : {X : Type 0} (f : Entry → X) (calls : ℕ) (h : List Entry) → ((e : Entry) → f (settle_entry calls e) ≡ f e) → map f (settle calls h) ≡ map f h
settle_kept f calls [] same = refl
settle_kept f calls (e ∷ h) same = ap (λ x. x ∷ map f (settle calls h)) (same e) ∙ ap (λ xs. f e ∷ xs) (settle_kept f calls h same)

pub settle_numbers : (calls : ℕ) (h : List Entry) → map (λ (e : Entry). e.number) (settle calls h) ≡ map (λ (e : Entry). e.number) h
settle_numbers calls h = settle_kept (λ (e : Entry). e.number) calls h (λ e. refl)

pub settle_steps : (calls : ℕ) (h : List Entry) → map (λ (e : Entry). e.steps) (settle calls h) ≡ map (λ (e : Entry). e.steps) h
settle_steps calls h = settle_kept (λ (e : Entry). e.steps) calls h (λ e. refl)

pub first_tail : (count : ℕ) (e : Entry) (h : List Entry) → SettledFirst (suc count) (e ∷ h) → SettledFirst count h
first_tail count e h k = record { before = λ i x got l. k.before (suc i) x got (omega arith); after = λ i x got l. k.after (suc i) x got (omega arith) }

-- where nothing is settled, settling sets all
settle_each : (calls : ℕ) (h : List Entry) → SettledFirst 0 h → settle calls h ≡ map (λ (e : Entry). let x : Entry = record e { settled = calls } in x) h
settle_each calls [] k = refl
settle_each calls (e ∷ h) k =
    ap (λ (x : Entry). x ∷ settle calls h) (settle_entry_now calls e (k.after 0 e refl (omega arith)))
    ∙ ap (λ (xs : List Entry). (let x : Entry = record e { settled = calls } in x) ∷ xs)
    (settle_each calls h (record { before = λ i x got l. absurd (omega arith); after = λ i x got l. k.after (suc i) x got (omega arith) }))

-- settling leaves what is settled, and sets what stands after it
pub settle_rest : (calls count : ℕ) (h : List Entry) → SettledFirst count h → settle calls h ≡ take count h ++ map (λ (e : Entry). let x : Entry = record e { settled = calls } in x) (drop count h)
settle_rest calls zero [] k = refl
settle_rest calls zero (e ∷ h) k = settle_each calls (e ∷ h) k
settle_rest calls (suc count) [] k = refl
settle_rest calls (suc count) (e ∷ h) k =
    ap (λ (x : Entry). x ∷ settle calls h) (settle_entry_same calls e (k.before 0 e refl (omega arith)))
    ∙ ap (λ (xs : List Entry). e ∷ xs) (settle_rest calls count h (first_tail count e h k))

-- a history that is settled stays as it is
pub settle_same : (calls : ℕ) (h : List Entry) → ((i : ℕ) (e : Entry) → slice_get h i ≡ Some e → 0 < e.settled) → settle calls h ≡ h
settle_same calls [] k = refl
settle_same calls (e ∷ h) k =
    ap (λ (x : Entry). x ∷ settle calls h) (settle_entry_same calls e (k 0 e refl)) ∙ ap (λ (xs : List Entry). e ∷ xs) (settle_same calls h (λ i x got. k (suc i) x got))

pub first_none : SettledFirst 0 []
first_none = record { before = λ i e got l. absurd (cc got); after = λ i e got l. absurd (cc got) }

-- one more entry, which is not settled
pub first_more : (count : ℕ) (h : List Entry) (e : Entry) → SettledFirst count h → count ≤ length h → e.settled ≡ 0 → SettledFirst count (h ++ e ∷ [])
first_more count h e k most zero_settled = record {
  before = λ i x got l. elim (got_split h e i x got) [ inl old ↦ k.before i x old l | inr new ↦ absurd (omega (arith, new.0)) ];
  after = λ i x got l. elim (got_split h e i x got) [ inl old ↦ k.after i x old l | inr new ↦ subst (λ (y : Entry). y.settled ≡ 0) new.1 zero_settled ];
}

-- all of a settled history is settled
pub first_all : (calls : ℕ) (h : List Entry) → 0 < calls → SettledFirst (length h) (settle calls h)
first_all calls h some = record {
  before = λ i e got l. let old = settle_got calls h i e got in subst (λ (x : Entry). 0 < x.settled) old.2 (settled_by_some calls old.0.settled some);
  after = λ i e got l. let old = settle_got calls h i e got in absurd (omega (arith, slice_get_within h i old.0 old.1));
}

-- after the settling no entry was settled at a later call
pub settle_most : (calls : ℕ) (h : List Entry) → All (λ entry. entry.settled ≤ calls) h → All (λ entry. entry.settled ≤ calls) (settle calls h)
settle_most calls [] most i d l = absurd (omega arith)
settle_most calls (e ∷ h) most zero d l = settled_by_most calls e.settled (most 0 e (omega arith))
settle_most calls (e ∷ h) most (suc i) d l = settle_most calls h (λ j x k. most (suc j) x (omega arith)) i d (omega arith)

-- settling changes no tree
tree_after_settle : (t : Tree) (calls : ℕ) (h : List Entry) → fold tree_after t (settle calls h) ≡ fold tree_after t h
tree_after_settle t calls [] = refl
tree_after_settle t calls (e ∷ h) = tree_after_settle (tree_after t e) calls h

up_to_settle : (calls : ℕ) (h : List Entry) (n : ℕ) → filter (λ (e : Entry). nat_le e.number n) (settle calls h) ≡ settle calls (filter (λ (e : Entry). nat_le e.number n) h)
up_to_settle calls [] n = refl
up_to_settle calls (e ∷ h) n = by (nat_le e.number n) (up_to_settle calls h n)
  where
    p : Entry → Bool
    p = λ (x : Entry). nat_le x.number n

    by : (b : Bool) → filter p (settle calls h) ≡ settle calls (filter p h) → cond b (settle_entry calls e ∷ filter p (settle calls h)) (filter p (settle calls h)) ≡ settle calls (cond b (e ∷ filter p h) (filter p h))
    by true rest = ap (λ (xs : List Entry). settle_entry calls e ∷ xs) rest
    by false rest = rest

pub tree_at_settle : (t : Tree) (calls : ℕ) (h : List Entry) (n : ℕ) → tree_at t (settle calls h) n ≡ tree_at t h n
tree_at_settle t calls h n = ap (fold tree_after t) (up_to_settle calls h n) ∙ tree_after_settle t calls (filter (λ (e : Entry). nat_le e.number n) h)

-- the tree after all of a history
pub tree_now_settle : (t : Tree) (base calls : ℕ) (h : List Entry) → tree_at t (settle calls h) (base + length (settle calls h)) ≡ tree_at t h (base + length h)
tree_now_settle t base calls h = ap (λ n. tree_at t (settle calls h) (base + n)) (settle_length calls h) ∙ tree_at_settle t calls h (base + length h)

-- of two settled in their order, the later was not settled at an earlier call
in_order : (calls earlier later : ℕ) → earlier ≤ calls → (0 < later → (0 < earlier) × (earlier ≤ later)) → settled_by calls earlier ≤ settled_by calls later
in_order calls earlier zero most k = settled_by_most calls earlier most
in_order calls zero (suc later) most k = let both = k (omega arith) in absurd (omega (arith, both.0))
in_order calls (suc earlier) (suc later) most k = let both = k (omega arith) in omega (arith, both.1)

-- a legal history, settled after no fewer device calls than any of its entries
pub legal_settle : (t : Tree) (base calls : ℕ) (h : List Entry) → Legal t base h → 0 < calls → All (λ entry. entry.settled ≤ calls) h → Legal t base (settle calls h)
legal_settle t base calls h k some most = record {
  numbered = λ i e got. let old = settle_got calls h i e got in subst (λ (x : Entry). x.number ≡ base + i + 1) old.2 (k.numbered i old.0 old.1);
  done = λ i e got. let old = settle_got calls h i e got in
      subst (λ (x : Entry). IsOk (do_all (tree_at t (settle calls h) (base + i)) x.steps)) old.2
      (subst (λ (u : Tree). IsOk (do_all u old.0.steps)) (sym (tree_at_settle t calls h (base + i))) (k.done i old.0 old.1));
  upkeep = λ i e got zero_who. let old = settle_got calls h i e got in
      ap (λ (x : Entry). x.steps) (sym old.2) ∙ k.upkeep i old.0 old.1 (ap (λ (x : Entry). x.who) old.2 ∙ zero_who);
  settles = λ i j x y before gotx goty later. let a = settle_got calls h i x gotx in let b = settle_got calls h j y goty in
      subst (λ (u : Entry). (0 < u.settled) × (u.settled ≤ y.settled)) a.2
      (subst (λ (v : Entry). (0 < settled_by calls a.0.settled) × (settled_by calls a.0.settled ≤ v.settled)) b.2
      (settled_by_some calls a.0.settled some, in_order calls a.0.settled b.0.settled (all_got (λ (e : Entry). e.settled ≤ calls) h i a.0 most a.1) (k.settles i j a.0 b.0 before a.1 b.1)));
}
