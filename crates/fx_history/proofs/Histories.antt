-- A history with one entry more.
use Rattle.std.proofs.Common.{◌≡◌, ℕ, zero, suc, ◌+◌, ◌<◌, ◌≤◌, Bool, true, List, [], ◌∷◌, ◌++◌, refl, sym, ap, subst, ◌∙◌, length, arith, length-append, inl, inr, cond}
use Rattle.std.specs.Prelude.{Some, Result, Ok, IsOk, nat_le, filter, fold, slice_get, ◌⊎◌}
use Rattle.std.proofs.lemmas.Option.{slice_get_within}
use Rattle.std.proofs.lemmas.Bool.{lt-leb}
use Rattle.std.proofs.lemmas.Bool.Decides.{leb_tells}
use Rattle.std.proofs.lemmas.List.{append-nil}
use Rattle.std.proofs.lemmas.List.Elements.{filter-append}
use Rattle.std.proofs.lemmas.List.Sums.{fold-append}
use Rattle.fx_plain.specs.Tree.{Tree}
use Rattle.fx_plain.specs.Table.{do_all, do_step, go_on}
use Rattle.fx_plain.specs.declared.step.Step.{Step}
use Rattle.fx_plain.specs.declared.step.Answer.{Answer}
use Rattle.fx_plain.specs.declared.step.Refusal.{Refusal}
use Rattle.fx_history.specs.declared.entry.Entry.{Entry}
use Rattle.fx_history.specs.History.{Legal, tree_after, tree_at}

-- what stands in a list still stands there when more is appended
pub got_more : {X : Type 0} (xs ys : List X) (i : ℕ) (x : X) → slice_get xs i ≡ Some x → slice_get (xs ++ ys) i ≡ Some x
got_more [] ys i x e = cc
got_more (y ∷ xs) ys zero x e = e
got_more (y ∷ xs) ys (suc i) x e = got_more xs ys i x e

pub got_last : {X : Type 0} (xs : List X) (x : X) → slice_get (xs ++ x ∷ []) (length xs) ≡ Some x
got_last [] x = refl
got_last (y ∷ xs) x = got_last xs x

-- what stands in a list with one more stood there before, or is the last
pub got_split : {X : Type 0} (xs : List X) (last : X) (i : ℕ) (x : X) → slice_get (xs ++ last ∷ []) i ≡ Some x → (slice_get xs i ≡ Some x) ⊎ ((i ≡ length xs) × (last ≡ x))
got_split [] last zero x e = inr (refl, cc)
got_split [] last (suc i) x e = cc
got_split (y ∷ xs) last zero x e = inl e
got_split (y ∷ xs) last (suc i) x e = elim (got_split xs last i x e) [ inl a ↦ inl a | inr a ↦ inr (ap suc a.0, a.1) ]

-- a filter that every element passes keeps the list
filter_all : {X : Type 0} (p : X → Bool) (xs : List X) → ((i : ℕ) (x : X) → slice_get xs i ≡ Some x → p x ≡ true) → filter p xs ≡ xs
filter_all p [] h = refl
filter_all p (x ∷ xs) h = ap (λ b. cond b (x ∷ filter p xs) (filter p xs)) (h zero x refl) ∙ ap (λ ys. x ∷ ys) (filter_all p xs (λ i y e. h (suc i) y e))

at_most : (a b : ℕ) → a ≤ b → nat_le a b ≡ true
at_most a b l = elim (leb_tells a b) [ inl x ↦ x.0 | inr y ↦ absurd (omega (arith, y.1)) ]

-- an entry with a later number changes no tree before it
pub tree_at_before : (t : Tree) (h : List Entry) (e : Entry) (n : ℕ) → n < e.number → tree_at t (h ++ e ∷ []) n ≡ tree_at t h n
tree_at_before t h e n l =
    let p : Entry → Bool = λ x. nat_le x.number n in
    ap (fold tree_after t) (filter-append p h (e ∷ []) ∙ ap (λ b. filter p h ++ cond b (e ∷ []) []) (lt-leb e.number n l) ∙ append-nil (filter p h))

-- the tree at a number that reaches the last entry
pub tree_at_after : (t : Tree) (h : List Entry) (e : Entry) (n : ℕ) → e.number ≤ n → tree_at t (h ++ e ∷ []) n ≡ tree_after (tree_at t h n) e
tree_at_after t h e n l =
    let p : Entry → Bool = λ x. nat_le x.number n in
    ap (fold tree_after t) (filter-append p h (e ∷ []) ∙ ap (λ b. filter p h ++ cond b (e ∷ []) []) (at_most e.number n l))
    ∙ fold-append tree_after t (filter p h) (e ∷ [])

-- the tree at a number that no entry passes is the last one
pub tree_at_end : (t : Tree) (h : List Entry) (n : ℕ) → ((i : ℕ) (x : Entry) → slice_get h i ≡ Some x → x.number ≤ n) → tree_at t h n ≡ fold tree_after t h
tree_at_end t h n below = ap (fold tree_after t) (filter_all (λ x. nat_le x.number n) h (λ i x e. at_most x.number n (below i x e)))

-- no number passes the last one
pub below_end : (t : Tree) (base : ℕ) (h : List Entry) (n : ℕ) → Legal t base h → base + length h ≤ n → (i : ℕ) (x : Entry) → slice_get h i ≡ Some x → x.number ≤ n
below_end t base h n k l i x e = omega (arith, k.numbered i x e, slice_get_within h i x e)

-- one commit more, of a client or of upkeep
pub legal_next : (t : Tree) (base : ℕ) (h : List Entry) (e : Entry) → Legal t base h → e.number ≡ base + length h + 1 → e.settled ≡ 0 → (e.who ≡ 0 → e.steps ≡ [])
    → IsOk (do_all (tree_at t h (base + length h)) e.steps) → Legal t base (h ++ e ∷ [])
legal_next t base h e k number settled upkeep ok = record {
  numbered = λ i x got. elim (got_split h e i x got) [
    | inl old ↦ k.numbered i x old
    | inr new ↦ subst (λ (y : Entry). y.number ≡ base + i + 1) new.1 (omega (arith, number, new.0))
  ];
  done = λ i x got. elim (got_split h e i x got) [
    | inl old ↦ let within : i < length h = slice_get_within h i x old in
        subst (λ (u : Tree). IsOk (do_all u x.steps)) (sym (tree_at_before t h e (base + i) (omega (arith, number, within)))) (k.done i x old)
    | inr new ↦ subst (λ (y : Entry). IsOk (do_all (tree_at t (h ++ e ∷ []) (base + i)) y.steps)) new.1
        (subst (λ (j : ℕ). IsOk (do_all (tree_at t (h ++ e ∷ []) (base + j)) e.steps)) (sym new.0)
        (subst (λ (u : Tree). IsOk (do_all u e.steps)) (sym (tree_at_before t h e (base + length h) (omega (arith, number)))) ok))
  ];
  upkeep = λ i x got zero_who. elim (got_split h e i x got) [
    | inl old ↦ k.upkeep i x old zero_who
    | inr new ↦ ap (λ (y : Entry). y.steps) (sym new.1) ∙ upkeep (ap (λ (y : Entry). y.who) new.1 ∙ zero_who)
  ];
  settles = λ i j x y before gotx goty later. elim (got_split h e j y goty) [
    | inl old ↦ elim (got_split h e i x gotx) [
      | inl older ↦ k.settles i j x y before older old later
      | inr newer ↦ absurd (omega (arith, before, newer.0, slice_get_within h j y old))
    ]
    | inr new ↦ absurd (omega (arith, settled, ap (λ (z : Entry). z.settled) new.1, later))
  ];
}

-- one commit more of a client
pub legal_more : (t : Tree) (base : ℕ) (h : List Entry) (e : Entry) → Legal t base h → e.number ≡ base + length h + 1 → e.settled ≡ 0 → 0 < e.who
    → IsOk (do_all (tree_at t h (base + length h)) e.steps) → Legal t base (h ++ e ∷ [])
legal_more t base h e k number settled who ok = legal_next t base h e k number settled (λ zero_who. absurd (omega (arith, who, zero_who))) ok

pub legal_none : (t : Tree) (base : ℕ) → Legal t base []
legal_none t base = record {
  numbered = λ i x e. cc;
  done = λ i x e. absurd (cc e);
  upkeep = λ i x e z. cc;
  settles = λ i j x y l e f s. absurd (cc e);
}

-- the tree after one commit more
pub tree_next : (t : Tree) (base : ℕ) (h : List Entry) (e : Entry) → Legal t base h → e.number ≡ base + length h + 1
    → tree_at t (h ++ e ∷ []) (base + length (h ++ e ∷ [])) ≡ tree_after (tree_at t h (base + length h)) e
tree_next t base h e k number =
    let n : ℕ = base + length (h ++ e ∷ []) in
    let long : n ≡ base + length h + 1 = omega (arith, length-append h (e ∷ [])) in
    tree_at_after t h e n (omega (arith, number, long))
    ∙ ap (λ (u : Tree). tree_after u e) (tree_at_end t h n (below_end t base h n k (omega (arith, long))) ∙ sym (tree_at_end t h (base + length h) (below_end t base h (base + length h) k (omega arith))))

-- a step that is done alone
pub one_step : (tree new : Tree) (step : Step) (a : Answer) → do_step tree step ≡ (Ok a, new) → do_all tree (step ∷ []) ≡ Ok new
one_step tree new step a e = ap (λ (p : Result Answer Refusal × Tree). go_on 1 p.0 (Ok p.1)) e
