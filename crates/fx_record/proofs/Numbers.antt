-- Numbers that follow each other.
use Rattle.std.proofs.Common.{◌≡◌, ℕ, suc, ◌+◌, ◌-◌, ◌≤◌, Bool, true, false, cond, leb, List, [], ◌∷◌, ◌++◌, take, refl, sym, ap, subst, ◌∙◌, arith, inl, inr}
use Rattle.std.specs.Prelude.{IsTrue, filter}
use Rattle.std.proofs.lemmas.Bool.{and_parts, and_from, cases_lt, le-leb, lt-leb}
use Rattle.fx_item.specs.Item.{PlainItem}
use Rattle.fx_record.specs.Record.{PlainRecord}
use Rattle.fx_record.specs.Txns.{number_of, may_come, in_order, last_number}
use Rattle.fx_record.specs.Progress.{IsNumbered}

pub last_number-append : (last : ℕ) (xs ys : List PlainRecord) → last_number last (xs ++ ys) ≡ last_number (last_number last xs) ys
last_number-append last [] ys = refl
last_number-append last (x ∷ xs) ys = last_number-append (number_of x) xs ys

pub in_order_join : (base last : ℕ) (xs ys : List PlainRecord) → IsTrue (in_order base last xs) → IsTrue (in_order base (last_number last xs) ys) → IsTrue (in_order base last (xs ++ ys))
in_order_join base last [] ys h k = k
in_order_join base last (x ∷ xs) ys h k =
    let p = and_parts (may_come base last x) (in_order base (number_of x) xs) h in
    and_from (may_come base last x) (in_order base (number_of x) (xs ++ ys)) p.0 (in_order_join base (number_of x) xs ys p.1 k)

pub in_order_rest : (base last : ℕ) (xs ys : List PlainRecord) → IsTrue (in_order base last (xs ++ ys)) → IsTrue (in_order base (last_number last xs) ys)
in_order_rest base last [] ys h = h
in_order_rest base last (x ∷ xs) ys h =
    in_order_rest base (number_of x) xs ys (and_parts (may_come base last x) (in_order base (number_of x) (xs ++ ys)) h).1

abbrev Txn : Type 0
Txn = ℕ × List PlainItem

pub numbered_push : (base last number : ℕ) (items : List PlainItem) (txns : List Txn) → number ≡ last + 1 → IsNumbered base txns last → IsNumbered base (txns ++ (number, items) ∷ []) number
numbered_push base last number items [] e h = (omega arith, refl)
numbered_push base last number items (t ∷ txns) e h = (h.0, numbered_push t.0 last number items txns e h.1)

none_kept : (base k last : ℕ) (txns : List Txn) → IsNumbered base txns last → k ≤ base → filter (λ t. leb t.0 k) txns ≡ []
none_kept base k last [] h le = refl
none_kept base k last (t ∷ txns) h le =
    let past : leb t.0 k ≡ false = lt-leb t.0 k (omega arith) in
    ap (λ (b : Bool). cond b (t ∷ filter (λ t. leb t.0 k) txns) (filter (λ t. leb t.0 k) txns)) past
    ∙ none_kept t.0 k last txns h.1 (omega arith)

-- What is kept of numbers that follow each other is known by its count.
pub kept : (base k last : ℕ) (txns : List Txn) → IsNumbered base txns last → base ≤ k → k ≤ last →
    (filter (λ t. leb t.0 k) txns ≡ take (k - base) txns) × IsNumbered base (filter (λ t. leb t.0 k) txns) k
kept base k last [] h least most =
    let none : k - base ≡ 0 = omega arith in
    (ap (λ (n : ℕ). take n (let no : List Txn = [] in no)) (sym none), omega arith)
kept base k last (t ∷ txns) h least most =
    elim (cases_lt k t.0) [
      | inl lt ↦ (
          let none : filter (λ t. leb t.0 k) (t ∷ txns) ≡ [] = none_kept base k last (t ∷ txns) h (omega arith) in
          let zero_left : k - base ≡ 0 = omega arith in (
            none ∙ ap (λ (n : ℕ). take n (t ∷ txns)) (sym zero_left),
            subst (λ (w : List Txn). IsNumbered base w k) (sym none) (omega arith),
          ))
      | inr le ↦ (
          let within : leb t.0 k ≡ true = le-leb t.0 k le in
          let more = kept t.0 k last txns h.1 le most in
          let step : k - base ≡ suc (k - t.0) = omega arith in
          let one : filter (λ t. leb t.0 k) (t ∷ txns) ≡ t ∷ filter (λ t. leb t.0 k) txns =
          ap (λ (b : Bool). cond b (t ∷ filter (λ t. leb t.0 k) txns) (filter (λ t. leb t.0 k) txns)) within in (
            one ∙ ap (λ (w : List Txn). t ∷ w) more.0 ∙ ap (λ (n : ℕ). take n (t ∷ txns)) (sym step),
            subst (λ (w : List Txn). IsNumbered base w k) (sym one) (h.0, more.1),
          ))
    ]
