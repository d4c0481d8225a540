-- Items in order: one at most speaks of each point.
use Rattle.std.proofs.Common.{◌≡◌, inl, inr, Bool, true, false, cond, List, [], ◌∷◌, ◌&&◌, Option, Some, None, refl, sym, ap, ◌∙◌}
use Rattle.std.specs.Prelude.{All}
use Rattle.std.proofs.lemmas.Bool.{and_parts, cases_Bool}
use Rattle.std.proofs.lemmas.List.Elements.{All-head, All-tail}
use Rattle.fx_item.specs.Item.{PlainItem, IsItem}
use Rattle.fx_item.specs.Order.{is_ascending, may_follow}
use Rattle.fx_item.specs.Overlay.{Point, Entry, at, covers, entry_in, says}
use Rattle.fx_item.specs.Place.{Place, Upto, Below, begins, ends}
use Rattle.fx_item.proofs.Between.{not_empty}
use Rattle.fx_item.proofs.Covered.{covers_lies}
use Rattle.fx_item.proofs.Follow.{follow_holds}
use Rattle.fx_item.proofs.PlaceOrder.{below_then, below_upto, le_upto, not_both, upto_upto}
use Rattle.fx_live.specs.Live.{AreOrdered}

-- each item begins where the one before it ends, or behind it
abbrev pub AreBehind : Place → List PlainItem → Type 0
AreBehind q [] = Unit {0}
AreBehind q (x ∷ xs) = IsItem x × Upto q (begins x.key) × AreBehind (ends x.key) xs

behind_from : (x : PlainItem) (xs : List PlainItem) → All IsItem (x ∷ xs) → is_ascending (x ∷ xs) ≡ true → AreBehind (ends x.key) xs
behind_from x [] each e = tt
behind_from x (y ∷ rest) each e =
    let p = and_parts (may_follow x.key y.key) (is_ascending (y ∷ rest)) e in
    let tail = All-tail IsItem x (y ∷ rest) each in
    let good = All-head IsItem x (y ∷ rest) each in
    let next = All-head IsItem y rest tail in
    (next, le_upto (sym (follow_holds x.key y.key good.key next.key) ∙ p.0), behind_from y rest tail p.1)

-- the rest of a list in order
pub ordered_rest : (x : PlainItem) (xs : List PlainItem) → AreOrdered (x ∷ xs) → IsItem x × AreOrdered xs × AreBehind (ends x.key) xs
ordered_rest x xs o = (All-head IsItem x xs o.each, record { each = All-tail IsItem x xs o.each; ascending = rest xs o.ascending }, behind_from x xs o.each o.ascending)
  where
    rest : (xs : List PlainItem) → is_ascending (x ∷ xs) ≡ true → is_ascending xs ≡ true
    rest [] e = refl
    rest (y ∷ ys) e = (and_parts (may_follow x.key y.key) (is_ascending (y ∷ ys)) e).1

-- items behind a point do not speak of it
behind_silent : (q : Place) (xs : List PlainItem) (p : Point) → AreBehind q xs → Below (at p) q → says xs p ≡ None
behind_silent q [] p b l = refl
behind_silent q (x ∷ xs) p b l = elim (cases_Bool (covers x.key p)) [
  | inl here_is ↦ absurd (not_both l (upto_upto b.1 (covers_lies x.key p here_is).0))
  | inr away ↦
      ap (λ t. cond t (Some (entry_in x.key x.value p)) (says xs p)) away
      ∙ behind_silent (ends x.key) xs p b.2 (below_then (below_then l b.1) (below_upto (not_empty x.key b.0.key)))
]

-- what the first item speaks of, the others do not
pub others_silent : (x : PlainItem) (xs : List PlainItem) (p : Point) → AreOrdered (x ∷ xs) → covers x.key p ≡ true → says xs p ≡ None
others_silent x xs p o e = behind_silent (ends x.key) xs p (ordered_rest x xs o).2 (covers_lies x.key p e).1

-- what a list says, by whether its first item speaks of the point
pub says_first : (x : PlainItem) (xs : List PlainItem) (p : Point) → covers x.key p ≡ true → says (x ∷ xs) p ≡ Some (entry_in x.key x.value p)
says_first x xs p e = ap (λ t. cond t (Some (entry_in x.key x.value p)) (says xs p)) e

pub says_rest : (x : PlainItem) (xs : List PlainItem) (p : Point) → covers x.key p ≡ false → says (x ∷ xs) p ≡ says xs p
says_rest x xs p e = ap (λ t. cond t (Some (entry_in x.key x.value p)) (says xs p)) e

-- what a later item says, the list says
pub says_later : (x : PlainItem) (xs : List PlainItem) (p : Point) (o : Option Entry) → AreOrdered (x ∷ xs) → says xs p ≡ Some o → says (x ∷ xs) p ≡ Some o
says_later x xs p o a e = elim (cases_Bool (covers x.key p)) [
  | inl here_is ↦ absurd (let q : None ≡ Some o = sym (others_silent x xs p a here_is) ∙ e in cc)
  | inr away ↦ says_rest x xs p away ∙ e
]
