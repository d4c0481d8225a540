-- Items that are put one behind the other, in order, none of which could be one with the next.
use Rattle.std.proofs.Common.{◌≡◌, ◌&&◌, Bool, true, false, cond, List, [], ◌∷◌, ◌++◌, Option, Some, None, refl}
use Rattle.std.specs.Prelude.{not, All}
use Rattle.std.proofs.lemmas.List.Elements.{All-nil, All-cons}
use Rattle.fx_item.specs.Item.{PlainItem, IsItem}
use Rattle.fx_item.specs.Order.{is_ascending, may_follow}
use Rattle.fx_item.specs.Overlay.{Point, covers, entry_in, or_older, says}
use Rattle.fx_extent.specs.Staged.{are_joined}

module _ (one : PlainItem → PlainItem → Bool) where
  -- an item may stand behind the last one
  abbrev pub Follows : Option PlainItem → PlainItem → Type 0
  Follows None x = Unit {0}
  Follows (Some y) x = (may_follow y.key x.key ≡ true) × (one y x ≡ false)

  abbrev pub GoOn : Option PlainItem → List PlainItem → Type 0
  GoOn last [] = Unit {0}
  GoOn last (x ∷ xs) = IsItem x × Follows last x × GoOn (Some x) xs

  pub chain_each : (last : Option PlainItem) (xs : List PlainItem) → GoOn last xs → All IsItem xs
  chain_each last [] c = All-nil IsItem
  chain_each last (x ∷ xs) c = All-cons IsItem x xs c.0 (chain_each (Some x) xs c.2)

  pub chain_ascending : (last : Option PlainItem) (xs : List PlainItem) → GoOn last xs → is_ascending xs ≡ true
  chain_ascending last [] c = refl
  chain_ascending last (x ∷ []) c = refl
  chain_ascending last (x ∷ y ∷ rest) c = λ i. c.2.1.0 i && chain_ascending (Some x) (y ∷ rest) c.2 i

  pub chain_joined : (last : Option PlainItem) (xs : List PlainItem) → GoOn last xs → are_joined one xs ≡ true
  chain_joined last [] c = refl
  chain_joined last (x ∷ []) c = refl
  chain_joined last (x ∷ y ∷ rest) c = λ i. not (c.2.1.1 i) && chain_joined (Some x) (y ∷ rest) c.2 i

-- what lists say one behind the other
pub says_append : (xs ys : List PlainItem) (p : Point) → says (xs ++ ys) p ≡ or_older (says xs p) (says ys p)
says_append [] ys p = refl
says_append (x ∷ xs) ys p = by (covers x.key p) (says_append xs ys p)
  where
    by : (t : Bool) → says (xs ++ ys) p ≡ or_older (says xs p) (says ys p)
        → cond t (Some (entry_in x.key x.value p)) (says (xs ++ ys) p) ≡ or_older (cond t (Some (entry_in x.key x.value p)) (says xs p)) (says ys p)
    by true e = refl
    by false e = e
