-- The order of names, which are lists of numbers, and of the keys of a directory's children.
use Rattle.std.proofs.Common.{◌≡◌, ◌⊎◌, ℕ, ◌++◌, List, [], ◌∷◌, false}
use Rattle.std.specs.Prelude.{IsTrue}
use Rattle.std.specs.Cmp.{nat_cmp_total}
use Rattle.std.specs.Cmp.Lexicographic.{slice_cmp, nat_list_cmp_total}
use Rattle.std.specs.FinMap.{nat_cmp-IsAntisymmetric, slice_cmp-IsAntisymmetric}
use Rattle.std.specs.Ordering.{is_le, nat_cmp}
use Rattle.std.specs.declared.cmp.Ordering.{Ordering}
use Rattle.std.specs.declared.cmp.Ordering.TheVariants.{Less, Equal}
use Rattle.fx_base.proofs.TotalOrders as orders
use Rattle.fx_item.specs.Item.{ChildKey}
use Rattle.fx_item.specs.Order.{key_cmp}

abbrev pub cmp : List ℕ → List ℕ → Ordering
cmp = slice_cmp nat_cmp

-- the first is not above the second
abbrev pub IsUpTo : List ℕ → List ℕ → Type 0
IsUpTo x y = IsTrue (is_le (cmp x y))

pub exact : (x y : List ℕ) → cmp x y ≡ Equal → x ≡ y
exact = slice_cmp-IsAntisymmetric nat_cmp-IsAntisymmetric

pub up_to_less : (x y z : List ℕ) → IsUpTo x y → cmp y z ≡ Less → cmp x z ≡ Less
up_to_less = orders.up_to_less nat_list_cmp_total exact

pub less_up_to : (x y z : List ℕ) → cmp x y ≡ Less → IsUpTo y z → cmp x z ≡ Less
less_up_to = orders.less_up_to nat_list_cmp_total exact

pub up_to : (x y : List ℕ) → cmp x y ≡ Less → IsUpTo x y
up_to = orders.up_to nat_list_cmp_total exact

-- one is below the other, or the other up to it
pub below_or_up_to : (x y : List ℕ) → (cmp y x ≡ Less) ⊎ IsUpTo x y
below_or_up_to = orders.below_or_up_to nat_list_cmp_total exact

pub not_below_itself : (x : List ℕ) → cmp x x ≡ Less → ⊥
not_below_itself = orders.not_below_itself nat_list_cmp_total exact

pub up_to_itself : (x : List ℕ) → IsUpTo x x
up_to_itself = orders.up_to_itself nat_list_cmp_total exact

pub up_to_both : (x y : List ℕ) → IsUpTo x y → IsUpTo y x → x ≡ y
up_to_both = orders.up_to_both nat_list_cmp_total exact

pub not_up_to : (x y : List ℕ) → cmp y x ≡ Less → is_le (cmp x y) ≡ false
not_up_to = orders.not_up_to nat_list_cmp_total exact

-- ---- the name just above a name

pub below_next : (x n : List ℕ) → IsUpTo x n → cmp x (n ++ 0 ∷ []) ≡ Less
below_next x n h = up_to_less x n (n ++ 0 ∷ []) h (orders.above_itself n)

pub up_to_from_next : (x n : List ℕ) → cmp x (n ++ 0 ∷ []) ≡ Less → IsUpTo x n
up_to_from_next = orders.up_to_from_next

-- ---- the keys of a node's children

pub children_in_order : (s i : ℕ) (a b : List ℕ) → key_cmp (ChildKey s i a) (ChildKey s i b) ≡ cmp a b
children_in_order s i a b = orders.same_front nat_cmp_total nat_cmp-IsAntisymmetric (0 ∷ s ∷ i ∷ 4 ∷ []) a b
