-- Keys are ordered by where they begin, and then by where they end.
use Rattle.std.proofs.Common.{◌≡◌, true, false, refl}
use Rattle.std.specs.Cmp.Lexicographic.{slice_cmp}
use Rattle.std.specs.Ordering.{nat_cmp, ordering_then, is_ne}
use Rattle.std.specs.declared.cmp.Ordering.{Ordering}
use Rattle.std.specs.declared.cmp.Ordering.TheVariants.{Less, Equal, Greater}
use Rattle.fx_item.specs.Item.{PlainKey, ObjectKey, AttributeKey, ExtentKey, ChildKey, GraveKey, AllocationKey}
use Rattle.fx_item.specs.Order.{key_cmp}
use Rattle.fx_item.specs.Place.{place_cmp, begins, ends}

-- ---- comparisons one after another

twice : (r : Ordering) → ordering_then r r ≡ r
twice Less = refl
twice Equal = refl
twice Greater = refl

-- two keys of one kind and name
named : (x y n : Ordering) → ordering_then (ordering_then x (ordering_then y (ordering_then n Equal)))
    (ordering_then x (ordering_then y (ordering_then n Equal))) ≡ ordering_then x (ordering_then y n)
named Less y n = refl
named Greater y n = refl
named Equal Less n = refl
named Equal Greater n = refl
named Equal Equal Less = refl
named Equal Equal Greater = refl
named Equal Equal Equal = refl

-- two ranges of one kind
ranged : (x y a b : Ordering) → ordering_then (ordering_then x (ordering_then y (ordering_then a Equal)))
    (ordering_then x (ordering_then y (ordering_then b Equal))) ≡ ordering_then x (ordering_then y (ordering_then a (ordering_then b Equal)))
ranged Less y a b = refl
ranged Greater y a b = refl
ranged Equal Less a b = refl
ranged Equal Greater a b = refl
ranged Equal Equal Less b = refl
ranged Equal Equal Greater b = refl
ranged Equal Equal Equal b = refl

-- the first comparison alone, or the second where it is Equal
pub first_tells : (r e k : Ordering) → ordering_then r e ≡ k → is_ne r ≡ true → r ≡ k
first_tells Less e k h t = h
first_tells Greater e k h t = h
first_tells Equal e k h t = absurd cc

pub second_tells : (r e k : Ordering) → ordering_then r e ≡ k → is_ne r ≡ false → e ≡ k
second_tells Less e k h t = absurd cc
second_tells Greater e k h t = absurd cc
second_tells Equal e k h t = h

-- ---- keys

pub by_places : (j k : PlainKey) → ordering_then (place_cmp (begins j) (begins k)) (place_cmp (ends j) (ends k)) ≡ key_cmp j k
by_places (ObjectKey s i) (ObjectKey t j) = named (nat_cmp s t) (nat_cmp i j) Equal
by_places (ObjectKey s i) (AttributeKey t j y) = twice (ordering_then (nat_cmp s t) (ordering_then (nat_cmp i j) Less))
by_places (ObjectKey s i) (ExtentKey t j c d) = twice (ordering_then (nat_cmp s t) (ordering_then (nat_cmp i j) Less))
by_places (ObjectKey s i) (ChildKey t j y) = twice (ordering_then (nat_cmp s t) (ordering_then (nat_cmp i j) Less))
by_places (ObjectKey s i) (GraveKey t j) = twice (ordering_then (nat_cmp s t) (ordering_then (nat_cmp i j) Less))
by_places (ObjectKey s i) (AllocationKey c d) = refl
by_places (AttributeKey s i x) (ObjectKey t j) = twice (ordering_then (nat_cmp s t) (ordering_then (nat_cmp i j) Greater))
by_places (AttributeKey s i x) (AttributeKey t j y) = named (nat_cmp s t) (nat_cmp i j) (slice_cmp nat_cmp x y)
by_places (AttributeKey s i x) (ExtentKey t j c d) = twice (ordering_then (nat_cmp s t) (ordering_then (nat_cmp i j) Less))
by_places (AttributeKey s i x) (ChildKey t j y) = twice (ordering_then (nat_cmp s t) (ordering_then (nat_cmp i j) Less))
by_places (AttributeKey s i x) (GraveKey t j) = twice (ordering_then (nat_cmp s t) (ordering_then (nat_cmp i j) Less))
by_places (AttributeKey s i x) (AllocationKey c d) = refl
by_places (ExtentKey s i a b) (ObjectKey t j) = twice (ordering_then (nat_cmp s t) (ordering_then (nat_cmp i j) Greater))
by_places (ExtentKey s i a b) (AttributeKey t j y) = twice (ordering_then (nat_cmp s t) (ordering_then (nat_cmp i j) Greater))
by_places (ExtentKey s i a b) (ExtentKey t j c d) = ranged (nat_cmp s t) (nat_cmp i j) (nat_cmp a c) (nat_cmp b d)
by_places (ExtentKey s i a b) (ChildKey t j y) = twice (ordering_then (nat_cmp s t) (ordering_then (nat_cmp i j) Less))
by_places (ExtentKey s i a b) (GraveKey t j) = twice (ordering_then (nat_cmp s t) (ordering_then (nat_cmp i j) Less))
by_places (ExtentKey s i a b) (AllocationKey c d) = refl
by_places (ChildKey s i x) (ObjectKey t j) = twice (ordering_then (nat_cmp s t) (ordering_then (nat_cmp i j) Greater))
by_places (ChildKey s i x) (AttributeKey t j y) = twice (ordering_then (nat_cmp s t) (ordering_then (nat_cmp i j) Greater))
by_places (ChildKey s i x) (ExtentKey t j c d) = twice (ordering_then (nat_cmp s t) (ordering_then (nat_cmp i j) Greater))
by_places (ChildKey s i x) (ChildKey t j y) = named (nat_cmp s t) (nat_cmp i j) (slice_cmp nat_cmp x y)
by_places (ChildKey s i x) (GraveKey t j) = twice (ordering_then (nat_cmp s t) (ordering_then (nat_cmp i j) Less))
by_places (ChildKey s i x) (AllocationKey c d) = refl
by_places (GraveKey s i) (ObjectKey t j) = twice (ordering_then (nat_cmp s t) (ordering_then (nat_cmp i j) Greater))
by_places (GraveKey s i) (AttributeKey t j y) = twice (ordering_then (nat_cmp s t) (ordering_then (nat_cmp i j) Greater))
by_places (GraveKey s i) (ExtentKey t j c d) = twice (ordering_then (nat_cmp s t) (ordering_then (nat_cmp i j) Greater))
by_places (GraveKey s i) (ChildKey t j y) = twice (ordering_then (nat_cmp s t) (ordering_then (nat_cmp i j) Greater))
by_places (GraveKey s i) (GraveKey t j) = named (nat_cmp s t) (nat_cmp i j) Equal
by_places (GraveKey s i) (AllocationKey c d) = refl
by_places (AllocationKey a b) (ObjectKey t j) = refl
by_places (AllocationKey a b) (AttributeKey t j y) = refl
by_places (AllocationKey a b) (ExtentKey t j c d) = refl
by_places (AllocationKey a b) (ChildKey t j y) = refl
by_places (AllocationKey a b) (GraveKey t j) = refl
by_places (AllocationKey a b) (AllocationKey c d) = ranged Equal Equal (nat_cmp a c) (nat_cmp b d)
