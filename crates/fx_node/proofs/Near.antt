-- A key that reaches over a place, and begins no later than another place of the same node and kind.
use Rattle.std.specs.Prelude.{not}
use Rattle.std.proofs.Common.{◌≡◌, Bool, true, false, inl, inr, refl, sym}
use Rattle.fx_item.specs.Item.{PlainKey, ObjectKey, AttributeKey, ExtentKey, ChildKey, GraveKey, AllocationKey}
use Rattle.fx_item.specs.Place.{Place, Upto, Below, begins, ends}
use Rattle.fx_item.proofs.Between.{SameSpace, space_between}
use Rattle.fx_item.proofs.PlaceOrder.{below_upto, either}

turned : {a b : Place} → SameSpace a b → SameSpace b a
turned s = record { tree = sym s.tree; store = sym s.store; id = sym s.id; kind = sym s.kind }

key_space : (k : PlainKey) → SameSpace (begins k) (ends k)
key_space (ObjectKey s i) = record { tree = refl; store = refl; id = refl; kind = refl }
key_space (AttributeKey s i name) = record { tree = refl; store = refl; id = refl; kind = refl }
key_space (ExtentKey s i start stop) = record { tree = refl; store = refl; id = refl; kind = refl }
key_space (ChildKey s i name) = record { tree = refl; store = refl; id = refl; kind = refl }
key_space (GraveKey s i) = record { tree = refl; store = refl; id = refl; kind = refl }
key_space (AllocationKey start stop) = record { tree = refl; store = refl; id = refl; kind = refl }

-- it is of that node and kind
pub near : (k : PlainKey) (low high : Place) → low.tree ≡ high.tree → low.store ≡ high.store → low.id ≡ high.id → low.kind ≡ high.kind
    → Below low (ends k) → Upto (begins k) high → SameSpace (begins k) low
near k low high t s i d reaches up = elim (either low (begins k)) [
  | inl l ↦ turned (space_between low (begins k) high (record { tree = t; store = s; id = i; kind = d }) l up)
  | inr l ↦ space_between (begins k) low (ends k) (key_space k) (below_upto l) (below_upto reaches)
]

-- what a test turned tells
pub told_by : (a b : Bool) → a ≡ not b → b ≡ not a
told_by true true e = cc
told_by true false e = refl
told_by false true e = refl
told_by false false e = cc
