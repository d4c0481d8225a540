-- The line that all points lie on, and what each key covers of it: from where it begins to where
-- it ends.
use Rattle.std.specs.Prelude.{◌≡◌, ℕ, Bool, false, List, []}
use Rattle.std.specs.Ordering.{nat_cmp, on, then_cmp, is_gt, is_le}
use Rattle.std.specs.Cmp.Lexicographic.{slice_cmp}
use Rattle.std.specs.declared.cmp.Ordering.{Ordering}
use Rattle.std.specs.declared.cmp.Ordering.TheVariants.{Less}
use Rattle.fx_item.specs.Item.{PlainKey, ObjectKey, AttributeKey, ExtentKey, ChildKey, GraveKey, AllocationKey}
use Rattle.fx_item.specs.declared.place.Bound.{Bound}
use Rattle.fx_item.specs.declared.place.Edge.{Edge}
use Rattle.fx_item.specs.declared.place.Edge.TheVariants as edges

-- A place: the parts are compared from left to right. `past` is 1 just behind a point.
pub record Place : Type 0 where
  pub tree : ℕ
  pub store : ℕ
  pub id : ℕ
  pub kind : ℕ
  pub number : ℕ
  pub name : List ℕ
  pub past : ℕ

-- within one node and kind
abbrev pub number_cmp : Place → Place → Ordering
number_cmp = then_cmp (on (λ p. p.number) nat_cmp)
    (then_cmp (on (λ p. p.name) (slice_cmp nat_cmp)) (on (λ p. p.past) nat_cmp))

abbrev pub place_cmp : Place → Place → Ordering
place_cmp = then_cmp (on (λ p. p.tree) nat_cmp) (then_cmp (on (λ p. p.store) nat_cmp)
    (then_cmp (on (λ p. p.id) nat_cmp) (then_cmp (on (λ p. p.kind) nat_cmp) number_cmp)))

-- a lies at b or before it
pub record Upto (a b : Place) : Type 0 where
  pub holds : is_gt (place_cmp a b) ≡ false

-- a lies before b
pub record Below (a b : Place) : Type 0 where
  pub holds : place_cmp a b ≡ Less

-- block n of a file, and of the device
abbrev pub file_place : ℕ → ℕ → ℕ → Place
file_place s i n = record { tree = 0; store = s; id = i; kind = 3; number = n; name = []; past = 0 }

abbrev pub device_place : ℕ → Place
device_place n = record { tree = 1; store = 0; id = 0; kind = 6; number = n; name = []; past = 0 }

-- a key of one point: at it, or just behind it
abbrev pub key_place : ℕ → ℕ → ℕ → List ℕ → ℕ → Place
key_place s i k name past =
    record { tree = 0; store = s; id = i; kind = k; number = 0; name = name; past = past }

-- behind all keys
abbrev pub last_place : Place
last_place = record { tree = 2; store = 0; id = 0; kind = 0; number = 0; name = []; past = 0 }

abbrev pub begins : PlainKey → Place
begins (ObjectKey s i) = key_place s i 1 [] 0
begins (AttributeKey s i name) = key_place s i 2 name 0
begins (ExtentKey s i start stop) = file_place s i start
begins (ChildKey s i name) = key_place s i 4 name 0
begins (GraveKey s i) = key_place s i 5 [] 0
begins (AllocationKey start stop) = device_place start

abbrev pub ends : PlainKey → Place
ends (ObjectKey s i) = key_place s i 1 [] 1
ends (AttributeKey s i name) = key_place s i 2 name 1
ends (ExtentKey s i start stop) = file_place s i stop
ends (ChildKey s i name) = key_place s i 4 name 1
ends (GraveKey s i) = key_place s i 5 [] 1
ends (AllocationKey start stop) = device_place stop

-- a begins no later than b
abbrev pub begins_first : PlainKey → PlainKey → Bool
begins_first a b = is_le (place_cmp (begins a) (begins b))

-- ---- the program's places as plain data

abbrev pub bound_of : Bound → Place
bound_of b = record {
  tree = b.tree;
  store = b.store;
  id = b.id;
  kind = b.kind;
  number = b.number;
  name = b.name.now;
  past = b.past;
}

-- where a key begins, or where it ends
abbrev pub edge_at : Edge → PlainKey → Place
edge_at edges.Begin key = begins key
edge_at edges.End key = ends key
