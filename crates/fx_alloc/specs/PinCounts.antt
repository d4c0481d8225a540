-- How many pins each layer set has.
use Rattle.std.specs.Prelude.{◌≡◌, ◌≢◌, ℕ, ◌+◌, ◌-◌, ◌<◌, true, List, Option, IfSome, unwrap_or}
use Rattle.slab.specs.Slab.{Slab, get, ContainsKey}
use Rattle.fx_alloc.specs.declared.pins.Kept.{Kept}
use Rattle.fx_alloc.specs.Pins.{PinTable, pins_of, set_has, KeepsSet}

-- A layer set stands only as long as it has pins.
pub record IsSoundTable (t : PinTable) : Type 0 where
  pub owned : (set b : ℕ) → set_has t.kept set b ≡ true → 0 < pins_of t.pins set
  pub present : IfSome t.present (λ set. 0 < pins_of t.pins set)

abbrev pub pins_counted : Slab ℕ → ℕ → ℕ
pins_counted counts set = unwrap_or (get counts set) 0

pub record ArePins (pins : List (Option ℕ)) (counts : Slab ℕ) (kept : List Kept)
    (present : Option ℕ) : Type 0 where
  pub counted : (set : ℕ) → pins_counted counts set ≡ pins_of pins set
  pub owned : (set b : ℕ) → set_has kept set b ≡ true → 0 < pins_of pins set
  pub now : IfSome present (λ set. 0 < pins_of pins set)

-- the set counts one more
pub record CountsUp (old new : Slab ℕ) (set : ℕ) : Type 0 where
  pub changed : pins_counted new set ≡ pins_counted old set + 1
  pub others : (other : ℕ) → other ≢ set → pins_counted new other ≡ pins_counted old other

-- the set counts one less
pub record CountsDown (old new : Slab ℕ) (set : ℕ) : Type 0 where
  pub changed : pins_counted new set ≡ pins_counted old set - 1
  pub others : (other : ℕ) → other ≢ set → pins_counted new other ≡ pins_counted old other

abbrev pub SameCounts : Slab ℕ → Slab ℕ → Type 0
SameCounts old new = (set : ℕ) → pins_counted new set ≡ pins_counted old set

-- The layers in these blocks have the set, which may be counted.
pub record HaveSet (blocks : List ℕ) (present : Option ℕ) (counts after : Slab ℕ)
    (kept later : List Kept) (set : ℕ) : Type 0 where
  pub same : SameCounts counts after
  pub there : ContainsKey after set
  pub keeps : KeepsSet blocks present kept later set (pins_counted counts set)
