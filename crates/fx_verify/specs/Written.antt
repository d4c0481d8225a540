-- The blocks that a transaction writes, as they are gathered.
use Rattle.std.specs.Prelude.{◌≡◌, ℕ, Bool, List, Option, None, Some, if◌then◌else◌}
use Rattle.std.specs.Ordering.{nat_cmp}
use Rattle.std.specs.BTreeMap.{BTreeMap, get}
use Rattle.fx_verify.specs.Kept.{last_stated}

-- what the map states for the block
abbrev pub sum_at : BTreeMap ℕ ℕ → ℕ → Option ℕ
sum_at map = get nat_cmp map

-- both lists state the same for each block, whatever stood before
abbrev pub StatesLike : List (ℕ × ℕ) → List (ℕ × ℕ) → Type 0
StatesLike ps qs = (block : ℕ) (old : Option ℕ) →
    last_stated block qs old ≡ last_stated block ps old

-- what is stated for a block, over what stood before
abbrev pub sum_over : Option ℕ → Option ℕ → Option ℕ
sum_over None old = old
sum_over (Some sum) old = Some sum

-- Some blocks went, with their sums, from those that are stated to the end of those that are written.
pub record MovesTaken (taken : ℕ → Bool) (stated left : ℕ → Option ℕ) (old new : List (ℕ × ℕ))
    : Type 0 where
  pub left_is : (block : ℕ) → left block ≡ (if taken block then None else stated block)
  pub new_is : (block : ℕ) (before : Option ℕ) → last_stated block new before
      ≡ (if taken block then sum_over (stated block) (last_stated block old before)
      else last_stated block old before)
