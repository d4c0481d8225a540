-- What the ends in memory are to their callers, and what a call of theirs does.
use Rattle.std.specs.Prelude.{◌≡◌, ◌<◌, ◌≤◌, ℕ, List, [], ◌++◌, length, take, min, Bool, Contains, if◌then◌else◌}
use Rattle.fx_base.specs.Causes.{risen}

pub record MemorySource : Type 0 where
  -- the bytes that it has not given yet
  pub left : List ℕ
  -- the most bytes that a call gives
  pub piece : ℕ
  -- the numbers of the calls that fail, the first call being 1
  pub fails : List ℕ
  pub calls : ℕ
  pub faults : ℕ

pub record MemorySink : Type 0 where
  -- the bytes that it has taken
  pub text : List ℕ
  -- the most bytes that a call takes
  pub piece : ℕ
  -- the numbers of the calls that fail, the first call being 1
  pub fails : List ℕ
  pub calls : ℕ
  pub faults : ℕ
  -- the calls that found no memory, which are faults too
  pub starved : ℕ

-- A call gave the first bytes that were left, put at the front of `into`: as many as there is room
-- for, are left, and a call gives. None is the end.
pub record GivesPiece (before after : MemorySource) (into : List ℕ) (n : ℕ) : Type 0 where
  pub count : n ≡ min (min (length into) (length before.left)) before.piece
  pub within : n ≤ length into
  pub gives : before.left ≡ take n into ++ after.left
  pub ended : n ≡ 0 → after.left ≡ []

-- A call took the first bytes of a piece, as many as a call takes: at least one of a piece that has
-- any.
pub record TakesPiece (before after : MemorySink) (piece : List ℕ) (n : ℕ) : Type 0 where
  pub count : n ≡ min (length piece) before.piece
  pub within : n ≤ length piece
  pub moves : 0 < length piece → 0 < n
  pub takes : after.text ≡ before.text ++ take n piece

-- A call that is not one of those that fail found no memory where it failed, and only there.
pub record CountsStarved (before after : MemorySink) (good : Bool) : Type 0 where
  pub listed : Contains before.fails after.calls → after.starved ≡ before.starved
  pub unlisted : ¬ (Contains before.fails after.calls) →
      after.starved ≡ (if good then before.starved else risen before.starved)
