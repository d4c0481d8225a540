-- Why an object of the outside failed: its count of faults rose.
use Rattle.std.specs.Prelude.{◌≡◌, ℕ, ◌+◌, ◌-◌, ◌^◌, ◌≤◌, min, Bool, true, false}

-- a count that stands still at the end of a `u64`, one higher
abbrev pub risen : ℕ → ℕ
risen count = min (count + 1) (2 ^ 64 - 1)

-- The count rose, or stands at its end. It never falls.
abbrev pub Rose : ℕ → ℕ → Type 0
Rose before now = risen before ≤ now

-- A count of faults over a call that was good, or that failed.
abbrev pub RoseUnless : Bool → ℕ → ℕ → Type 0
RoseUnless true before now = now ≡ before
RoseUnless false before now = Rose before now

-- The count of an object's faults over one call or more, of which the last was good or not and each
-- earlier one was good: it rose exactly where the last failed, and never falls.
pub record CountsFault (good : Bool) (before now : ℕ) : Type 0 where
  pub answer : RoseUnless good before now
  pub grows : before ≤ now
