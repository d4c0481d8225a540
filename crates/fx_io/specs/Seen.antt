-- What is seen of a source and of a sink, and one word for what calls do to them.
use Rattle.std.specs.Prelude.{ℕ, ◌≤◌, Bool, true, false, List, Option, length}
use Rattle.std.specs.Io.KnownBytes.{IsAtEnd}
use Rattle.fx_base.specs.Causes.{CountsFault}
use Rattle.fx_io.specs.Told.{Gives, TakesAll, TakesFront}

-- A source as its callers see it.
pub record SourceSeen : Type 0 where
  -- the bytes that are left, where the source tells them
  pub left : Option (List ℕ)
  -- the calls that failed; the count stands still at its end
  pub faults : ℕ

-- A sink as its callers see it.
pub record SinkSeen : Type 0 where
  -- the bytes that the sink has taken, where it tells them
  pub text : Option (List ℕ)
  -- the calls that failed; the count stands still at its end
  pub faults : ℕ

-- What any calls of a source do: it has given some bytes, which may be none, and its count of
-- faults never falls.
pub record SourceGoesOn (before after : SourceSeen) : Type 0 where
  pub bytes : List ℕ
  pub gives : Gives before.left after.left bytes
  pub faults : before.faults ≤ after.faults

-- What any calls of a sink do: it has what it had and more, which may be nothing, and its count of
-- faults never falls.
pub record SinkGoesOn (before after : SinkSeen) : Type 0 where
  pub bytes : List ℕ
  pub takes : TakesAll before.text after.text bytes
  pub faults : before.faults ≤ after.faults

-- The source was read to its end, and gave these bytes, no more than the limit.
pub record GivesWhole (before after : SourceSeen) (limit : ℕ) (text : List ℕ) : Type 0 where
  pub gives : Gives before.left after.left text
  pub ended : IsAtEnd after.left
  pub within : length text ≤ limit

-- The sink took all of a text, or a front of it where a call failed.
abbrev pub TakesUnless : Bool → Option (List ℕ) → Option (List ℕ) → List ℕ → Type 0
TakesUnless true before now text = TakesAll before now text
TakesUnless false before now text = TakesFront before now text

-- A text was written: all of it, or a front of it where a call failed, which is counted.
pub record HasTaken (before after : SinkSeen) (text : List ℕ) (good : Bool) : Type 0 where
  pub taken : TakesUnless good before.text after.text text
  pub faults : CountsFault good before.faults after.faults
