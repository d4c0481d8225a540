-- From what an end in memory says of a call to what its trait says.
use Rattle.std.proofs.Common.{◌≡◌, ℕ, ◌≤◌, List, ap, arith, if◌then◌else◌, take, length, ◌<◌}
use Rattle.std.specs.Prelude.{Some, Result, Ok, Err, IfOk, OnErr, is_ok}
use Rattle.fx_base.specs.Causes.{risen, CountsFault}
use Rattle.std.specs.Io.KnownBytes.{IsAtEnd}
use Rattle.fx_io.specs.Told.{Gives, TakesAll}
use Rattle.fx_io.specs.Memory.{MemorySource, MemorySink, GivesPiece, TakesPiece}

module _ {E : Type 0} (before now : MemorySource) (into : List ℕ) where
  pub told_gives : (r : Result ℕ E) → IfOk r (GivesPiece before now into) → IfOk r (λ n. Gives (Some before.left) (Some now.left) (take n into))
  told_gives (Ok n) h = ap Some h.gives
  told_gives (Err f) h = tt

  pub gives_within : (r : Result ℕ E) → IfOk r (GivesPiece before now into) → IfOk r (λ n. n ≤ length into)
  gives_within (Ok n) h = h.within
  gives_within (Err f) h = tt

  pub gives_end : (r : Result ℕ E) → IfOk r (GivesPiece before now into) → IfOk r (λ n. n ≡ 0 → IsAtEnd (Some now.left))
  gives_end (Ok n) h = h.ended
  gives_end (Err f) h = tt

module _ {E : Type 0} (before now : MemorySink) (piece : List ℕ) where
  pub told_takes : (r : Result ℕ E) → IfOk r (TakesPiece before now piece) → IfOk r (λ n. TakesAll (Some before.text) (Some now.text) (take n piece))
  told_takes (Ok n) h = ap Some h.takes
  told_takes (Err f) h = tt

  pub takes_within : (r : Result ℕ E) → IfOk r (TakesPiece before now piece) → IfOk r (λ n. n ≤ length piece)
  takes_within (Ok n) h = h.within
  takes_within (Err f) h = tt

  pub takes_moves : (r : Result ℕ E) → IfOk r (TakesPiece before now piece) → 0 < length piece → IfOk r (λ n. 0 < n)
  takes_moves (Ok n) h some = h.moves some
  takes_moves (Err f) h some = tt

pub told_kept : {E : Type 0} (r : Result ℕ E) (before now : List ℕ) → OnErr r (now ≡ before) → OnErr r (Some now ≡ Some before)
told_kept (Ok n) before now e = tt
told_kept (Err f) before now e = ap Some e

pub counted : {E : Type 0} (r : Result ℕ E) (before now : ℕ) → now ≡ (if is_ok r then before else risen before) → before ≤ now → CountsFault (is_ok r) before now
counted (Ok n) before now e grows = record { answer = e; grows = grows }
counted (Err f) before now e grows = record { answer = omega arith; grows = grows }
