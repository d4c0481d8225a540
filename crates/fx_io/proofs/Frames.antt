-- Frames over calls of a source and of a sink in a row. The names have no hyphens, so that a function
-- names the ones that it needs by `#[tactic(auto, using(..))]`.
use Rattle.std.proofs.Common.{ℕ, ◌+◌, List, [], ◌++◌, Bool, true, false, length, arith, sym, subst, take}
use Rattle.std.specs.Prelude.{Option}
use Rattle.std.proofs.Math.Seq.{take-append-add}
use Rattle.fx_base.proofs.Faults.{faults_same, faults_then}
use Rattle.fx_io.specs.Told.{TakesAll}
use Rattle.fx_io.specs.Seen.{SourceSeen, SinkSeen, SourceGoesOn, SinkGoesOn, TakesUnless, HasTaken}
use Rattle.fx_io.proofs.Pieces.{gives_none, gives_more, takes_none, takes_more}

pub source_same : (a : SourceSeen) → SourceGoesOn a a
source_same a = record { bytes = []; gives = gives_none a.left; faults = omega arith }

pub source_then : (a b c : SourceSeen) → SourceGoesOn a b → SourceGoesOn b c → SourceGoesOn a c
source_then a b c x y = record {
  bytes = x.bytes ++ y.bytes;
  gives = gives_more a.left b.left c.left x.bytes y.bytes x.gives y.gives;
  faults = omega (arith, x.faults, y.faults);
}

pub sink_same : (a : SinkSeen) → SinkGoesOn a a
sink_same a = record { bytes = []; takes = takes_none a.text; faults = omega arith }

pub sink_then : (a b c : SinkSeen) → SinkGoesOn a b → SinkGoesOn b c → SinkGoesOn a c
sink_then a b c x y = record {
  bytes = x.bytes ++ y.bytes;
  takes = takes_more a.text b.text c.text x.bytes y.bytes x.takes y.takes;
  faults = omega (arith, x.faults, y.faults);
}

-- A text written after another.
pub taken_none : (a : SinkSeen) → HasTaken a a [] true
taken_none a = record { taken = takes_none a.text; faults = faults_same a.faults }

takes_then : (good : Bool) (a b c : Option (List ℕ)) (x y : List ℕ) → TakesAll a b x → TakesUnless good b c y → TakesUnless good a c (x ++ y)
takes_then true a b c x y first last = takes_more a b c x y first last
takes_then false a b c x y first (n, last) =
    (length x + n, subst (TakesAll a c) (sym (take-append-add x y n)) (takes_more a b c x (take n y) first last))

pub taken_then : (a b c : SinkSeen) (x y : List ℕ) (good : Bool) → HasTaken a b x true → HasTaken b c y good → HasTaken a c (x ++ y) good
taken_then a b c x y good first last = record {
  taken = takes_then good a.text b.text c.text x y first.taken last.taken;
  faults = faults_then good a.faults b.faults c.faults first.faults last.faults;
}

-- What was written, whole or not, goes on.
taken_bytes : (good : Bool) (a b : Option (List ℕ)) (text : List ℕ) → TakesUnless good a b text → (bytes : List ℕ) × TakesAll a b bytes
taken_bytes true a b text taken = (text, taken)
taken_bytes false a b text (n, taken) = (take n text, taken)

pub taken_goes : (a b : SinkSeen) (text : List ℕ) (good : Bool) → HasTaken a b text good → SinkGoesOn a b
taken_goes a b text good x =
    let some : (bytes : List ℕ) × TakesAll a.text b.text bytes = taken_bytes good a.text b.text text x.taken in
    record { bytes = some.0; takes = some.1; faults = x.faults.grows }
