-- What a call does to the bytes that a source has left and to those that a sink has taken. An
-- object that tells them keeps telling, and one that does not never does.
use Rattle.std.specs.Prelude.{◌≡◌, ℕ, ◌≤◌, List, Option, length, take}
use Rattle.std.specs.Io.KnownBytes.{prepend_known, append_known}

-- The source had these bytes left, and then what it has left now.
abbrev pub Gives : Option (List ℕ) → Option (List ℕ) → List ℕ → Type 0
Gives before now bytes = before ≡ prepend_known bytes now

-- The source gave this many bytes.
abbrev pub GivesCount : Option (List ℕ) → Option (List ℕ) → ℕ → Type 0
GivesCount before now n = (bytes : List ℕ) × Gives before now bytes × (length bytes ≡ n)

-- The source gave at most this many bytes.
abbrev pub GivesAtMost : Option (List ℕ) → Option (List ℕ) → ℕ → Type 0
GivesAtMost before now most = (n : ℕ) × (n ≤ most) × GivesCount before now n

-- The sink has what it had, and then these bytes.
abbrev pub TakesAll : Option (List ℕ) → Option (List ℕ) → List ℕ → Type 0
TakesAll before now bytes = now ≡ append_known before bytes

-- The sink has what it had, and then the first of these bytes, which may be none.
abbrev pub TakesFront : Option (List ℕ) → Option (List ℕ) → List ℕ → Type 0
TakesFront before now bytes = (n : ℕ) × TakesAll before now (take n bytes)
