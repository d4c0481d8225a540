-- What a source over a reader is to its callers.
use Rattle.std.specs.Prelude.{ℕ, List, Option}

pub record ReaderSource : Type 0 where
  -- the bytes that the reader has left, where it tells them
  pub left : Option (List ℕ)
  pub faults : ℕ
