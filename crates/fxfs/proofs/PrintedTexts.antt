-- Texts that are printed one after another.
use Rattle.std.proofs.Common.{ℕ, ◌≤◌, List, ◌++◌, sym, subst, ◌∙◌, ◌≡◌, length, take, arith, min, true, false}
use Rattle.std.specs.Prelude.{Option}
use Rattle.std.proofs.lemmas.List.{take-append-le, take_min}
use Rattle.fx_io.specs.Told.{TakesAll, TakesFront}
use Rattle.fx_io.specs.Seen.{SinkSeen, HasTaken}
use Rattle.fx_io.proofs.Frames.{taken_then}
use Rattle.fxfs.specs.Outside.{PrintsOrFails}

-- a front of a text is a front of a longer one
front_more : (before now : Option (List ℕ)) (p q : List ℕ) → TakesFront before now p → TakesFront before now (p ++ q)
front_more before now p q (n, e) =
    let k : ℕ = min n (length p) in
    let within : k ≤ length p = omega arith in
    let same : take n p ≡ take k (p ++ q) = sym (take_min n p) ∙ sym (take-append-le k p q within) in
    (k, subst (TakesAll before now) same e)

-- the first of two texts could not be written whole
pub first_fails : (a b : SinkSeen) (p q : List ℕ) → HasTaken a b p false → PrintsOrFails a b (p ++ q)
first_fails a b p q k = (false, record { taken = front_more a.text b.text p q k.taken; faults = k.faults })

-- the first was, and the second was written, whole or not
pub both_printed : (a b c : SinkSeen) (p q : List ℕ) → HasTaken a b p true → PrintsOrFails b c q → PrintsOrFails a c (p ++ q)
both_printed a b c p q first (good, second) = (good, taken_then a b c p q good first second)
