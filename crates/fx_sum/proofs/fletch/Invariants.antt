use Rattle.std.proofs.Common.{◌≡◌, length}
use Rattle.std.specs.Prelude.{fold}
use Rattle.fx_sum.specs.Checksum.{Sums, add_word, sums_of, words}
use Rattle.fx_sum.proofs.fletch.Given as goal

abbrev pub invariant-loop-word : goal.invariant-loop-word
invariant-loop-word l =
    let so_far : Sums = record { low = l.low; high = l.high } in
    fold add_word so_far (words l.rest) ≡ fold add_word (sums_of l.fn.start) (words l.fn.bytes)

abbrev pub decreases-loop-word : goal.decreases-loop-word
decreases-loop-word l = length l.rest
