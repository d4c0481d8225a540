use Rattle.std.proofs.Common.{rules, ℕ, ◌/◌, ◌^◌, ap, ◌∙◌, arith}
use Rattle.std.specs.Prelude.{fold}
use Rattle.fx_sum.specs.Checksum.{Sums, add_word, checksum_of, words}
use Rattle.fx_sum.proofs.Words.{goes_on, is_done, low_half, joined}
use Rattle.fx_sum.proofs.fletch.Goals as goal

pub loop-word-init : goal.loop-word-init
loop-word-init c =
    ap (λ (low : ℕ). let s : Sums = record { low = low; high = c.args.start / 2 ^ 32 } in fold add_word s (words c.args.bytes.now)) (low_half c.args.start)

pub loop-word-preserved : goal.loop-word-preserved
loop-word-preserved c =
    let s : Sums = record { low = c.loop-word.low; high = c.loop-word.high } in
    let cut = c.in-Some.ensures.cases in
    goes_on s c.in-Some.word.now c.loop-word.rest.now c.in-Some.after.now c.from_le_bytes-low.result _ c.from_le_bytes-low.ensures cut.0 cut.1 (omega (arith, cut.2)) c.loop-word.invariant

pub returns : goal.returns
returns c =
    let s : Sums = record { low = c.loop-word.low; high = c.loop-word.high } in
    let whole = is_done s c.loop-word.rest.now _ c.in_default.ensures.cases c.loop-word.invariant in
    rw (c.from.ensures, c.from-2.ensures) (joined c.loop-word.high c.loop-word.low (search rules) (search rules) ∙ ap checksum_of whole)
