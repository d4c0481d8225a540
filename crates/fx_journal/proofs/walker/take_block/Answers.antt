use Rattle.std.proofs.Common.{rules, ◌≡◌, ℕ, take, drop, ap, ◌∙◌, arith}
use Rattle.fx_journal.proofs.Standing.{stands_as}
use Rattle.fx_journal.proofs.walker.take_block.Goals as goal

pub returns-in_ok-from_slice-in-Fits : goal.returns-in_ok-from_slice-in-Fits
returns-in_ok-from_slice-in-Fits c =
    let are : c.new.result ≡ take c.in-Fits.used (drop 24 c.args.block.now) = c.new.ensures ∙ c.in_ok-from_slice-in-Fits.ensures.items ∙ ap (λ (n : ℕ). take n (drop 24 c.args.block.now)) (omega arith) in
    stands_as c.args.block.now c.args.generation c.args.place c.in-Fits.chain c.in-Fits.epoch c.in-Fits.used c.new.result (search rules) (search rules) are c.in-Fits.ensures.judged
