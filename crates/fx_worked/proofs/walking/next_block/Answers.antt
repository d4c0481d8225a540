use Rattle.std.proofs.Common.{rules, ◌≡◌, ℕ, take, drop, ap, ◌∙◌, arith}
use Rattle.fx_journal.proofs.Standing.{stands_as}
use Rattle.fx_worked.proofs.walking.next_block.Goals as goal

pub returns : goal.returns
returns c =
    let are : c.new-records.result ≡ take c.in-Fits.used (drop 24 c.args.block.now) = c.new-records.ensures ∙ c.in_ok-from_slice.ensures.items ∙ ap (λ (n : ℕ). take n (drop 24 c.args.block.now)) (omega arith) in
    stands_as c.args.block.now c.args.generation c.args.place c.in-Fits.chain c.in-Fits.epoch c.in-Fits.used c.new-records.result (search rules) (search rules) are c.in-Fits.ensures.judged
