use Rattle.std.proofs.Common.{rules, ◌≡◌, ℕ, ◌+◌, take, sym, subst, arith}
use Rattle.fx_verify.specs.Kept.{IsKeptNumber, live_sum, plain_txns}
use Rattle.fx_verify.specs.Wrong.{holds_block, holds_pair, is_wrong}
use Rattle.fx_verify.proofs.Judging.{kept_if_clear, kept_if_wrong, wrong_more}
use Rattle.fx_verify.proofs.keeping.kept.Goals.{then-is_clear, else-is_clear}
use Rattle.fx_verify.proofs.keeping.kept.Goals as goal

pub loop-items-preserved : goal.loop-items-preserved
loop-items-preserved c =
    let txns = c.args.txns.now in
    let i = c.loop-items.items-index in
    let t = c.loop-items-item.result in
    let held = holds_pair c.in_ok-pairs.pairs in
    let new = holds_block c.follow.new.wrong in
    let all : (b : ℕ) → new b ≡ is_wrong held b (live_sum (plain_txns (take (i + 1) txns)) b) =
    wrong_more c.args.base txns i t c.args.found.now held new (search rules) (search rules) (holds_block c.loop-items.wrong) (search rules) c.loop-items.invariant.1 in (
      omega (arith, c.loop-items.invariant.0),
      all,
      elim c.if-is_clear.branch [
        | then-is_clear w ↦
            subst (IsKeptNumber c.args.base (plain_txns (take (i + 1) txns)) c.args.found.now) (sym w.kept-is)
            (kept_if_clear c.args.base txns i t c.args.found.now held new (search rules) (search rules) c.in_ok-pairs.ensures all c.loop-items.last c.loop-items.invariant.0 (c.is_clear.ensures.clear (search rules)))
        | else-is_clear w ↦
            subst (IsKeptNumber c.args.base (plain_txns (take (i + 1) txns)) c.args.found.now) (sym w.kept-is)
            (kept_if_wrong c.args.base txns i t c.args.found.now held new (search rules) (search rules) c.in_ok-pairs.ensures all c.loop-items.kept (c.is_clear.ensures.wrong (search rules)) c.loop-items.invariant.2)
      ],
    )
