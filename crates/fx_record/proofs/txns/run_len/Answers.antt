use Rattle.std.proofs.Common.{ap, ◌∙◌, length, get_or, arith}
use Rattle.std.proofs.lemmas.List.{get_or_read}
use Rattle.fx_record.specs.declared.txns.Piece.{Piece}
use Rattle.fx_record.proofs.Runs.{first_text, not_first}
use Rattle.fx_record.proofs.txns.run_len.Goals as goal

pub returns-then-piece-epoch-clause-run : goal.returns-then-piece-epoch-clause-run
returns-then-piece-epoch-clause-run c =
    let pieces = c.args.pieces.now in
    let first = get_or pieces 0 c.index-pieces-0.result in
    let here = c.index-pieces-i.result in
    first_text pieces c.loop-i.i first (not_first pieces c.loop-i.i c.index-pieces-0.result here c.requires c.index-pieces-i.is c.if-piece-epoch.true) (omega arith) c.loop-i.invariant
    (λ d lt e. c.if-piece-epoch.true (ap (λ (w : Piece). w.epoch) (get_or_read pieces c.loop-i.i here lt c.index-pieces-i.is d) ∙ e))

pub returns-clause-run : goal.returns-clause-run
returns-clause-run c =
    let pieces = c.args.pieces.now in
    first_text pieces (length pieces) (get_or pieces 0 c.index-pieces-0.result) c.requires (omega arith) (λ k d lt. c.loop-i.invariant k d (omega (arith, c.loop-i-test.false))) (λ d lt. absurd (omega arith))
