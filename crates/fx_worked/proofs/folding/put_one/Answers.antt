use Rattle.std.proofs.Common.{◌∙◌, ap, sym}
use Rattle.fx_record.specs.Record.{plain_record}
use Rattle.fx_record.specs.Txns.{put, txns_of}
use Rattle.fx_worked.proofs.Discards.{upto_plain}
use Rattle.fx_worked.proofs.folding.put_one.Goals as goal

pub returns-in-Discard : goal.returns-in-Discard
returns-in-Discard c =
    ap txns_of c.keep_upto.ensures ∙ upto_plain c.in-Discard.number c.args.txns.now.items
    ∙ ap (λ r. put (txns_of c.args.txns.now.items) (plain_record r)) (sym c.in-Discard.is)
