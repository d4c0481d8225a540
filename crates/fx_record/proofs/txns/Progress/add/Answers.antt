use Rattle.fx_record.proofs.Moves.{numbered_more}
use Rattle.fx_record.proofs.txns.Progress.add.Goals as goal

pub returns-clause-numbered : goal.returns-clause-numbered
returns-clause-numbered c =
    numbered_more c.args.base c.args.self.now.last c.args.number c.args.self.now.txns.items c.push.new.self.items c.args.items c.requires.next c.in_ok-push.ensures.items c.requires.numbered
