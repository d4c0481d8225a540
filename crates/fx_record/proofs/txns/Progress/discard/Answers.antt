use Rattle.std.proofs.Common.{List, ℕ, ◌+◌, ap}
use Rattle.fx_item.specs.Item.{PlainItem}
use Rattle.fx_record.specs.Progress.{ReadState}
use Rattle.fx_record.proofs.Moves.{discarded}
use Rattle.fx_record.proofs.txns.Progress.discard.Goals as goal

pub returns-clause-moved : goal.returns-clause-moved
returns-clause-moved c =
    let d = discarded c.args.base c.args.self.now.last c.args.number c.args.self.now.txns.items c.truncate.new.self.items c.truncate.ensures.items c.requires.numbered c.requires.least c.requires.most in
    ap (λ (w : List (ℕ × List PlainItem)). let s : ReadState = record { last = c.args.number; read = c.args.self.now.read + 1; txns = w } in s) d.0

pub returns-clause-numbered : goal.returns-clause-numbered
returns-clause-numbered c =
    (discarded c.args.base c.args.self.now.last c.args.number c.args.self.now.txns.items c.truncate.new.self.items c.truncate.ensures.items c.requires.numbered c.requires.least c.requires.most).1
