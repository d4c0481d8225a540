use Rattle.std.proofs.Common.{rules, tests, nat_le}
use Rattle.std.proofs.lemmas.Fn.{filter_same}
use Rattle.fx_worked.proofs.folding.keep_upto.Goals as goal

pub returns : goal.returns
returns c = filter_same _ (λ t. nat_le t.0 c.args.number) _ (λ x b t h. search (rules, tests)) c.args.txns.now.items c.retain.new.self.items c.retain.ensures.filtered
