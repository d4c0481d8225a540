use Rattle.std.proofs.Common.{sym, ap, ◌∙◌, rules, map-id}
use Rattle.std.proofs.lemmas.Iterator.Adapters.{YieldsList-from_vec}
use Rattle.std.proofs.lemmas.Iterator.Consumers.{YieldsList-end}
use Rattle.fx_logcuts.specs.Cuts.{pieces_in}
use Rattle.fx_found.proofs.journal.pieces_of.Goals as goal

pub returns : goal.returns
returns c =
    let all = YieldsList-from_vec {s = c.into_iter-block-iterator.result} c.args.blocks (search rules) (search rules) in
    let end = YieldsList-end all c.loop-block.yielded c.loop-block.block-iterator c.loop-block.yielded_by c.next.result c.next.new.self c.in-None.is c.next.ensures.steps in
    c.loop-block.invariant ∙ ap pieces_in (sym (map-id c.loop-block.yielded) ∙ end.0)
