use Rattle.std.proofs.Common.{◌≡◌, subst}
use Rattle.fx_nodes.specs.Faults.{IsLeastNode}
use Rattle.fx_audit.specs.Audited.{plain_image}
use Rattle.fx_audit.proofs.BadNodes.{least_bad, none_bad}
use Rattle.fx_audit.proofs.nodes.bad_node.Goals as goal

pub returns-clause-none : goal.returns-clause-none
returns-clause-none c = none_bad (plain_image c.args.image.now) c.in_ok-bad.bad.items c.least.result c.in_ok-bad.ensures (subst (λ ns. IsLeastNode ns c.least.result) c.deref.ensures.value c.least.ensures)

pub returns-clause-least : goal.returns-clause-least
returns-clause-least c = least_bad (plain_image c.args.image.now) c.in_ok-bad.bad.items c.least.result c.in_ok-bad.ensures (subst (λ ns. IsLeastNode ns c.least.result) c.deref.ensures.value c.least.ensures)
