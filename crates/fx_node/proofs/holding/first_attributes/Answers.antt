use Rattle.std.proofs.Common.{◌≡◌, ◌∙◌, ◌≤◌, length, arith, ap, rules}
use Rattle.fx_item.specs.Overlay.{live_in}
use Rattle.fx_node.proofs.Attributes.{attribute_step, attributes_end, no_attributes_before}
use Rattle.fx_node.proofs.holding.first_attributes.Goals as goal

pub names-init : goal.names-init
names-init g c = record {
  before = no_attributes_before (live_in (g.L.Look.said c.args.look.now)) c.args.at _ _ (c.new-from.ensures ∙ c.new.ensures.items) c.new-names.ensures.items;
  few = omega (arith, ap length c.new-names.ensures.items);
}

pub names-preserved : goal.names-preserved
names-preserved g c = record {
  before = attribute_step c.names.invariant.before c.in_ok-name.field-0 c.in_ok-name.ensures.next c.in_ok-from.from c.in-Some.name c.push.new.self.items c.in-Some.is c.in_ok-from.ensures c.in_ok-push.ensures.items;
  few = search rules;
}

pub returns-clause-first : goal.returns-clause-first
returns-clause-first g c =
    let few : length c.names.names.items ≤ c.args.most = c.names.invariant.few in
    let full : length c.names.names.items ≡ c.args.most = search rules in
    attributes_end c.names.invariant.before c.in_ok-next.next c.in_ok-next.ensures.next c.args.most c.is_none.result full c.is_none.ensures
