use Rattle.std.proofs.Common.{◌∙◌}
use Rattle.fx_item.specs.Look.{map_of}
use Rattle.fx_dir.proofs.TreeNames.{same_children}
use Rattle.fx_dir.proofs.Listed.{ended, none_before, step, step_smaller}
use Rattle.fx_dir.proofs.children.names.Goals as goal

pub loop-names-init : goal.loop-names-init
loop-names-init g c = none_before _ _ _ _ (c.new-from.ensures ∙ c.new.ensures.items) c.new-names.ensures.items

pub loop-names-smaller : goal.loop-names-smaller
loop-names-smaller g c =
    step_smaller (map_of (g.L.Look.said c.args.look.now)) c.args.at c.loop-names.from c.in_ok-from.from c.in-Some.name (g.L.Look.keys c.args.look.now) c.in_ok-name.field-0 c.in-Some.is c.in_ok-name.ensures.first c.in_ok-name.ensures.listed c.in_ok-from.ensures

pub loop-names-preserved : goal.loop-names-preserved
loop-names-preserved g c =
    step (map_of (g.L.Look.said c.args.look.now)) c.args.at c.loop-names.from c.in_ok-from.from c.in-Some.name c.loop-names.names.items c.push.new.self.items c.in_ok-name.field-0 c.loop-names.invariant c.in-Some.is c.in_ok-name.ensures.first c.in_ok-from.ensures c.in_ok-push.ensures.items

pub returns-clause-items : goal.returns-clause-items
returns-clause-items g c = ended (map_of (g.L.Look.said c.args.look.now)) c.args.at c.loop-names.from c.loop-names.names.items c.new-2.result c.in_ok-name.field-0 c.loop-names.invariant c.in_default.is c.in_ok-name.ensures.first c.new-2.ensures

pub returns-clause-tree : goal.returns-clause-tree
returns-clause-tree g c = λ path h t stands tree way. same_children stands tree path way c.new-2.result (returns-clause-items g c)
