use Rattle.std.proofs.Common.{sym, ap, ◌∙◌}
use Rattle.std.specs.FinMap as map
use Rattle.fx_namespace.specs.Nodes.{NodeId}
use Rattle.fx_store.specs.Nodes.{NodeTable}
use Rattle.fx_store.proofs.PathMaps.{get-table_of}
use Rattle.fx_store.proofs.nodes.NodeMap.get.Goals as goal

pub returns : goal.returns
returns c =
    c.copied.ensures
    ∙ c.get.ensures.value
    ∙ sym (get-table_of NodeId c.self.inside.entries.entries c.args.path.now)
    ∙ ap (λ (table : NodeTable). map.get table c.args.path.now) c.self.view_is
