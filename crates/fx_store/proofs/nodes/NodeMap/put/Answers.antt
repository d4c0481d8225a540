use Rattle.std.proofs.Common.{ap, ◌∙◌}
use Rattle.std.specs.FinMap as map
use Rattle.fx_namespace.specs.Nodes.{NodeId}
use Rattle.fx_store.specs.Nodes.{table_of}
use Rattle.fx_store.proofs.PathMaps.{table_of-insert_entry}
use Rattle.fx_store.proofs.nodes.NodeMap.put.Goals as goal

pub returns-clause-ok : goal.returns-clause-ok
returns-clause-ok c =
    ap table_of c.in_ok-insert.ensures.entries
    ∙ table_of-insert_entry NodeId c.self.inside.entries.entries c.in_ok-to_vec.field-0 c.args.node
    ∙ ap (λ path. map.insert (table_of c.self.inside.entries.entries) path c.args.node) (c.in_ok-to_vec.ensures.items_if_clones_equal (λ x y e. e))
    ∙ ap (λ table. map.insert table c.args.path.now c.args.node) c.self.view_is
