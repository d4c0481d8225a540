use Rattle.std.proofs.Common.{◌+◌, ◌≤◌, length, arith}
use Rattle.std.proofs.lemmas.Result.{IfOk-weaker}
use Rattle.fx_item.specs.Look.{value_in}
use Rattle.fx_plain.specs.Tree.{Tree, node_count}
use Rattle.fx_namespace.specs.Trees.{IsTreeOf, bare}
use Rattle.fx_store.specs.Nodes.{NodeTable}
use Rattle.fx_store.specs.Session.{KnowsNodes}
use Rattle.fx_store.specs.declared.opening.TheConstants.{MAX_OPENING_NODES}
use Rattle.fx_mount.specs.Growing.{HasNodes, HasPaths}
use Rattle.fx_mount.proofs.Growing.{knows_nodes, parents_first, tree_is}
use Rattle.fx_mount.proofs.reading.tree_of.Goals as goal

pub grow-requires-clause-first : goal.grow-requires-clause-first
grow-requires-clause-first c = parents_first (value_in c.args.table.now.items) c.in_ok-nodes.nodes c.requires.stands c.in_ok-nodes.ensures

pub grow-requires-clause-few : goal.grow-requires-clause-few
grow-requires-clause-few c = c.requires.few c.in_ok-nodes.nodes c.in_ok-nodes.ensures

pub returns : goal.returns
returns c =
    let m = value_in c.args.table.now.items in
    let nodes = c.in_ok-nodes.nodes in
    record {
      tree = IfOk-weaker c.grow.result (λ (made : Tree × NodeTable). HasNodes nodes _ made.0) (λ (made : Tree × NodeTable). IsTreeOf m bare made.0)
          (λ made has. tree_is m nodes c.requires.stands c.in_ok-nodes.ensures made.0 has) c.grow.ensures.tree;
      nodes = IfOk-weaker c.grow.result (λ (made : Tree × NodeTable). HasPaths nodes _ made.1) (λ (made : Tree × NodeTable). KnowsNodes m made.1)
          (λ made has. knows_nodes m nodes c.requires.stands c.in_ok-nodes.ensures made.1 has) c.grow.ensures.nodes;
      small = IfOk-weaker c.grow.result (λ (made : Tree × NodeTable). node_count made.0 ≤ length nodes + 1) (λ (made : Tree × NodeTable). node_count made.0 ≤ MAX_OPENING_NODES)
          (λ made few. omega (arith, few, c.requires.few nodes c.in_ok-nodes.ensures)) c.grow.ensures.small;
    }
