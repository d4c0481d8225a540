use Rattle.std.proofs.Common.{◌≡◌, ◌+◌, ℕ, length, sym, ap, subst, arith, rules}
use Rattle.std.specs.Prelude.{Some, slice_get}
use Rattle.std.proofs.lemmas.List.{length_push}
use Rattle.std.proofs.lemmas.Option.{slice_get_within}
use Rattle.std.proofs.lemmas.Iterator.Adapters.{YieldsList-from_vec}
use Rattle.std.proofs.lemmas.Iterator.Consumers.{YieldsList-turn, YieldsList-end}
use Rattle.fx_plain.specs.Tree.{Tree, node_count}
use Rattle.fx_plain.proofs.Growth.{node_count-insert, node_count-root}
use Rattle.fx_mount.specs.Growing.{HasNodes, HasPaths, empty_node}
use Rattle.fx_store.specs.Nodes.{NodeTable}
use Rattle.fx_mount.proofs.Growing.{none_yet, no_paths, one_more, one_path_more, may_stand, stands_at}
use Rattle.fx_mount.proofs.reading.grow.Goals as goal
use Rattle.fx_mount.proofs.reading.grow.Goals.{In-Some}

pub loop-node-init : goal.loop-node-init
loop-node-init c = record {
  tree = subst (λ (t : Tree). HasNodes c.args.nodes 0 t) (sym c.in_ok-tree.ensures) (none_yet c.args.nodes c.requires.first);
  paths = subst (λ (t : NodeTable). HasPaths c.args.nodes 0 t) (sym c.in_ok-paths.ensures) (no_paths c.args.nodes);
  count = omega (arith, ap node_count c.in_ok-tree.ensures, node_count-root);
}

here : (c : In-Some) → slice_get c.args.nodes (length c.loop-node.yielded) ≡ Some c.in-Some.node
here c =
    let all = YieldsList-from_vec {s = c.into_iter-node-iterator.result} c.args.nodes (search rules) (search rules) in
    let turn = YieldsList-turn all c.loop-node.yielded c.loop-node.node-iterator c.loop-node.yielded_by c.next.result c.next.new.self c.in-Some.node c.in-Some.is c.next.ensures.steps in
    stands_at c.args.nodes (length c.loop-node.yielded) c.in-Some.node turn.0 turn.1

pub loop-node-preserved : goal.loop-node-preserved
loop-node-preserved c = record {
  tree = subst (λ (n : ℕ). HasNodes c.args.nodes n c.add_node.new.tree) (sym (length_push c.loop-node.yielded c.in-Some.node))
      (subst (λ (t : Tree). HasNodes c.args.nodes (length c.loop-node.yielded + 1) t) (sym c.in_ok-add_node.ensures.tree)
      (one_more c.args.nodes c.requires.first (length c.loop-node.yielded) c.in-Some.node c.loop-node.tree (here ((goal.at.loop-node-preserved c).In-Some)) c.loop-node.invariant.tree));
  paths = subst (λ (n : ℕ). HasPaths c.args.nodes n c.add_node.new.paths) (sym (length_push c.loop-node.yielded c.in-Some.node))
      (subst (λ (t : NodeTable). HasPaths c.args.nodes (length c.loop-node.yielded + 1) t) (sym c.in_ok-add_node.ensures.paths)
      (one_path_more c.args.nodes c.requires.first (length c.loop-node.yielded) c.in-Some.node c.loop-node.paths (here ((goal.at.loop-node-preserved c).In-Some)) c.loop-node.invariant.paths));
  count = omega (arith, c.loop-node.invariant.count, ap node_count c.in_ok-add_node.ensures.tree, node_count-insert c.loop-node.tree c.in-Some.node.path (empty_node c.in-Some.node.kind), length_push c.loop-node.yielded c.in-Some.node);
}

pub add_node-requires-clause-stands : goal.add_node-requires-clause-stands
add_node-requires-clause-stands c = may_stand c.args.nodes c.requires.first (length c.loop-node.yielded) c.in-Some.node c.loop-node.tree (here ((goal.at.add_node-requires-clause-stands c).In-Some)) c.loop-node.invariant.tree

pub add_node-requires-clause-few : goal.add_node-requires-clause-few
add_node-requires-clause-few c =
    let within = slice_get_within c.args.nodes (length c.loop-node.yielded) c.in-Some.node (here ((goal.at.add_node-requires-clause-few c).In-Some)) in
    omega (arith, c.loop-node.invariant.count, c.requires.few, within)

pub returns : goal.returns
returns c =
    let all = YieldsList-from_vec {s = c.into_iter-node-iterator.result} c.args.nodes (search rules) (search rules) in
    let end = YieldsList-end all c.loop-node.yielded c.loop-node.node-iterator c.loop-node.yielded_by c.next.result c.next.new.self c.in-None.is c.next.ensures.steps in
    record {
      tree = subst (λ (n : ℕ). HasNodes c.args.nodes n c.loop-node.tree) end.1 c.loop-node.invariant.tree;
      nodes = subst (λ (n : ℕ). HasPaths c.args.nodes n c.loop-node.paths) end.1 c.loop-node.invariant.paths;
      small = omega (arith, end.1, c.loop-node.invariant.count);
    }
