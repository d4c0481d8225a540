use Rattle.std.proofs.Common.{◌≡◌, refl, sym, ap, subst, ◌∙◌, Some}
use Rattle.std.specs.Option.{IsSome}
use Rattle.std.specs.FinMap as map
use Rattle.std.proofs.lemmas.Result.{IfOk-weaker, on_err_weaker}
use Rattle.fx_plain.specs.Memory.{tree_of}
use Rattle.fx_plain.proofs.Views.{get-tree_of, tree_of-set_value, insert_same}
use Rattle.fx_memtree.proofs.NodeRows.{done_nowhere, done_there}
use Rattle.fx_memtree.proofs.tree.MemoryTree.at_node.Goals as goal
use Rattle.fx_memtree.proofs.tree.MemoryTree.at_node.Goals.{After-step}

-- the tree once the node is written
after : (c : After-step) → tree_of (c.get_mut.follows.lender c.step.new.self).entries ≡ map.insert c.args.self.now c.args.path.now c.step.new.self
after c =
    ap tree_of (c.get_mut.follows.holds c.step.new.self).0
    ∙ tree_of-set_value c.self.inside.nodes.entries c.args.path.now c.step.new.self (subst IsSome c.in-Some-get_mut.ensures.value refl)
    ∙ ap (λ tree. map.insert tree c.args.path.now c.step.new.self) c.self.view_is

-- the node before it is written
found : (c : After-step) → map.get c.args.self.now c.args.path.now ≡ Some c.in-Some-get_mut.node.now
found c =
    sym (c.in-Some-get_mut.ensures.value
    ∙ sym (get-tree_of c.self.inside.nodes.entries c.args.path.now)
    ∙ ap (λ tree. map.get tree c.args.path.now) c.self.view_is)

pub returns-clause-ok : goal.returns-clause-ok
returns-clause-ok c =
    let w = (goal.at.returns-clause-ok c).After-step in
    IfOk-weaker w.step.result _ _ (λ answer done. done_there w.args.self.now _ w.args.path.now w.args.step.now w.in-Some-get_mut.node.now w.step.new.self answer w.in_default.ensures (found w) (after w) done) w.step.ensures.ok

pub returns-clause-err : goal.returns-clause-err
returns-clause-err c =
    let w = (goal.at.returns-clause-err c).After-step in
    on_err_weaker w.step.result (λ same.
    after w ∙ ap (map.insert w.args.self.now w.args.path.now) same ∙ insert_same w.args.self.now w.args.path.now w.in-Some-get_mut.node.now (found w)) w.step.ensures.err

pub returns-in_default-get_mut-clause-ok : goal.returns-in_default-get_mut-clause-ok
returns-in_default-get_mut-clause-ok c =
    done_nowhere c.args.self.now _ c.args.path.now c.args.step.now c.in_default.ensures
    (sym (c.in_default-get_mut.ensures.value
    ∙ sym (get-tree_of c.self.inside.nodes.entries c.args.path.now)
    ∙ ap (λ tree. map.get tree c.args.path.now) c.self.view_is))
    (ap (λ m. tree_of m.entries) c.get_mut.follows.holds-at-none ∙ c.self.view_is)
