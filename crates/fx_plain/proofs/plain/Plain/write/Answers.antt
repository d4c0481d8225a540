use Rattle.std.proofs.Common.{◌≡◌, refl, sym, ap, subst, ◌∙◌, Some}
use Rattle.std.specs.Option.{IsSome}
use Rattle.std.specs.FinMap as map
use Rattle.std.proofs.lemmas.Result.{IfOk-weaker, on_err_weaker}
use Rattle.fx_plain.specs.Memory.{tree_of}
use Rattle.fx_plain.proofs.Views.{get-tree_of, tree_of-set_value, insert_same}
use Rattle.fx_plain.proofs.Writes.{written_nowhere, written_there}
use Rattle.fx_plain.proofs.plain.Plain.write.Goals as goal
use Rattle.fx_plain.proofs.plain.Plain.write.Goals.{After-write}

-- the tree once the node is written
after : (c : After-write) → tree_of (c.get_mut.follows.lender c.write.new.self).entries ≡ map.insert c.args.self.now c.args.path.now c.write.new.self
after c =
    ap tree_of (c.get_mut.follows.holds c.write.new.self).0
    ∙ tree_of-set_value c.self.inside.nodes.entries c.args.path.now c.write.new.self (subst IsSome c.in-Some-get_mut.ensures.value refl)
    ∙ ap (λ tree. map.insert tree c.args.path.now c.write.new.self) c.self.view_is

-- the node before it is written
found : (c : After-write) → map.get c.args.self.now c.args.path.now ≡ Some c.in-Some-get_mut.node.now
found c =
    sym (c.in-Some-get_mut.ensures.value
    ∙ sym (get-tree_of c.self.inside.nodes.entries c.args.path.now)
    ∙ ap (λ tree. map.get tree c.args.path.now) c.self.view_is)

pub returns-clause-ok : goal.returns-clause-ok
returns-clause-ok c =
    let w = (goal.at.returns-clause-ok c).After-write in
    IfOk-weaker w.write.result _ _ (λ answer done. written_there w.args.self.now _ w.args.path.now w.args.at w.args.text.now w.in-Some-get_mut.node.now w.write.new.self answer w.in_default.ensures (found w) (after w) done) w.write.ensures.ok

pub returns-clause-err : goal.returns-clause-err
returns-clause-err c =
    let w = (goal.at.returns-clause-err c).After-write in
    on_err_weaker w.write.result (λ same.
    after w ∙ ap (map.insert w.args.self.now w.args.path.now) same ∙ insert_same w.args.self.now w.args.path.now w.in-Some-get_mut.node.now (found w)) w.write.ensures.err

pub returns-in_default-get_mut-clause-ok : goal.returns-in_default-get_mut-clause-ok
returns-in_default-get_mut-clause-ok c =
    written_nowhere c.args.self.now _ c.args.path.now c.args.at c.args.text.now c.in_default.ensures
    (sym (c.in_default-get_mut.ensures.value
    ∙ sym (get-tree_of c.self.inside.nodes.entries c.args.path.now)
    ∙ ap (λ tree. map.get tree c.args.path.now) c.self.view_is))
    (ap (λ m. tree_of m.entries) c.get_mut.follows.holds-at-none ∙ c.self.view_is)
