use Rattle.std.specs.FinMap.{insert}
use Rattle.std.proofs.Common.{ℕ, List, sym, ap, ◌∙◌}
use Rattle.std.specs.Prelude.{Result}
use Rattle.fx_plain.specs.Tree.{Tree}
use Rattle.fx_plain.specs.Table.{do_step}
use Rattle.fx_plain.specs.declared.step.Answer.{Answer}
use Rattle.fx_plain.specs.declared.step.Refusal.{Refusal}
use Rattle.fx_mount.proofs.Growing.{makes}
use Rattle.fx_mount.proofs.reading.add_node.Goals as goal

pub unreachable-requires : goal.unreachable-requires
unreachable-requires c =
    let e = sym c.in_ok-step.ensures.ok ∙ ap (do_step c.args.tree.now) c.making-step.ensures ∙ makes c.args.tree.now c.args.node.path c.args.node.kind c.requires.stands in
    cc (sym c.in_default.is ∙ ap (λ (r : Result Answer Refusal × Tree). r.0) e)

pub returns : goal.returns
returns c =
    let e = sym c.in_ok-step.ensures.ok ∙ ap (do_step c.args.tree.now) c.making-step.ensures ∙ makes c.args.tree.now c.args.node.path c.args.node.kind c.requires.stands in
    record { tree = ap (λ (r : Result Answer Refusal × Tree). r.1) e; paths = c.in_ok-put.ensures.ok ∙ ap (λ (path : List (List ℕ)). insert c.args.paths.now path c.args.node.node) c.as_slice.ensures }
