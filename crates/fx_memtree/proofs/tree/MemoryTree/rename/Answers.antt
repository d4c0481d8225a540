use Rattle.std.proofs.Common.{sym, ap, ◌∙◌}
use Rattle.std.proofs.lemmas.Result.{IfOk-weaker}
use Rattle.fx_steps.specs.Rows.{move_to}
use Rattle.fx_memtree.proofs.MoveRows.{IsBeforeVolumes, crossing, found_some, within}
use Rattle.fx_memtree.proofs.tree.MemoryTree.rename.Goals as goal
use Rattle.fx_memtree.proofs.tree.MemoryTree.rename.Goals.{After-ne}

known : (c : After-ne) → IsBeforeVolumes c.args.self.now c.args.from.now c.args.to.now c.in-Some-Some.volume.now c.in-Some-Some.other.now
known c = record {
  first = c.in-Some-Some.ensures.value;
  second = c.in-Some-Some.ensures'.value;
  way = c.in_default-walk.ensures;
  there = found_some _ c.get.result _ c.get.ensures c.if-is_none.ensures;
  apart = sym c.lies_below.ensures ∙ c.if-lies_below.false;
}

pub returns-then-ne-clause-ok : goal.returns-then-ne-clause-ok
returns-then-ne-clause-ok c =
    let w = (goal.at.returns-then-ne-clause-ok c).After-ne in
    crossing w.args.self.now w.args.from.now w.args.to.now w.in-Some-Some.volume.now w.in-Some-Some.other.now (known w) c.if-ne.ensures

pub returns-in-Some-walk-clause-ok : goal.returns-in-Some-walk-clause-ok
returns-in-Some-walk-clause-ok c =
    let w = (goal.at.returns-in-Some-walk-clause-ok c).After-ne in
    within w.args.self.now w.args.from.now w.args.to.now w.in-Some-Some.volume.now w.in-Some-Some.other.now (known w) c.if-ne.ensures
    ∙ ap (move_to w.args.self.now w.args.from.now w.args.to.now) (sym c.in-Some-walk.ensures)

pub returns-clause-ok : goal.returns-clause-ok
returns-clause-ok c =
    let w = (goal.at.returns-clause-ok c).After-ne in
    IfOk-weaker c.move_apart.result _ _ (λ answer done.
    within w.args.self.now w.args.from.now w.args.to.now w.in-Some-Some.volume.now w.in-Some-Some.other.now (known w) c.if-ne.ensures
    ∙ ap (move_to w.args.self.now w.args.from.now w.args.to.now) (sym c.in_default-walk-2.ensures) ∙ done) c.move_apart.ensures.ok
