use Rattle.std.proofs.Common.{rules, refl, sym, subst, ap, ◌∙◌, arith}
use Rattle.std.specs.Prelude.{is_ok}
use Rattle.fx_disk.proofs.Frames.{flush_goes}
use Rattle.fx_numbers.specs.State.{IsStep, IsStepBy, MayStep}
use Rattle.fx_parts.specs.Happening.{Count, Mark}
use Rattle.fx_core.specs.Core.{CoreState, HasMarked}
use Rattle.fx_core.proofs.Calls.{core_flush_failed, core_marked, core_marked_is, core_may_mark, core_settled_is, core_unmarked, counted_settled}
use Rattle.fx_core.proofs.mounted.Core.flush_mark.Goals as goal

pub invariant_of-self : goal.invariant_of-self
invariant_of-self g c =
    let counts = subst (λ f. IsStep c.self.inside.numbers c.count.new.self (Count f)) c.faults-faults.ensures c.count.ensures in
    let more = (flush_goes _ _ _ c.flush.ensures.flushed).faults in
    core_flush_failed c.self.inside.numbers c.self.invariant (g.D.Disk.seen c.flush.new.self) (g.met.D.Disk.told_ok c.self.inside.disk) more c.count.new.self counts (is_ok c.flush.result) c.flush.ensures.flushed

pub mark-requires : goal.mark-requires
mark-requires g c =
    let counts = subst (λ f. IsStep c.self.inside.numbers c.count-2.new.self (Count f)) c.faults-faults-2.ensures c.count-2.ensures in
    let more = (flush_goes _ _ _ c.flush.ensures.flushed).faults in
    subst (λ d. MayStep c.count-2.new.self (Mark d c.calls-calls.result)) (sym c.done-done.ensures.done)
    (subst (λ n. MayStep c.count-2.new.self (Mark c.self.inside.tail.done n)) (sym c.calls-calls.ensures)
    (core_may_mark c.self.inside.numbers c.self.invariant (g.D.Disk.seen c.flush.new.self) (g.met.D.Disk.told_ok c.self.inside.disk) more c.count-2.new.self counts (is_ok c.flush.result) c.flush.ensures.flushed (ap is_ok c.in_default.is) (search rules)))

pub invariant_of-self-then-settled-done : goal.invariant_of-self-then-settled-done
invariant_of-self-then-settled-done g c =
    let counts = subst (λ f. IsStep c.self.inside.numbers c.count-2.new.self (Count f)) c.faults-faults-2.ensures c.count-2.ensures in
    let more = (flush_goes _ _ _ c.flush.ensures.flushed).faults in
    core_marked c.self.inside.numbers c.self.invariant (g.D.Disk.seen c.flush.new.self) (g.met.D.Disk.told_ok c.self.inside.disk) more c.count-2.new.self counts (is_ok c.flush.result) c.flush.ensures.flushed (ap is_ok c.in_default.is) (search rules) c.mark.new.self
    (subst (λ d. IsStepBy c.count-2.new.self c.mark.new.self (Mark d (g.D.Disk.seen c.flush.new.self).calls)) c.done-done.ensures.done (subst (λ n. IsStepBy c.count-2.new.self c.mark.new.self (Mark c.done-done.result n)) c.calls-calls.ensures c.mark.ensures))

pub invariant_of-self-else-settled-done : goal.invariant_of-self-else-settled-done
invariant_of-self-else-settled-done g c =
    let counts = subst (λ f. IsStep c.self.inside.numbers c.count-2.new.self (Count f)) c.faults-faults-2.ensures c.count-2.ensures in
    let more = (flush_goes _ _ _ c.flush.ensures.flushed).faults in
    core_unmarked c.self.inside.numbers c.self.invariant (g.D.Disk.seen c.flush.new.self) (g.met.D.Disk.told_ok c.self.inside.disk) more c.count-2.new.self counts (is_ok c.flush.result) c.flush.ensures.flushed (ap is_ok c.in_default.is) (λ less. omega (arith, c.if-settled-done.false, c.settled.ensures, c.done-done.ensures.done, less))

pub returns-then-settled-done-clause-settled : goal.returns-then-settled-done-clause-settled
returns-then-settled-done-clause-settled g c =
    core_marked_is c.count-2.new.self c.mark.new.self c.done-done.result c.calls-calls.result c.mark.ensures c.self.invariant.0 ∙ c.done-done.ensures.done ∙ ap (λ (v : CoreState g.row.D.Denot). v.tail.done) c.self.view_is

pub returns-else-settled-done-clause-settled : goal.returns-else-settled-done-clause-settled
returns-else-settled-done-clause-settled g c =
    core_settled_is c.count-2.new.self (invariant_of-self-else-settled-done g c) (λ less. omega (arith, c.if-settled-done.false, c.settled.ensures, c.done-done.ensures.done, less)) ∙ ap (λ (v : CoreState g.row.D.Denot). v.tail.done) c.self.view_is

pub returns-then-settled-done-clause-marked : goal.returns-then-settled-done-clause-marked
returns-then-settled-done-clause-marked g c =
    let counts = subst (λ f. IsStep c.self.inside.numbers c.count-2.new.self (Count f)) c.faults-faults-2.ensures c.count-2.ensures in
    let same = counted_settled c.self.inside.numbers c.count-2.new.self _ counts c.self.invariant.0 in
    let does = subst (λ d. IsStepBy c.count-2.new.self c.mark.new.self (Mark d (g.D.Disk.seen c.flush.new.self).calls)) c.done-done.ensures.done (subst (λ n. IsStepBy c.count-2.new.self c.mark.new.self (Mark c.done-done.result n)) c.calls-calls.ensures c.mark.ensures) in
    let more = (flush_goes _ _ _ c.flush.ensures.flushed).faults in
    let may = core_may_mark c.self.inside.numbers c.self.invariant (g.D.Disk.seen c.flush.new.self) (g.met.D.Disk.told_ok c.self.inside.disk) more c.count-2.new.self counts (is_ok c.flush.result) c.flush.ensures.flushed (ap is_ok c.in_default.is) (search rules) in
    subst (λ (v : CoreState g.row.D.Denot). HasMarked v.numbers c.mark.new.self (g.D.Disk.seen c.flush.new.self).faults v.tail.done (g.D.Disk.seen c.flush.new.self).calls) c.self.view_is (record {
      counted = c.count-2.new.self;
      count = counts;
      mark = λ _. record { may = may; does = does };
      still = λ le. absurd (omega (arith, c.if-settled-done.true, c.settled.ensures, c.done-done.ensures.done, same, le));
    })

pub returns-else-settled-done-clause-marked : goal.returns-else-settled-done-clause-marked
returns-else-settled-done-clause-marked g c =
    let counts = subst (λ f. IsStep c.self.inside.numbers c.count-2.new.self (Count f)) c.faults-faults-2.ensures c.count-2.ensures in
    let same = counted_settled c.self.inside.numbers c.count-2.new.self _ counts c.self.invariant.0 in
    subst (λ (v : CoreState g.row.D.Denot). HasMarked v.numbers c.count-2.new.self (g.D.Disk.seen c.flush.new.self).faults v.tail.done (g.D.Disk.seen c.flush.new.self).calls) c.self.view_is (record {
      counted = c.count-2.new.self;
      count = counts;
      mark = λ less. absurd (omega (arith, c.if-settled-done.false, c.settled.ensures, c.done-done.ensures.done, same, less));
      still = λ _. refl;
    })
