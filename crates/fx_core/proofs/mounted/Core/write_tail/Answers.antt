use Rattle.std.proofs.Common.{rules, sym, subst}
use Rattle.std.specs.Prelude.{is_ok}
use Rattle.fx_record.specs.Txns.{txns_of}
use Rattle.fx_numbers.specs.State.{IsStep}
use Rattle.fx_parts.specs.Happening.{Count}
use Rattle.fx_core.proofs.Calls.{HoldsCore, core_write_done, core_write_failed, wrote_block, wrote_none}
use Rattle.fx_core.proofs.mounted.Core.write_tail.Goals as goal

pub invariant_of-self : goal.invariant_of-self
invariant_of-self g c =
    let counts = subst (λ f. IsStep c.self.inside.numbers c.count.new.self (Count f)) c.faults-faults.ensures c.count.ensures in
    subst (HoldsCore (g.D.Disk.seen c.write_next.new.disk) c.self.inside.from (txns_of c.self.inside.txns) (record { ids = c.self.inside.end_ids; stores = c.self.inside.end_stores }) c.count.new.self) (sym c.in-Err.ensures.fault)
    (core_write_failed c.self.inside.numbers c.self.invariant (g.D.Disk.seen c.write_next.new.disk) (g.met.D.Disk.told_ok c.self.inside.disk) c.in-Err.ensures.disk.goes.faults c.count.new.self counts
    c.args.before c.write_next.result (is_ok c.write_next.result) (λ none. (c.write_next.ensures.nothing none).0) c.in-Err.fault c.in-Err.is (λ s e. (c.write_next.ensures.first s e).made))

pub invariant_of-self-in-Ok-Nothing : goal.invariant_of-self-in-Ok-Nothing
invariant_of-self-in-Ok-Nothing g c =
    let none = wrote_none _ (rw c.in-Ok-Nothing.field-0-is at c.in-Ok-Nothing.ensures.answer) in
    let same = c.write_next.ensures.nothing none in
    subst (λ (d : g.row.D.Denot). HoldsCore (g.D.Disk.seen d) c.self.inside.from (txns_of c.self.inside.txns) (record { ids = c.self.inside.end_ids; stores = c.self.inside.end_stores }) c.self.inside.numbers c.write_next.new.self) (sym same.2)
    (subst (HoldsCore (g.D.Disk.seen c.self.inside.disk) c.self.inside.from (txns_of c.self.inside.txns) (record { ids = c.self.inside.end_ids; stores = c.self.inside.end_stores }) c.self.inside.numbers) (sym same.1) c.self.invariant)

pub invariant_of-self-in-Ok-Block : goal.invariant_of-self-in-Ok-Block
invariant_of-self-in-Ok-Block g c =
    let counts = subst (λ f. IsStep c.self.inside.numbers c.count-in-Ok-Block.new.self (Count f)) c.faults-faults-in-Ok-Block.ensures c.count-in-Ok-Block.ensures in
    let next = wrote_block _ c.in-Ok-Block.sequence (rw c.in-Ok-Block.field-0-is at c.in-Ok-Block.ensures.answer) in
    core_write_done c.self.inside.numbers c.self.invariant (g.D.Disk.seen c.write_next.new.disk) (g.met.D.Disk.told_ok c.self.inside.disk) c.in-Ok-Block.ensures.disk.goes.faults c.count-in-Ok-Block.new.self counts
    c.args.before c.in-Ok-Block.sequence next c.write_next.new.self c.write_next.ensures.tails.0 (search rules) (c.in-Ok-Block.ensures.first c.in-Ok-Block.sequence next).written
    (c.in-Ok-Block.ensures.first c.in-Ok-Block.sequence next).made (c.in-Ok-Block.ensures.first c.in-Ok-Block.sequence next).queue
