use Rattle.std.proofs.Common.{◌∙◌, ◌+◌, ℕ, ap, subst, arith}
use Rattle.std.specs.Prelude.{is_ok}
use Rattle.fx_history.specs.History.{settle}
use Rattle.fx_disk.proofs.Frames.{flush_flushed}
use Rattle.fx_journal.specs.Ring.{begun, live}
use Rattle.fx_record.specs.Txns.{txns_of}
use Rattle.fx_store.specs.Mounted.{HasSettled, State}
use Rattle.fx_store.proofs.Stores.{store-counted, store-flush-tried, store-settled, store-whole}
use Rattle.fx_store.proofs.store.Store.settle.Goals as goal

pub invariant_of-self : goal.invariant_of-self
invariant_of-self g c =
    store-flush-tried c.self.invariant (g.D.Disk.seen c.flush.new.self) (is_ok c.flush.result) (g.met.D.Disk.told_ok c.self.inside.disk) c.flush.ensures.flushed

pub invariant_of-self-2 : goal.invariant_of-self-2
invariant_of-self-2 g c =
    store-settled c.self.invariant (g.D.Disk.seen c.flush.new.self) (is_ok c.flush.result) (g.met.D.Disk.told_ok c.self.inside.disk) c.flush.ensures.flushed
    (ap is_ok c.in_default.is) (ap (λ (v : State g.row.D.Denot). v.waiting) c.self.view_is ∙ c.requires)
    c.settle.new.self c.settle.ensures.same (c.settle.ensures.history ∙ ap (λ (n : ℕ). settle n c.self.inside.session.history.items) c.calls-calls.ensures)

pub returns-clause-did : goal.returns-clause-did
returns-clause-did g c =
    let none = ap (λ (v : State g.row.D.Denot). v.waiting) c.self.view_is ∙ c.requires in
    let history = c.settle.ensures.history ∙ ap (λ (n : ℕ). settle n c.self.inside.session.history.items) c.calls-calls.ensures in
    let flushed = flush_flushed (g.D.Disk.seen c.self.inside.disk) (g.D.Disk.seen c.flush.new.self) (g.met.D.Disk.told_ok c.self.inside.disk) c.in_default.ensures.flushed in
    let counted = store-counted c.self.invariant (g.D.Disk.seen c.flush.new.self) (is_ok c.flush.result) (g.met.D.Disk.told_ok c.self.inside.disk) c.flush.ensures.flushed (ap is_ok c.in_default.is) none in
    subst (λ (v : State g.row.D.Denot). HasSettled (g.D.Disk.seen v.disk) (g.D.Disk.seen c.flush.new.self) v (record { disk = c.flush.new.self; from = c.self.inside.from; base = c.settle.new.self.base; txns = txns_of c.settle.new.self.txns; history = c.settle.new.self.history.items; ring = c.self.inside.ring.size; live = live c.self.inside.ring; waiting = c.self.inside.ring.queued + begun c.self.inside.ring.text })) c.self.view_is (record {
      history = history;
      whole = store-whole c.self.invariant (g.D.Disk.seen c.flush.new.self) (is_ok c.flush.result) (g.met.D.Disk.told_ok c.self.inside.disk) c.flush.ensures.flushed
          (ap is_ok c.in_default.is) none c.settle.new.self c.settle.ensures.same history;
      flushed = record { waiting = none; calls = omega (arith, counted, none); flushed = flushed };
    })
