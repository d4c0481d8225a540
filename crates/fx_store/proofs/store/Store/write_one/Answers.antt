use Rattle.std.proofs.Common.{◌≡◌, ◌+◌, ◌∙◌, refl, sym, ap, subst, true, false, arith}
use Rattle.std.specs.Prelude.{None, is_ok}
use Rattle.fx_journal.specs.Ring.{RingState, begun, live, next_block}
use Rattle.fx_journal.specs.Writing.{wrote}
use Rattle.fx_record.specs.Txns.{txns_of}
use Rattle.fx_store.specs.Inside.{IsStore}
use Rattle.fx_store.specs.Mounted.{KeepsLive, State, WroteOne}
use Rattle.fx_store.proofs.Stores.{store-padded, store-written, store-tried}
use Rattle.fx_store.proofs.Writing.{failed-last, fewer-waits, not-both, one-at-most, one-counted, padded-waits, some-unless, wrote-block, wrote-nothing}
use Rattle.fx_store.proofs.store.Store.write_one.Goals as goal

-- ---- a block was written

pub invariant_of-self : goal.invariant_of-self
invariant_of-self g c =
    let next = wrote-block _ c.in-Ok-Block.field-0-0 (rw c.in-Ok-Block.field-0-is at c.in-Ok-Block.ensures.answer) in
    store-written (store-padded c.self.invariant c.pad-next.new.self c.pad-next.new.pool c.pad-next.ensures.padded c.pad-next.ensures.kept c.pad-next.ensures.out c.pad-next.ensures.queue)
    (g.D.Disk.seen c.write_next.new.disk) (is_ok c.write_next.result) (g.met.D.Disk.told_ok c.self.inside.disk) 18446744073709551615 c.in-Ok-Block.field-0-0 next
    (c.write_next.ensures.first c.in-Ok-Block.field-0-0 next).made (ap is_ok c.in-Ok-Block.is) c.write_next.new.self c.write_next.new.pool
    (c.in-Ok-Block.ensures.first c.in-Ok-Block.field-0-0 next).written c.write_next.ensures.kept c.write_next.ensures.given
    (c.in-Ok-Block.ensures.first c.in-Ok-Block.field-0-0 next).queue

pub returns-in-Ok-Block-clause-did : goal.returns-in-Ok-Block-clause-did
returns-in-Ok-Block-clause-did g c =
    let next = wrote-block _ c.in-Ok-Block.field-0-0 (rw c.in-Ok-Block.field-0-is at c.in-Ok-Block.ensures.answer) in
    let one = one-counted (store-padded c.self.invariant c.pad-next.new.self c.pad-next.new.pool c.pad-next.ensures.padded c.pad-next.ensures.kept c.pad-next.ensures.out c.pad-next.ensures.queue)
    (g.D.Disk.seen c.write_next.new.disk) (is_ok c.write_next.result) 18446744073709551615 c.in-Ok-Block.field-0-0 next (λ s queue e h. (c.write_next.ensures.first s e).made queue h) (ap is_ok c.in-Ok-Block.is) in
    subst (λ (v : State g.row.D.Denot). WroteOne (g.D.Disk.seen v.disk) (g.D.Disk.seen c.write_next.new.disk) v (record { disk = c.write_next.new.disk; from = c.self.inside.from; base = c.self.inside.session.base; txns = txns_of c.self.inside.session.txns; history = c.self.inside.session.history.items; ring = c.write_next.new.self.size; live = live c.write_next.new.self; waiting = c.write_next.new.self.queued + begun c.write_next.new.self.text })) c.self.view_is (record {
      waiting = fewer-waits c.self.inside.ring c.pad-next.new.self c.write_next.new.self 18446744073709551615 c.in-Ok-Block.field-0-0 c.pad-next.ensures.padded (c.in-Ok-Block.ensures.first c.in-Ok-Block.field-0-0 next).written next;
      calls = one;
    })

pub returns-in-Ok-Block-clause-keeps : goal.returns-in-Ok-Block-clause-keeps
returns-in-Ok-Block-clause-keeps g c =
    let next = wrote-block _ c.in-Ok-Block.field-0-0 (rw c.in-Ok-Block.field-0-is at c.in-Ok-Block.ensures.answer) in
    let one = one-counted (store-padded c.self.invariant c.pad-next.new.self c.pad-next.new.pool c.pad-next.ensures.padded c.pad-next.ensures.kept c.pad-next.ensures.out c.pad-next.ensures.queue)
    (g.D.Disk.seen c.write_next.new.disk) (is_ok c.write_next.result) 18446744073709551615 c.in-Ok-Block.field-0-0 next (λ s queue e h. (c.write_next.ensures.first s e).made queue h) (ap is_ok c.in-Ok-Block.is) in
    let written = (c.in-Ok-Block.ensures.first c.in-Ok-Block.field-0-0 next).written in
    let fewer = fewer-waits c.self.inside.ring c.pad-next.new.self c.write_next.new.self 18446744073709551615 c.in-Ok-Block.field-0-0 c.pad-next.ensures.padded written next in
    let same_live = ap live written ∙ c.pad-next.ensures.live in
    subst (λ (v : State g.row.D.Denot). KeepsLive (g.D.Disk.seen v.disk) (g.D.Disk.seen c.write_next.new.disk) v (record { disk = c.write_next.new.disk; from = c.self.inside.from; base = c.self.inside.session.base; txns = txns_of c.self.inside.session.txns; history = c.self.inside.session.history.items; ring = c.write_next.new.self.size; live = live c.write_next.new.self; waiting = c.write_next.new.self.queued + begun c.write_next.new.self.text }) true) c.self.view_is (record {
      mount = record { from = refl; base = refl; txns = refl; ring = c.write_next.ensures.kept.size ∙ c.pad-next.ensures.kept.size };
      live = same_live;
      each = record { each = omega (arith, one, fewer, same_live); most = omega (arith, one, fewer, same_live) };
      called = c.in-Ok-Block.ensures.disk;
    })

-- ---- no block waits

pub invariant_of-self-in-Ok-Nothing : goal.invariant_of-self-in-Ok-Nothing
invariant_of-self-in-Ok-Nothing g c =
    let none : next_block c.pad-next.new.self 18446744073709551615 ≡ None = wrote-nothing _ (rw c.in-Ok-Nothing.field-0-is at c.in-Ok-Nothing.ensures.answer) in
    let same = c.write_next.ensures.nothing none in
    subst (λ (d : g.row.D.Denot). IsStore (g.D.Disk.seen d) c.self.inside.from c.self.inside.session c.write_next.new.self c.write_next.new.pool) (sym same.3)
    (subst (λ (r : RingState). IsStore (g.D.Disk.seen c.self.inside.disk) c.self.inside.from c.self.inside.session r c.write_next.new.pool) (sym same.1)
    (subst (IsStore (g.D.Disk.seen c.self.inside.disk) c.self.inside.from c.self.inside.session c.pad-next.new.self) (sym same.2)
    (store-padded c.self.invariant c.pad-next.new.self c.pad-next.new.pool c.pad-next.ensures.padded c.pad-next.ensures.kept c.pad-next.ensures.out c.pad-next.ensures.queue)))

-- ---- the write failed

pub invariant_of-self-in-Err : goal.invariant_of-self-in-Err
invariant_of-self-in-Err g c =
    let next = some-unless (next_block c.pad-next.new.self 18446744073709551615) (λ none. not-both c.write_next.result (wrote None) c.in-Err.fault (c.write_next.ensures.nothing none).0 c.in-Err.is) in
    subst (λ (r : RingState). IsStore (g.D.Disk.seen c.write_next.new.disk) c.self.inside.from c.self.inside.session r c.write_next.new.pool) (sym c.in-Err.ensures.fault.0)
    (subst (IsStore (g.D.Disk.seen c.write_next.new.disk) c.self.inside.from c.self.inside.session c.pad-next.new.self) (sym c.in-Err.ensures.fault.1)
    (store-tried (store-padded c.self.invariant c.pad-next.new.self c.pad-next.new.pool c.pad-next.ensures.padded c.pad-next.ensures.kept c.pad-next.ensures.out c.pad-next.ensures.queue)
    (g.D.Disk.seen c.write_next.new.disk) (is_ok c.write_next.result) (g.met.D.Disk.told_ok c.self.inside.disk) 18446744073709551615 next.0 next.1 (c.write_next.ensures.first next.0 next.1).made))

pub returns-in-Err-clause-did : goal.returns-in-Err-clause-did
returns-in-Err-clause-did g c =
    let next = some-unless (next_block c.pad-next.new.self 18446744073709551615) (λ none. not-both c.write_next.result (wrote None) c.in-Err.fault (c.write_next.ensures.nothing none).0 c.in-Err.is) in (
      ap (λ (r : RingState). r.queued + begun r.text) (c.in-Err.ensures.fault.0 ∙ c.pad-next.ensures.padded)
          ∙ padded-waits c.self.inside.ring c.self.inside.ring.text refl
          ∙ ap (λ (v : State g.row.D.Denot). v.waiting) c.self.view_is,
      failed-last (store-padded c.self.invariant c.pad-next.new.self c.pad-next.new.pool c.pad-next.ensures.padded c.pad-next.ensures.kept c.pad-next.ensures.out c.pad-next.ensures.queue)
          (g.D.Disk.seen c.write_next.new.disk) (is_ok c.write_next.result) 18446744073709551615 next.0 next.1 (λ s queue e h. (c.write_next.ensures.first s e).made queue h) (ap is_ok c.in-Err.is),
    )

pub returns-in-Err-clause-keeps : goal.returns-in-Err-clause-keeps
returns-in-Err-clause-keeps g c =
    let next = some-unless (next_block c.pad-next.new.self 18446744073709551615) (λ none. not-both c.write_next.result (wrote None) c.in-Err.fault (c.write_next.ensures.nothing none).0 c.in-Err.is) in
    let most = one-at-most (store-padded c.self.invariant c.pad-next.new.self c.pad-next.new.pool c.pad-next.ensures.padded c.pad-next.ensures.kept c.pad-next.ensures.out c.pad-next.ensures.queue)
    (g.D.Disk.seen c.write_next.new.disk) (is_ok c.write_next.result) 18446744073709551615 next.0 next.1 (λ s queue e h. (c.write_next.ensures.first s e).made queue h) in
    let same = ap (λ (r : RingState). r.queued + begun r.text) (c.in-Err.ensures.fault.0 ∙ c.pad-next.ensures.padded) ∙ padded-waits c.self.inside.ring c.self.inside.ring.text refl in
    let same_live = ap live c.in-Err.ensures.fault.0 ∙ c.pad-next.ensures.live in
    subst (λ (v : State g.row.D.Denot). KeepsLive (g.D.Disk.seen v.disk) (g.D.Disk.seen c.write_next.new.disk) v (record { disk = c.write_next.new.disk; from = c.self.inside.from; base = c.self.inside.session.base; txns = txns_of c.self.inside.session.txns; history = c.self.inside.session.history.items; ring = c.write_next.new.self.size; live = live c.write_next.new.self; waiting = c.write_next.new.self.queued + begun c.write_next.new.self.text }) false) c.self.view_is (record {
      mount = record { from = refl; base = refl; txns = refl; ring = c.write_next.ensures.kept.size ∙ c.pad-next.ensures.kept.size };
      live = same_live;
      each = record { each = omega (arith, c.in-Err.ensures.disk.goes.calls, same, same_live); most = omega (arith, most, same, same_live) };
      called = c.in-Err.ensures.disk;
    })
