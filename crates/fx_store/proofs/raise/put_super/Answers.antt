use Rattle.std.proofs.Common.{ℕ, ◌∙◌, ap, subst, Bool, true}
use Rattle.std.specs.Prelude.{is_ok}
use Rattle.fx_disk.specs.Seen.{DiskSeen, HasFlushed, HasWritten}
use Rattle.fx_super.specs.Super.{Fields, IsSuper}
use Rattle.fx_super.specs.Chosen.{block_number, other}
use Rattle.fx_log.specs.Chosen.{next_generation}
use Rattle.fx_disk.proofs.Made.{on_ok-from}
use Rattle.fx_store.specs.Opening.{HasRaised, TellsChosen}
use Rattle.fx_store.proofs.NewStores.{is-raised, raises-flushed, raises-written}
use Rattle.fx_store.proofs.raise.put_super.Goals as goal

pub returns-in_err-write-clause-raises : goal.returns-in_err-write-clause-raises
returns-in_err-write-clause-raises g c f next chosen =
    let old : DiskSeen = g.D.Disk.seen c.args.disk.now in
    let mid : DiskSeen = g.D.Disk.seen c.write.new.self in
    raises-written old mid f c.args.chosen c.args.block.now (g.met.D.Disk.told_ok c.args.disk.now) next chosen (is_ok c.write.result)
    (subst (λ (k : ℕ). HasWritten old mid k c.args.block.now (is_ok c.write.result)) (c.block.ensures ∙ ap block_number c.other.ensures) c.write.ensures.written)

pub returns-clause-raises : goal.returns-clause-raises
returns-clause-raises g c f next chosen =
    let old : DiskSeen = g.D.Disk.seen c.args.disk.now in
    let mid : DiskSeen = g.D.Disk.seen c.write.new.self in
    let w : HasWritten old mid (block_number (other c.args.chosen)) c.args.block.now (is_ok c.write.result) =
    subst (λ (k : ℕ). HasWritten old mid k c.args.block.now (is_ok c.write.result)) (c.block.ensures ∙ ap block_number c.other.ensures) c.write.ensures.written in
    raises-flushed old mid f (g.D.Disk.seen c.flush.new.self) (is_ok c.flush.result)
    (raises-written old mid f c.args.chosen c.args.block.now (g.met.D.Disk.told_ok c.args.disk.now) next chosen (is_ok c.write.result) w)
    c.flush.ensures.flushed

pub returns-clause-next : goal.returns-clause-next
returns-clause-next g c =
    let old : DiskSeen = g.D.Disk.seen c.args.disk.now in
    let mid : DiskSeen = g.D.Disk.seen c.write.new.self in
    let new : DiskSeen = g.D.Disk.seen c.flush.new.self in
    on_ok-from c.flush.result ((f : Fields) → IsSuper c.args.block.now (next_generation f) → TellsChosen old c.args.chosen f → HasRaised old new f (other c.args.chosen))
    (λ e f next chosen. is-raised old mid f c.args.chosen c.args.block.now (g.met.D.Disk.told_ok c.args.disk.now) next chosen new
    (subst (λ (k : ℕ). HasWritten old mid k c.args.block.now true) (c.block.ensures ∙ ap block_number c.other.ensures) c.in_ok-write.ensures.written)
    (subst (λ (good : Bool). HasFlushed mid new good) e c.flush.ensures.flushed))
