use Rattle.std.proofs.Common.{◌≡◌, ℕ, ◌+◌, arith, List, true}
use Rattle.std.specs.Prelude.{is_ok}
use Rattle.fx_disk.specs.Longer.{BothTell}
use Rattle.fx_disk.specs.Seen.{DiskSeen}
use Rattle.fx_disk.specs.Steps.{Writes, Flushes}
use Rattle.fx_disk.proofs.Made.{good-made, flush-made, on_ok-from}
use Rattle.fx_mount.specs.Formatted.{IsLaidOut}
use Rattle.fx_mount.specs.Laying.{IsLaid, KeepsFirst}
use Rattle.fx_mount.proofs.Calls.{laid-out}
use Rattle.fx_mount.proofs.Laying.{both-first, both-flush, both-out}
use Rattle.fx_mount.proofs.format.lay_out.Goals as goal

pub returns-clause-each : goal.returns-clause-each
returns-clause-each g c =
    laid-out (c.args.ring + 1) (c.args.ring + 4) (g.D.Disk.seen c.args.disk.now) (g.D.Disk.seen c.clear.new.disk) (g.D.Disk.seen c.flush.new.self) (g.D.Disk.seen c.write.new.self) (g.D.Disk.seen c.flush-2.new.self)
    0 c.args.first.now (is_ok c.flush-2.result) (omega arith) c.in_ok-clear.ensures.each c.in_ok-flush.ensures.flushed c.in_ok-write.ensures.written c.flush-2.ensures.flushed

pub returns-clause-laid : goal.returns-clause-laid
returns-clause-laid g c =
    let s0 : DiskSeen = g.D.Disk.seen c.args.disk.now in
    let s1 : DiskSeen = g.D.Disk.seen c.clear.new.disk in
    let s2 : DiskSeen = g.D.Disk.seen c.flush.new.self in
    let s3 : DiskSeen = g.D.Disk.seen c.write.new.self in
    let s4 : DiskSeen = g.D.Disk.seen c.flush-2.new.self in
    let first : List ℕ = c.args.first.now in
    let end : ℕ = c.args.ring + 2 in
    let cleared : BothTell (KeepsFirst end) s0.told s2.told =
    both-flush end s0.told s1.told s2.told (good-made s1.calls s2.calls s2.last_made (Flushes s1.told s2.told true) (s2.told ≡ s1.told) c.in_ok-flush.ensures.flushed.made) c.in_ok-clear.ensures.laid in
    let laid : BothTell (IsLaid end first) s0.told s3.told =
    both-first s2.size s2.calls end s0.told s2.told s3.told first (g.met.D.Disk.told_ok c.flush.new.self) (omega arith)
    (omega (arith, c.flush.ensures.flushed.size, c.in_ok-clear.ensures.each.1.goes.size, c.requires.room))
    (good-made s2.calls s3.calls s3.last_made (Writes s2.told s3.told 0 first true) (s3.told ≡ s2.told) c.in_ok-write.ensures.written.made) cleared in
    on_ok-from c.flush-2.result (BothTell (IsLaidOut c.args.ring first) s0.told s4.told)
    (λ e. both-out c.args.ring first s0.told s3.told s4.told
    (flush-made s3.told s4.told s3.calls s4.calls s4.last_made (is_ok c.flush-2.result) e c.flush-2.ensures.flushed.made) laid)
