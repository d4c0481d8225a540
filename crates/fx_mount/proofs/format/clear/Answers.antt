use Rattle.std.proofs.Common.{◌≡◌, ℕ, ◌+◌, refl, subst, arith, List, true}
use Rattle.fx_base.specs.Blocks.{zero_bytes}
use Rattle.fx_disk.specs.Seen.{DiskSeen, HasWritten}
use Rattle.fx_disk.specs.Steps.{Writes}
use Rattle.fx_disk.proofs.Frames.{called_same, called_then, write_called}
use Rattle.fx_disk.proofs.Made.{good-made, good-counted}
use Rattle.fx_mount.proofs.Laying.{both-begun, both-zeros}
use Rattle.fx_mount.proofs.format.clear.Goals as goal

pub loop-at-init : goal.loop-at-init
loop-at-init g c = record { calls = refl; called = called_same (g.D.Disk.seen c.args.disk.now); laid = both-begun (g.D.Disk.seen c.args.disk.now).told }

pub loop-at-preserved : goal.loop-at-preserved
loop-at-preserved g c =
    let first : DiskSeen = g.D.Disk.seen c.args.disk.now in
    let mid : DiskSeen = g.D.Disk.seen c.loop-at.disk in
    let after : DiskSeen = g.D.Disk.seen c.write.new.self in
    let at : ℕ = c.loop-at.at in
    let w : HasWritten mid after at zero_bytes true = subst (λ (x : List ℕ). HasWritten mid after at x true) c.zero_block-zeros.ensures c.in_ok-write.ensures.written in
    let counted : after.calls ≡ mid.calls + 1 = good-counted mid.calls after.calls after.last_made (Writes mid.told after.told at zero_bytes true) (after.told ≡ mid.told) w.made in
    record {
      calls = omega (arith, c.loop-at.invariant.calls, counted);
      called = called_then first mid after true c.loop-at.invariant.called (write_called mid after at zero_bytes true w);
      laid = both-zeros mid.size mid.calls first.told mid.told after.told at (g.met.D.Disk.told_ok c.loop-at.disk)
          (omega (arith, c.loop-at.auto.at)) (omega (arith, c.loop-at.invariant.called.goes.size, c.requires.room, c.loop-at.auto.at))
          (good-made mid.calls after.calls after.last_made (Writes mid.told after.told at zero_bytes true) (after.told ≡ mid.told) w.made) c.loop-at.invariant.laid;
    }
