use Rattle.std.proofs.Common.{rules, ℕ, subst}
use Rattle.std.specs.Prelude.{IfSome}
use Rattle.fx_disk.specs.Longer.{BothTell}
use Rattle.fx_disk.specs.Seen.{DiskSeen}
use Rattle.fx_disk.specs.Steps.{IsRecordOf}
use Rattle.fx_mount.specs.Formatted.{IsFormatted}
use Rattle.fx_mount.proofs.Formed.{leaves_root}
use Rattle.fx_mount.proofs.format.mkfs.Goals as goal

pub returns-in-Ok-clause-formatted : goal.returns-in-Ok-clause-formatted
returns-in-Ok-clause-formatted g c =
    let s0 : DiskSeen = g.D.Disk.seen c.args.disk.now in
    let s1 : DiskSeen = g.D.Disk.seen c.lay_out.new.disk in
    let is : IfSome s1.told (IsRecordOf s0.size s1.calls) =
    subst (λ (n : ℕ). IfSome s1.told (IsRecordOf n s1.calls)) c.in-Ok.ensures.each.1.goes.size (g.met.D.Disk.told_ok c.lay_out.new.disk) in
    let formatted : BothTell (IsFormatted s0.size c.args.ring) s0.told s1.told = search rules in
    record {
      made = search rules;
      formats = formatted;
      root = leaves_root s0.size c.args.ring s1.calls s0.told s1.told is formatted;
    }
