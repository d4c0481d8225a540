use Rattle.std.proofs.Common.{true}
use Rattle.fx_disks.proofs.Asking.{write_seen}
use Rattle.fx_disks.proofs.memory.MemDiskDisk.write.Goals as goal

pub returns-then-try_write-clause-written : goal.returns-then-try_write-clause-written
returns-then-try_write-clause-written c =
    write_seen _ _ _ _ _ _ true c.args.self.now.recorded c.requires (record { long = c.told-from; each = λ i lt. c.fits-from i })
    c.args.self.now.few_faults c.if-try_write.ensures
