use Rattle.std.specs.Prelude.{[]}
use Rattle.fx_disk.proofs.Settled.{good-reads, changed-image, changed-value}
use Rattle.fx_disk.proofs.Told.{changed-told, changed-told_write, good-told_write, changed-told_flush, settled-told_flush, good-told_flush}
use Rattle.fx_disk.proofs.laws.changed_block.Goals as goal

pub returns-clause-begin : goal.returns-clause-begin
returns-clause-begin c = changed-told

pub returns-clause-write : goal.returns-clause-write
returns-clause-write c before after base at values bytes ok w =
    changed-told_write before.told after.told before.calls after.calls after.last_made base at values bytes ok before.size before.calls w.made

pub returns-clause-good_write : goal.returns-clause-good_write
returns-clause-good_write c before after at bytes w =
    good-told_write before.told after.told before.calls after.calls after.last_made at bytes w.made

pub returns-clause-flush : goal.returns-clause-flush
returns-clause-flush c before after base at values ok w =
    changed-told_flush before.told after.told before.calls after.calls after.last_made base at values [] ok w.made

pub returns-clause-good_flush : goal.returns-clause-good_flush
returns-clause-good_flush c before after base at values bytes w =
    settled-told_flush before.told after.told before.calls after.calls after.last_made base at values bytes w.made

pub returns-clause-good_still : goal.returns-clause-good_still
returns-clause-good_still c before after at bytes w =
    good-told_flush before.told after.told before.calls after.calls after.last_made at bytes w.made

pub returns-clause-reads : goal.returns-clause-reads
returns-clause-reads c = good-reads

pub returns-clause-image : goal.returns-clause-image
returns-clause-image c = λ size calls base at values r image h changed left. changed-image size calls base at values r image h changed left

pub returns-clause-value : goal.returns-clause-value
returns-clause-value c = changed-value
