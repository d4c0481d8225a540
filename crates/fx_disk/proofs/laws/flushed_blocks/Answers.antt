use Rattle.fx_disk.proofs.Cells.{after-good_flush, after-flush_failed, after-failed_flush}
use Rattle.fx_disk.proofs.laws.flushed_blocks.Goals as goal

pub returns-clause-good : goal.returns-clause-good
returns-clause-good c = after-good_flush

pub returns-clause-failed_write : goal.returns-clause-failed_write
returns-clause-failed_write c = after-flush_failed

pub returns-clause-failed_flush : goal.returns-clause-failed_flush
returns-clause-failed_flush c = after-failed_flush
