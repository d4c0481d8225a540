use Rattle.fx_cuts.proofs.LiveAllocated.{live_is_taken, files_are_live}
use Rattle.fx_cuts.proofs.ToldBlocks.{told_together, told_commit}
use Rattle.fx_cuts.proofs.cuts.live_by_allocations.Goals as goal

pub returns-clause-taken : goal.returns-clause-taken
returns-clause-taken c = live_is_taken

pub returns-clause-files : goal.returns-clause-files
returns-clause-files c = files_are_live

pub returns-clause-told : goal.returns-clause-told
returns-clause-told c = told_together

pub returns-clause-commit : goal.returns-clause-commit
returns-clause-commit c = told_commit
