use Rattle.fx_record.proofs.Cuts.{cut_records, cut_commits, first_blocks, more_blocks, kept_commits}
use Rattle.fx_record.proofs.laws.cut_records.Goals as goal

pub returns-clause-records : goal.returns-clause-records
returns-clause-records c = cut_records

pub returns-clause-commits : goal.returns-clause-commits
returns-clause-commits c = cut_commits

pub returns-clause-first_blocks : goal.returns-clause-first_blocks
returns-clause-first_blocks c = first_blocks

pub returns-clause-more_blocks : goal.returns-clause-more_blocks
returns-clause-more_blocks c = more_blocks

pub returns-clause-kept : goal.returns-clause-kept
returns-clause-kept c = kept_commits
