use Rattle.fx_record.proofs.Commits.{is_record, are_records}
use Rattle.fx_record.proofs.Lengths.{few_commit}
use Rattle.fx_record.proofs.laws.commit_records.Goals as goal

pub returns-clause-record : goal.returns-clause-record
returns-clause-record c = is_record

pub returns-clause-records : goal.returns-clause-records
returns-clause-records c = are_records

pub returns-clause-few : goal.returns-clause-few
returns-clause-few c = few_commit
