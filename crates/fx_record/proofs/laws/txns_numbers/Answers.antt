use Rattle.fx_record.proofs.Counted.{txn_number, txns_are_numbered, txns_numbered, last_of}
use Rattle.fx_record.proofs.Sessions.{count_fits, txns_hold}
use Rattle.fx_record.proofs.laws.txns_numbers.Goals as goal

pub returns-clause-number : goal.returns-clause-number
returns-clause-number c = txn_number

pub returns-clause-numbered : goal.returns-clause-numbered
returns-clause-numbered c = txns_are_numbered

pub returns-clause-follow : goal.returns-clause-follow
returns-clause-follow c = txns_numbered

pub returns-clause-last : goal.returns-clause-last
returns-clause-last c = last_of

pub returns-clause-fits : goal.returns-clause-fits
returns-clause-fits c = count_fits

pub returns-clause-commits : goal.returns-clause-commits
returns-clause-commits c = txns_hold
