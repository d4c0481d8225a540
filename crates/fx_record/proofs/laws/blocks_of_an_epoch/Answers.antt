use Rattle.fx_record.proofs.Epochs.{are_of, bytes_are, as_texts, before_next}
use Rattle.fx_record.proofs.laws.blocks_of_an_epoch.Goals as goal

pub returns-clause-epoch : goal.returns-clause-epoch
returns-clause-epoch c = are_of

pub returns-clause-bytes : goal.returns-clause-bytes
returns-clause-bytes c = bytes_are

pub returns-clause-texts : goal.returns-clause-texts
returns-clause-texts c = as_texts

pub returns-clause-before : goal.returns-clause-before
returns-clause-before c = before_next
