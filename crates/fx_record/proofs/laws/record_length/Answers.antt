use Rattle.fx_record.proofs.Lengths.{sum_text, few_len}
use Rattle.fx_record.proofs.Steps.{discard_text}
use Rattle.fx_record.proofs.laws.record_length.Goals as goal

pub returns-clause-transaction : goal.returns-clause-transaction
returns-clause-transaction c = sum_text

pub returns-clause-discard : goal.returns-clause-discard
returns-clause-discard c = discard_text

pub returns-clause-few : goal.returns-clause-few
returns-clause-few c = few_len
