use Rattle.fx_record.proofs.Lengths.{file_len, object_one_len, object_then_child_len, child_then_object_len}
use Rattle.fx_record.proofs.laws.short_records.Goals as goal

pub returns-clause-file : goal.returns-clause-file
returns-clause-file c = file_len

pub returns-clause-object : goal.returns-clause-object
returns-clause-object c = object_one_len

pub returns-clause-object_then_child : goal.returns-clause-object_then_child
returns-clause-object_then_child c = object_then_child_len

pub returns-clause-child_then_object : goal.returns-clause-child_then_object
returns-clause-child_then_object c = child_then_object_len
