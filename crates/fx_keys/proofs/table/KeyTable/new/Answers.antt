use Rattle.fx_keys.proofs.KeyTables.{new_sound, new_consistent}
use Rattle.fx_keys.proofs.table.KeyTable.new.Goals as goal

pub invariant_of-result : goal.invariant_of-result
invariant_of-result c = new_sound c.new.result c.new.ensures.items c.new.ensures.capacity

pub returns-clause-consistent : goal.returns-clause-consistent
returns-clause-consistent c = new_consistent c.new.result.items c.new.ensures.items
