use Rattle.fx_plain.proofs.Growth.{Grows-do_step, SizesWithin-root, SizesWithin-after, node_count-do_step, node_count-insert, node_count-root}
use Rattle.fx_plain.proofs.plain.size_laws.Goals as goal

pub returns-clause-counted : goal.returns-clause-counted
returns-clause-counted c = node_count-do_step

pub returns-clause-single : goal.returns-clause-single
returns-clause-single c = node_count-root

pub returns-clause-inserted : goal.returns-clause-inserted
returns-clause-inserted c = node_count-insert

pub returns-clause-grows : goal.returns-clause-grows
returns-clause-grows c = Grows-do_step

pub returns-clause-root : goal.returns-clause-root
returns-clause-root c = SizesWithin-root

pub returns-clause-within : goal.returns-clause-within
returns-clause-within c = SizesWithin-after
