use Rattle.fx_extent.proofs.Chains.{says_append}
use Rattle.fx_extent.proofs.Filed.{inside_edge, items_said, says_cut, says_write}
use Rattle.fx_extent.proofs.laws.file_laws.Goals as goal

pub returns-clause-said : goal.returns-clause-said
returns-clause-said c = λ node len from to blocks taken freed extents allocations e a p. items_said node len from to blocks taken freed extents allocations e a p

pub returns-clause-write : goal.returns-clause-write
returns-clause-write c = says_write

pub returns-clause-cut : goal.returns-clause-cut
returns-clause-cut c = λ said sum m f g node size len staged taken freed within before cut is stored same. says_cut said sum m f g node size len staged taken freed within before cut is stored same

pub returns-clause-inside : goal.returns-clause-inside
returns-clause-inside c = inside_edge

pub returns-clause-joined : goal.returns-clause-joined
returns-clause-joined c = says_append
