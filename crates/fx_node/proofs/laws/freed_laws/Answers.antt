use Rattle.fx_node.proofs.Freed.{freed_said, frees_ascend, said_freed, still_allocated}
use Rattle.fx_node.proofs.laws.freed_laws.Goals as goal

pub returns-clause-ascend : goal.returns-clause-ascend
returns-clause-ascend c = λ m node portion a p. frees_ascend m node portion p a

pub returns-clause-allocated : goal.returns-clause-allocated
returns-clause-allocated c = λ m n node portion a waits p after device. still_allocated m node portion p n after device waits a

pub returns-clause-freed : goal.returns-clause-freed
returns-clause-freed c = λ m node portion p block. (freed_said m node portion p block, λ q. said_freed m node portion p block q.0 q.1 q.2)
