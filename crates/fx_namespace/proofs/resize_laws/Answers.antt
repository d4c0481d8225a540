use Rattle.fx_namespace.proofs.Resized.{contents, stands, tree}
use Rattle.fx_namespace.proofs.resize_laws.Goals as goal

pub returns-clause-stands : goal.returns-clause-stands
returns-clause-stands c = λ m n node old new s r. stands r s

pub returns-clause-tree : goal.returns-clause-tree
returns-clause-tree c = λ m n node old new h t r. tree r h t

pub returns-clause-contents : goal.returns-clause-contents
returns-clause-contents c = λ m n node old new g h t path s r b way. contents r s b path way t
