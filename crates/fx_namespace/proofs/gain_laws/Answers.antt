use Rattle.fx_namespace.proofs.Gained.{stands, tree, way}
use Rattle.fx_namespace.proofs.gain_laws.Goals as goal

pub returns-clause-stands : goal.returns-clause-stands
returns-clause-stands c = λ m n above parent name node kind value s p g told. stands s p g told

pub returns-clause-way : goal.returns-clause-way
returns-clause-way c = λ m n above parent name node kind value s p g. way s p g

pub returns-clause-tree : goal.returns-clause-tree
returns-clause-tree c = λ m n above parent name node kind value s p g told. tree s p g told
