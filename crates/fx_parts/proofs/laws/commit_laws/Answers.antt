use Rattle.fx_parts.proofs.Committing.{commit_spares}
use Rattle.fx_parts.proofs.Leaving.{may_upkeep, tree_kept}
use Rattle.fx_parts.proofs.Readied.{kinds_then, may_commit, tree_then}
use Rattle.fx_parts.proofs.laws.commit_laws.Goals as goal

pub returns-clause-may : goal.returns-clause-may
returns-clause-may c = λ s who part entry items sound is p number unsettled own. may_commit s sound who part is entry items p number unsettled own

pub returns-clause-tree : goal.returns-clause-tree
returns-clause-tree c = λ s who part entry items sound is p number. tree_then s sound who part is entry items p number

pub returns-clause-spares : goal.returns-clause-spares
returns-clause-spares c = commit_spares

pub returns-clause-kinds : goal.returns-clause-kinds
returns-clause-kinds c = λ s who part entry items node kind sound is p e. kinds_then s sound who part is entry items p node kind e

pub returns-clause-upkeep : goal.returns-clause-upkeep
returns-clause-upkeep c = λ s who part entry items sound is p number unsettled nobody none.
    (may_upkeep s sound who part is items p entry number none unsettled nobody, tree_kept s sound who part is items p entry number none)
