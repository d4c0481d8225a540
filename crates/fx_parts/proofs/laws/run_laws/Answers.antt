use Rattle.fx_parts.specs.Live.{MakesNames}
use Rattle.fx_parts.proofs.Frames.{point_between, run_goes_on, run_others, run_sound, run_trees}
use Rattle.fx_parts.proofs.Ended.{run_right}
use Rattle.fx_parts.proofs.Held.{run_keeps}
use Rattle.fx_parts.proofs.Spent.{run_gone, run_kinds}
use Rattle.fx_parts.proofs.laws.run_laws.Goals as goal

pub returns-clause-sound : goal.returns-clause-sound
returns-clause-sound c = run_sound MakesNames

pub returns-clause-goes_on : goal.returns-clause-goes_on
returns-clause-goes_on c = run_goes_on MakesNames

pub returns-clause-others : goal.returns-clause-others
returns-clause-others c = run_others MakesNames

pub returns-clause-trees : goal.returns-clause-trees
returns-clause-trees c = run_trees MakesNames

pub returns-clause-points : goal.returns-clause-points
returns-clause-points c = point_between MakesNames

pub returns-clause-held : goal.returns-clause-held
returns-clause-held c = run_keeps

pub returns-clause-ends : goal.returns-clause-ends
returns-clause-ends c = run_right MakesNames

pub returns-clause-kinds : goal.returns-clause-kinds
returns-clause-kinds c = run_kinds

pub returns-clause-gone : goal.returns-clause-gone
returns-clause-gone c = λ s before t later u node kind sound run rest is gone. run_gone s before t later u node kind sound (run_sound MakesNames s before t sound run) run rest is gone
