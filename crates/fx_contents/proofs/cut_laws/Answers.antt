use Rattle.fx_contents.proofs.Truncated.{cut_clear, cut_done}
use Rattle.fx_contents.proofs.SaidCut.{commit_cuts}
use Rattle.fx_contents.proofs.cut_laws.Goals as goal

pub returns-clause-stands : goal.returns-clause-stands
returns-clause-stands c = λ m n f g t u path node size len s clear way w done. cut_done m n f g node size len w t s clear path way u done

pub returns-clause-clear : goal.returns-clause-clear
returns-clause-clear c = λ m n f g node size len within clear w. cut_clear m n f g node size len w within clear

pub returns-clause-commit : goal.returns-clause-commit
returns-clause-commit c = λ m said f g node size len before full q. commit_cuts m said f g node size len q before full
