use Rattle.fx_contents.proofs.Marked.{mark_clear, mark_done}
use Rattle.fx_contents.proofs.attribute_laws.Goals as goal

pub returns-clause-stands : goal.returns-clause-stands
returns-clause-stands c = λ m n f t u path node name text s way r done. mark_done m n node name text r f t s path way done.below_root u done

pub returns-clause-clear : goal.returns-clause-clear
returns-clause-clear c = λ m n f node name text clear r. mark_clear m n node name text r f clear
