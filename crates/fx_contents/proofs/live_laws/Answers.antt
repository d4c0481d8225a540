use Rattle.fx_contents.proofs.LiveBlocks.{stands_on, clear_on, agree_back, other_block, free_block}
use Rattle.fx_contents.proofs.live_laws.Goals as goal

pub returns-clause-stands : goal.returns-clause-stands
returns-clause-stands c = λ m f g t agree. (stands_on m f g agree t, stands_on m g f (agree_back m f g agree) t)

pub returns-clause-clear : goal.returns-clause-clear
returns-clause-clear c = λ m f g agree. (clear_on m f g agree, clear_on m g f (agree_back m f g agree))

pub returns-clause-other : goal.returns-clause-other
returns-clause-other c = other_block

pub returns-clause-free : goal.returns-clause-free
returns-clause-free c = free_block
