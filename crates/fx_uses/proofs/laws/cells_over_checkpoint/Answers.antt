use Rattle.fx_uses.specs.Uses.{Aside}
use Rattle.fx_uses.proofs.CellsKept.{held_use, held_laid, held_layers_flushed, held_switch, held_pin_ended, held_anew}
use Rattle.fx_uses.proofs.laws.cells_over_checkpoint.Goals as goal

pub returns-clause-aside : goal.returns-clause-aside
returns-clause-aside c sum s r at h = held_use sum s r at Aside h tt (λ o. o)

pub returns-clause-laid : goal.returns-clause-laid
returns-clause-laid c = held_laid

pub returns-clause-flushed : goal.returns-clause-flushed
returns-clause-flushed c = held_layers_flushed

pub returns-clause-switch : goal.returns-clause-switch
returns-clause-switch c = held_switch

pub returns-clause-pin_ended : goal.returns-clause-pin_ended
returns-clause-pin_ended c = held_pin_ended

pub returns-clause-anew : goal.returns-clause-anew
returns-clause-anew c = held_anew
