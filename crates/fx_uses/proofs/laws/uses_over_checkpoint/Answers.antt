use Rattle.fx_uses.proofs.UsesKept.{used_aside, used_laid, used_layers_flushed, used_switch, used_pin_ended, used_anew}
use Rattle.fx_uses.proofs.laws.uses_over_checkpoint.Goals as goal

pub returns-clause-aside : goal.returns-clause-aside
returns-clause-aside c = used_aside

pub returns-clause-laid : goal.returns-clause-laid
returns-clause-laid c = used_laid

pub returns-clause-flushed : goal.returns-clause-flushed
returns-clause-flushed c = used_layers_flushed

pub returns-clause-switch : goal.returns-clause-switch
returns-clause-switch c = used_switch

pub returns-clause-pin_ended : goal.returns-clause-pin_ended
returns-clause-pin_ended c = used_pin_ended

pub returns-clause-anew : goal.returns-clause-anew
returns-clause-anew c = used_anew
