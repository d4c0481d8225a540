use Rattle.std.proofs.Common.{◌∙◌, true, set}
use Rattle.fx_disk.specs.Steps.{with_flush}
use Rattle.fx_uses.specs.Uses.{bytes_now}
use Rattle.fx_uses.proofs.OtherParts.{parts_aside, parts_laid, parts_flush, leaves_laid_firm, leaves_switched, leaves_pin_ended, leaves_abandoned}
use Rattle.fx_uses.proofs.laws.parts_over_checkpoint.Goals as goal

pub returns-clause-aside : goal.returns-clause-aside
returns-clause-aside c s r at free = parts_aside at s r free

pub returns-clause-laid : goal.returns-clause-laid
returns-clause-laid c s r at sum put ok held aside = parts_laid s r at sum put ok (set r.contents at held) aside

pub returns-clause-flushed : goal.returns-clause-flushed
returns-clause-flushed c s r w b = leaves_laid_firm w (s.uses b) (bytes_now (with_flush r true) b) ∙ parts_flush s r true r.contents w b

pub returns-clause-switch : goal.returns-clause-switch
returns-clause-switch c s stays kept r w b = leaves_switched (stays b) (kept b) w (s.uses b) (bytes_now r b)

pub returns-clause-pin_ended : goal.returns-clause-pin_ended
returns-clause-pin_ended c s kept r w b = leaves_pin_ended (kept b) w (s.uses b) (bytes_now r b)

pub returns-clause-anew : goal.returns-clause-anew
returns-clause-anew c s r w b = leaves_abandoned w (s.uses b) (bytes_now r b)
