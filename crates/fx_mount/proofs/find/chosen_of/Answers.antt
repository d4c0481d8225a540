use Rattle.std.proofs.Common.{subst}
use Rattle.std.specs.Prelude.{Result, Ok, Err}
use Rattle.fx_super.specs.declared.superblock.Super.{Super}
use Rattle.fx_super.specs.declared.decode.SuperFault.{SuperFault}
use Rattle.fx_super.specs.Super.{Decoded}
use Rattle.fx_mount.specs.Found.{AreSlots, first_slot, second_slot}
use Rattle.fx_mount.proofs.Finding.{first-alone, second-alone}
use Rattle.fx_mount.proofs.find.chosen_of.Goals as goal

pub returns-in-Ok-Err-clause-chosen : goal.returns-in-Ok-Err-clause-chosen
returns-in-Ok-Err-clause-chosen c image s =
    first-alone image c.in-Ok-Err.sup c.in-Ok-Err.field-0-1 (subst (λ (y : Result Super SuperFault). AreSlots image (Ok c.in-Ok-Err.sup) y) c.in-Ok-Err.is-1
    (subst (λ (x : Result Super SuperFault). AreSlots image x c.args.second) c.in-Ok-Err.is-0 s))

pub returns-in-Err-Ok-clause-chosen : goal.returns-in-Err-Ok-clause-chosen
returns-in-Err-Ok-clause-chosen c image s =
    second-alone image c.in-Err-Ok.field-0-0 c.in-Err-Ok.sup (subst (λ (y : Result Super SuperFault). AreSlots image (Err c.in-Err-Ok.field-0-0) y) c.in-Err-Ok.is-1
    (subst (λ (x : Result Super SuperFault). AreSlots image x c.args.second) c.in-Err-Ok.is-0 s))

pub returns-in-Err-Err-clause-refused : goal.returns-in-Err-Err-clause-refused
returns-in-Err-Err-clause-refused c image size two s =
    c.missing.ensures image size two
    (subst (λ (x : Result Super SuperFault). Decoded (first_slot image) x) c.in-Err-Err.is-0 s.first_is)
    (subst (λ (x : Result Super SuperFault). Decoded (second_slot image) x) c.in-Err-Err.is-1 s.second_is)
