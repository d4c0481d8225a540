use Rattle.std.proofs.Common.{subst}
use Rattle.std.specs.Prelude.{IfNone}
use Rattle.fx_sound.specs.Faults.{HasNoBadNode, HasNoUnsoundBlock}
use Rattle.fx_sound.proofs.Judged.{sound_from}
use Rattle.fx_audit.specs.Audited.{plain_image}
use Rattle.fx_audit.proofs.auditing.audit.Goals as goal

pub returns-clause-sound : goal.returns-clause-sound
returns-clause-sound c =
    let image = plain_image c.args.image.now in
    let tree : HasNoBadNode image = subst (λ o. IfNone o (HasNoBadNode (plain_image c.args.image.now))) c.in_default.is c.in_ok-node.ensures.none in
    let blocks : HasNoUnsoundBlock image = subst (λ o. IfNone o (HasNoUnsoundBlock (plain_image c.args.image.now))) c.in_default-2.is c.in_ok-block.ensures.none in
    sound_from (plain_image c.args.image.now) c.requires.standing tree blocks c.in_default-cramped.ensures.none
