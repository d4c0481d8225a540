use Rattle.std.proofs.Common.{◌≡◌, List, ℕ, subst}
use Rattle.std.specs.Prelude.{Ok}
use Rattle.fx_script.specs.Cut.{words_of}
use Rattle.fx_script.specs.Script.{sender_of}
use Rattle.fx_script.proofs.Rules.{is_sent}
use Rattle.fx_script.proofs.Scripts.{right_ascii, sent_right, sent_is}
use Rattle.fx_script.proofs.sent.checked_line.Goals as goal

pub invariant_of-result : goal.invariant_of-result
invariant_of-result c =
    let sent : Ok (c.in-Ok.client, c.in-Ok.words) ≡ sender_of c.args.many (words_of c.args.line.now) =
    subst (λ (words : List (List ℕ)). Ok (c.in-Ok.client, c.in-Ok.words) ≡ sender_of c.args.many words) c.new.ensures c.in-Ok.ensures in
    is_sent c.args.many c.args.line.now c.in-Ok.client c.in-Ok.words (right_ascii c.args.many c.args.number c.args.line.now c.requires) sent
    (sent_right c.args.many c.args.number c.args.line.now c.in-Ok.client c.in-Ok.words c.requires sent)

pub returns : goal.returns
returns c =
    let sent : Ok (c.in-Ok.client, c.in-Ok.words) ≡ sender_of c.args.many (words_of c.args.line.now) =
    subst (λ (words : List (List ℕ)). Ok (c.in-Ok.client, c.in-Ok.words) ≡ sender_of c.args.many words) c.new.ensures c.in-Ok.ensures in
    sent_is c.args.many c.args.number c.args.line.now c.in-Ok.client c.in-Ok.words c.requires sent
