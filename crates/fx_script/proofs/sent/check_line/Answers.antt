use Rattle.std.proofs.Common.{◌≡◌, List, ℕ, refl, sym, subst}
use Rattle.std.specs.Prelude.{Result, Ok, IsOk}
use Rattle.fx_script.specs.declared.line.Line.{Line}
use Rattle.fx_script.specs.declared.fault.LineFault.{LineFault}
use Rattle.fx_script.specs.Cut.{words_of}
use Rattle.fx_script.specs.Line.{line_of_words}
use Rattle.fx_script.specs.Script.{sender_of}
use Rattle.fx_script.proofs.Rules.{is_sent}
use Rattle.fx_script.proofs.sent.check_line.Goals as goal

pub invariant_of-result : goal.invariant_of-result
invariant_of-result c =
    let client : ℕ = c.in_ok-client.client in
    let words : List (List ℕ) = c.in_ok-client.words in
    let sent : Ok (client, words) ≡ sender_of c.args.many (words_of c.args.line.now) =
    subst (λ (ws : List (List ℕ)). Ok (client, words) ≡ sender_of c.args.many ws) c.new.ensures c.in_ok-client.ensures in
    let right : IsOk (line_of_words words) =
    subst (λ (ws : List (List ℕ)). IsOk (line_of_words ws)) c.again.ensures (subst (λ (r : Result Line LineFault). IsOk r) c.in_ok-check_words.ensures refl) in
    is_sent c.args.many c.args.line.now client words (sym c.if-not-is_ascii.ensures) sent right
