use Rattle.std.proofs.Common.{◌≡◌, ◌∷◌, rules}
use Rattle.fx_script.specs.Cut.{cut}
use Rattle.fx_words.proofs.FullScripts.{client_first}
use Rattle.fx_words.proofs.script.first_client.Goals as goal

pub returns-in-Ok : goal.returns-in-Ok
returns-in-Ok c =
    let cuts : cut 32 c.args.text.now ≡ c.in-Some.word.now ∷ c.next.new.self = search rules in
    client_first c.args.text.now c.in-Some.word.now c.next.new.self _ c.in-Ok.client cuts c.in-Ok.ensures c.text_from.ensures
