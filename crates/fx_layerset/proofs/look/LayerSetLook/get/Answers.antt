use Rattle.std.proofs.Common.{rules, ap, ◌∙◌, sym, ◌≡◌, false, option_map}
use Rattle.fx_item.specs.Item.{key_of, value_of}
use Rattle.fx_item.specs.Look.{spoken, is_gone}
use Rattle.fx_layerset.specs.Levels.{newest_first}
use Rattle.fx_layerset.proofs.Spoken.{value_stands}
use Rattle.fx_layerset.proofs.look.LayerSetLook.get.Goals as goal

pub returns-clause-found : goal.returns-clause-found
returns-clause-found g c =
    let alive : is_gone (value_of c.in-Some.value) ≡ false = search rules in
    value_stands (newest_first c.args.self.now.levels) (key_of c.args.key.now) (value_of c.in-Some.value) alive
    (ap (λ o. spoken (option_map value_of o)) (sym c.in-Some.is) ∙ c.in-Ok.ensures.found)
