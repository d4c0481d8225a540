use Rattle.std.proofs.Common.{Option, subst, ◌∙◌}
use Rattle.std.specs.Prelude.{option_map}
use Rattle.fx_item.specs.Item.{item_of}
use Rattle.fx_item.specs.Look.{FindsLive}
use Rattle.fx_item.specs.Place.{file_place}
use Rattle.fx_item.specs.declared.item.Item.{Item}
use Rattle.fx_extent.proofs.Looked.{looked}
use Rattle.fx_extent.proofs.looking.block_of.Goals as goal

pub returns-in-Ok-Some-clause-found : goal.returns-in-Ok-Some-clause-found
returns-in-Ok-Some-clause-found g c =
    c.part_of.ensures ∙ looked (g.L.Look.said c.args.look.now) (item_of c.in-Ok-Some.item) c.args.at.store c.args.at.id c.args.index (subst (λ (o : Option Item). FindsLive (g.L.Look.said c.args.look.now) (file_place c.args.at.store c.args.at.id c.args.index) (option_map item_of o)) c.in-Ok-Some.field-0-is c.in-Ok-Some.ensures.found)
