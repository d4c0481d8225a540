use Rattle.std.proofs.Common.{◌∙◌, ap, sym}
use Rattle.std.specs.Prelude.{option_map}
use Rattle.fx_item.specs.Item.{value_of}
use Rattle.fx_node.proofs.tests.next_portion.Goals as goal

pub reap_plan-requires : goal.reap_plan-requires
reap_plan-requires c = (value_of c.in-Some.field-0, sym c.in_ok-get.ensures.found ∙ ap (option_map value_of) c.in-Some.is)
