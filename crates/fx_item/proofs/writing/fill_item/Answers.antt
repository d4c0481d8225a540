use Rattle.fx_item.specs.Item.{key_of, value_of}
use Rattle.fx_item.proofs.Lengths.{short}
use Rattle.fx_item.proofs.writing.fill_item.Goals as goal

pub fill_value-requires-clause-value : goal.fill_value-requires-clause-value
fill_value-requires-clause-value c = short (key_of c.args.item.now.key) (value_of c.args.item.now.value) c.requires.item.value
