use Rattle.fx_item.specs.Item.{key_of, value_of}
use Rattle.fx_item.proofs.Lengths.{short}
use Rattle.fx_item.proofs.writing.encoded_len.Goals as goal

pub value_len-requires : goal.value_len-requires
value_len-requires c = short (key_of c.args.item.now.key) (value_of c.args.item.now.value) c.requires.value
