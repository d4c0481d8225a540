-- The program's image as plain data.
use Rattle.fx_item.specs.Item.{items_of}
use Rattle.fx_sound.specs.Image.{PlainImage}
use Rattle.fx_audit.specs.declared.image.Audited.{Audited}

abbrev pub plain_image : Audited → PlainImage
plain_image a = record {
  disk = a.disk;
  ring = a.ring;
  layers = a.layers.now;
  items = items_of a.items.now;
  stream = a.stream;
  drops = a.drops;
  numbers = a.numbers;
}
