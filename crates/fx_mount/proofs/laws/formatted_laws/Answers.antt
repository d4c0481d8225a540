use Rattle.fx_mount.proofs.Formed.{formatted_mounts, has_room}
use Rattle.fx_mount.proofs.laws.formatted_laws.Goals as goal

pub returns : goal.returns
returns c = record {
  image = λ size ring calls before after image settled is formatted left.
      (formatted_mounts size ring calls before after settled is formatted image left).image_is;
  mounts = λ size ring calls before after image settled is formatted left.
      formatted_mounts size ring calls before after settled is formatted image left;
  room = has_room;
}
