use Rattle.fx_space_uses.proofs.TableOpened.{called_opened}
use Rattle.fx_space_uses.proofs.laws.table_at_mount.Goals as goal

pub returns : goal.returns
returns c = record { opened = λ blocks ring right base first txns others live layers sizes fits are listed. called_opened blocks ring base first txns others live layers sizes fits are listed }
