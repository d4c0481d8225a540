use Rattle.fx_layered.proofs.SoundImages.{sound_there}
use Rattle.fx_layered.proofs.sound_up_to.Goals as goal

pub returns : goal.returns
returns c = record { sound = sound_there }
