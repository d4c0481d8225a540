use Rattle.fx_kept.proofs.NamedImages.{named_image, named_apart}
use Rattle.fx_kept.proofs.layers.layers_in_images.Goals as goal

pub returns-clause-says : goal.returns-clause-says
returns-clause-says g c reads = named_image g.L.LayerMeaning.means reads

pub returns-clause-apart : goal.returns-clause-apart
returns-clause-apart g c = named_apart g.L.LayerMeaning.means
