use Rattle.fx_cuts.proofs.CutPoints.{cut_points}
use Rattle.fx_cuts.proofs.OneImage.{one_image, one_image_shown, chance_wider}
use Rattle.fx_cuts.proofs.PrefixNow.{prefix_cut, up, within}
use Rattle.fx_cuts.proofs.cuts.cuts_in_images.Goals as goal

pub returns-clause-prefix : goal.returns-clause-prefix
returns-clause-prefix g c trees s kept from calls marks bases r store now image left chance base points txns shows cut sound = prefix_cut g.W.ImageReader.means trees s kept from calls marks bases r store now image left base points txns cut chance shows sound

pub returns-clause-between : goal.returns-clause-between
returns-clause-between g c trees s kept from calls marks bases r store now image left base points txns cut k is =
    (up g.W.ImageReader.means trees s kept from calls marks bases r store now image left base points txns cut k is, within g.W.ImageReader.means trees s kept from calls marks bases r store now image left base points txns cut k is)

pub returns-clause-one : goal.returns-clause-one
returns-clause-one g c = one_image g.W.ImageReader.means

pub returns-clause-premise : goal.returns-clause-premise
returns-clause-premise g c = chance_wider g.W.ImageReader.means

pub returns-clause-items : goal.returns-clause-items
returns-clause-items g c s kept from calls marks bases store base points txns cut = cut_points s store.used store.txns_are base points txns cut

pub returns-clause-one_shown : goal.returns-clause-one_shown
returns-clause-one_shown g c = one_image_shown g.W.ImageReader.means
