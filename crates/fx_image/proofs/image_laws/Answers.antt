use Rattle.fx_image.proofs.OneImage.{images_super, images_same}
use Rattle.fx_image.proofs.image_laws.Goals as goal

pub returns-clause-superblock : goal.returns-clause-superblock
returns-clause-superblock c = images_super

pub returns-clause-transactions : goal.returns-clause-transactions
returns-clause-transactions c = λ size image f g xs ys t u a b. (images_same size image f g xs ys t u a b).0

pub returns-clause-tree : goal.returns-clause-tree
returns-clause-tree c = λ size image f g xs ys t u a b. (images_same size image f g xs ys t u a b).1
