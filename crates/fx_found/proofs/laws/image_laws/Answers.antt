use Rattle.fx_found.proofs.OneFound.{same_parts, still_holds}
use Rattle.fx_found.proofs.laws.image_laws.Goals as goal

pub returns-clause-one : goal.returns-clause-one
returns-clause-one c size image p q h k = same_parts size image p h q k

pub returns-clause-sound : goal.returns-clause-sound
returns-clause-sound c size image p items fault h are sound k = still_holds size image p h items are sound fault k
