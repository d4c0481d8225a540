use Rattle.fx_image.specs.Standing.{HasAmpleRoom}
use Rattle.fx_mount.proofs.Taken.{prefix_taken, taken}
use Rattle.fx_mount.proofs.laws.image_laws.Goals as goal

pub returns-clause-taken : goal.returns-clause-taken
returns-clause-taken c size image f txns tree fault is = taken size image f txns tree is fault

pub returns-clause-again : goal.returns-clause-again
returns-clause-again c size f txns tree base history m image fault room p refused = prefix_taken size (HasAmpleRoom f txns) tree base history m image fault p room refused
