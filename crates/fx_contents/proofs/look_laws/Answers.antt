use Rattle.fx_contents.proofs.LookedUp.{one_more_list, same_map}
use Rattle.fx_contents.proofs.look_laws.Goals as goal

pub returns-clause-map : goal.returns-clause-map
returns-clause-map c = same_map

pub returns-clause-after : goal.returns-clause-after
returns-clause-after c = one_more_list
