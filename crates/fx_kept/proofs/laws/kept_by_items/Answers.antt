use Rattle.fx_kept.proofs.VerifyKept.{kept_of_items, items_of_kept}
use Rattle.fx_kept.proofs.laws.kept_by_items.Goals as goal

pub returns-clause-from_items : goal.returns-clause-from_items
returns-clause-from_items c = kept_of_items

pub returns-clause-to_items : goal.returns-clause-to_items
returns-clause-to_items c = items_of_kept
