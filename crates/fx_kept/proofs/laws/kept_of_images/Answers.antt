use Rattle.std.proofs.Common.{map}
use Rattle.fx_uses.specs.Live.{txn_of}
use Rattle.fx_kept.specs.Kept.{sum_found, none_live}
use Rattle.fx_kept.proofs.KeptExists.{kept_exists, kept_one}
use Rattle.fx_kept.proofs.AnyFirst.{outside_without}
use Rattle.fx_kept.proofs.FoldedTxns.{txns_follow_on}
use Rattle.fx_kept.proofs.laws.kept_of_images.Goals as goal

pub returns-clause-exists : goal.returns-clause-exists
returns-clause-exists c sum first_data image base blocks txns h = kept_exists (sum_found sum first_data image) base none_live (map txn_of txns) (txns_follow_on base blocks txns h)

pub returns-clause-one : goal.returns-clause-one
returns-clause-one c sum first_data image base txns = kept_one (sum_found sum first_data image) base none_live (map txn_of txns)

pub returns-clause-numbered : goal.returns-clause-numbered
returns-clause-numbered c = txns_follow_on

pub returns-clause-outside : goal.returns-clause-outside
returns-clause-outside c = outside_without
