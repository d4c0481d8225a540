use Rattle.fx_kept.proofs.Opened.{opened_used, opened_held}
use Rattle.fx_kept.proofs.KeptAtMount.{kept_same, kept_cut}
use Rattle.fx_kept.proofs.laws.mounts.Goals as goal

pub returns-clause-uses : goal.returns-clause-uses
returns-clause-uses c = opened_used

pub returns-clause-cells : goal.returns-clause-cells
returns-clause-cells c = opened_held

pub returns-clause-same : goal.returns-clause-same
returns-clause-same c = kept_same

pub returns-clause-cut : goal.returns-clause-cut
returns-clause-cut c = kept_cut
