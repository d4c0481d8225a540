use Rattle.fx_shown.proofs.StateKept.{above-finished, above-moved, above-put, base-bounds, bases-moved, later-now, state-finished, state-moved, state-put}
use Rattle.fx_shown.proofs.TxnsKept.{bases-finished, bases-put, txns-finished, txns-put}
use Rattle.std.proofs.Common.{arith}
use Rattle.fx_supers.specs.SessionLog.{finished_session}
use Rattle.fx_cuts.specs.Joined.{with_based}
use Rattle.fx_shown.proofs.state_over_supers.Goals as goal

pub returns-clause-put : goal.returns-clause-put
returns-clause-put c = λ s log t marks cut ok h new comes. record {
  has = txns-put log t h.has cut ok;
  state = state-put s log t marks h.state cut ok;
  bases = bases-put s log t cut ok h.bases new;
  above = above-put s log t marks cut ok h new comes;
}

pub returns-clause-finished : goal.returns-clause-finished
returns-clause-finished c = λ s log t marks cut h is coming. record {
  has = txns-finished log t h.has cut;
  state = (let state = state-finished s log t marks h.state is cut in record { base = state.base; txns = state.txns; few = state.few; settled = state.settled; stand = state.stand });
  bases = bases-moved s (with_based s cut.super.base) (finished_session log cut) t (bases-finished s log t cut h.bases coming) (omega arith);
  above = above-finished s log cut;
}

pub returns-clause-moved : goal.returns-clause-moved
returns-clause-moved c = λ s later log t marks h goes settled. record {
  has = h.has;
  state = state-moved s later log t marks h.state goes.base goes.txns settled;
  bases = bases-moved s later log t h.bases goes.firm;
  above = above-moved s later log h.above goes.based;
}

pub returns-clause-later : goal.returns-clause-later
returns-clause-later c = λ s log t cut has none origin base firm. later-now s log t cut has none origin base firm

pub returns-clause-bounds : goal.returns-clause-bounds
returns-clause-bounds c = base-bounds
