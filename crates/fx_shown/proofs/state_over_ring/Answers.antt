use Rattle.std.proofs.Common.{◌+◌, ◌∙◌, arith}
use Rattle.fx_shown.proofs.StateKept.{above-moved, bases-closed, bases-committed, bases-flushed, bases-moved, bases-written, state-closed, state-committed, state-flushed, state-settled, state-written}
use Rattle.fx_shown.proofs.TxnsKept.{txns-closed, txns-committed, txns-flushed, txns-written}
use Rattle.fx_shown.specs.LogTxns.{newest_commit}
use Rattle.fx_cuts.specs.Joined.{with_entry}
use Rattle.fx_shown.proofs.state_over_ring.Goals as goal

pub returns-clause-committed : goal.returns-clause-committed
returns-clause-committed c = λ s log t marks who items closed chain text h is commit fits appended. record {
  has = txns-committed log t h.has items closed chain text commit fits appended;
  state = state-committed s log t marks h.state is who items closed chain text;
  bases = bases-committed s (with_entry s who (newest_commit log.head.super.base t + 1) items) log t h.bases (omega arith) items closed chain text;
  above = λ cut one. h.above cut one;
}

pub returns-clause-closed : goal.returns-clause-closed
returns-clause-closed c = λ s log t marks closed chain text h is appended. record {
  has = txns-closed log t h.has closed chain text appended;
  state = state-closed s log t marks h.state is closed chain text;
  bases = bases-closed s log t h.bases closed chain text;
  above = λ cut one. h.above cut one;
}

pub returns-clause-written : goal.returns-clause-written
returns-clause-written c = λ s log t marks h. record {
  has = txns-written log t h.has;
  state = state-written s log t marks h.state;
  bases = bases-written s log t h.bases;
  above = λ cut one. h.above cut one;
}

pub returns-clause-flushed : goal.returns-clause-flushed
returns-clause-flushed c = λ s log t marks h is. record {
  has = txns-flushed log t h.has;
  state = state-flushed s log t marks h.state is;
  bases = bases-flushed s log t h.bases;
  above = λ cut one. h.above cut one;
}

pub returns-clause-settled : goal.returns-clause-settled
returns-clause-settled c = λ s later log t marks h out goes settled. record {
  has = txns-flushed log t h.has;
  state = state-settled later log t h.has out (goes.base ∙ h.state.base) (goes.txns ∙ h.state.txns) settled;
  bases = bases-flushed later log t (bases-moved s later log t h.bases goes.firm);
  above = above-moved s later log h.above goes.based;
}
