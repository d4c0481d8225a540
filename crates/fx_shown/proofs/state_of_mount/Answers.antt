use Rattle.fx_shown.proofs.StateKept.{above-found, bases-flushed, state-found, state-settled}
use Rattle.fx_shown.proofs.TxnsKept.{bases-found, txns-dropped, txns-flushed, txns-found}
use Rattle.fx_shown.specs.LogTxns.{found_txns}
use Rattle.fx_shown.proofs.state_of_mount.Goals as goal

pub returns-clause-found : goal.returns-clause-found
returns-clause-found c = λ s size from head slot txns fits base settled low. record {
  has = txns-found size from head slot s.txns txns fits;
  state = state-found s size from head slot base settled;
  bases = bases-found s size from head slot (found_txns s.txns);
  above = above-found s size from head slot low;
}

pub returns-clause-dropped : goal.returns-clause-dropped
returns-clause-dropped c = txns-dropped

pub returns-clause-settled : goal.returns-clause-settled
returns-clause-settled c = λ s log t has bases above out base txns settled. record {
  has = txns-flushed log t has;
  state = state-settled s log t has out base txns settled;
  bases = bases-flushed s log t bases;
  above = λ cut one. above cut one;
}
