use Rattle.fx_core.proofs.Committed.{agreed_after, next_commit}
use Rattle.fx_core.proofs.Written.{written_commit, written_within}
use Rattle.fx_core.proofs.laws.commit_laws.Goals as goal

pub returns-clause-items : goal.returns-clause-items
returns-clause-items c = written_commit

pub returns-clause-within : goal.returns-clause-within
returns-clause-within c = λ s who part entry items id store sound is w i k ids stores. written_within s who part entry items sound is w ids stores id store i k

pub returns-clause-next : goal.returns-clause-next
returns-clause-next c = λ calls s j who entry items sound l h may are few id store. next_commit calls s j sound l h entry items may.1 are few id store

pub returns-clause-logged : goal.returns-clause-logged
returns-clause-logged c = λ calls s j who entry items closed chain text sound l h may id store. agreed_after calls s j sound l h entry items may.1 who may.0.0 may.0.1 closed chain text id store
