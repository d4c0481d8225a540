use Rattle.fx_store.proofs.store.Store.exec.Goals as goal

pub returns-then-is_reading-clause-ends : goal.returns-then-is_reading-clause-ends
returns-then-is_reading-clause-ends g c = λ opening opens. c.look.ensures.ends opening c.args.task opens c.in-Single.is

pub returns-in-Sync-clause-ends : goal.returns-in-Sync-clause-ends
returns-in-Sync-clause-ends g c = λ opening opens. c.sync_line.ensures.ends opening c.args.task c.in-Sync.is
