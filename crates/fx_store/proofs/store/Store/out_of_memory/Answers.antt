use Rattle.std.proofs.Common.{refl, sym, subst}
use Rattle.fx_history.specs.Outcome.{LineEnd}
use Rattle.fx_history.specs.Transcript.{EndsNext}
use Rattle.fx_store.proofs.store.Store.out_of_memory.Goals as goal

pub returns-clause-ends : goal.returns-clause-ends
returns-clause-ends g c = λ opening task opens no.
    subst (λ (e : LineEnd). EndsNext opening c.args.self.now.base c.args.self.now.history c.args.self.now.history task e.at e.kind) (sym c.new.ensures) (refl, c.number.ensures.number, no)
