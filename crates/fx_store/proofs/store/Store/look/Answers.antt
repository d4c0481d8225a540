use Rattle.std.proofs.Common.{refl, ap, subst}
use Rattle.fx_history.specs.Transcript.{EndsNext}
use Rattle.fx_store.specs.Mounted.{State, Opens}
use Rattle.fx_store.specs.declared.session.Session.{Session}
use Rattle.fx_store.proofs.Ends.{ends-as, ends-look}
use Rattle.fx_store.proofs.store.Store.look.Goals as goal

pub returns-clause-ends : goal.returns-clause-ends
returns-clause-ends g c = λ opening task opens line.
    let s : Session = c.self.inside.session in
    subst (λ (v : State g.row.D.Denot). Opens v.txns opening → EndsNext opening v.base v.history c.look.new.self.history.items task c.look.result.at c.look.result.kind) c.self.view_is
    (λ o. ends-as opening s.base s.history.items s.history.items _ task _ _ _ _ (ap (λ (x : Session). x.history.items) c.look.ensures.same) c.look.ensures.at refl
    (ends-look c.self.invariant opening o task c.args.step.now line c.requires.reading c.look.result.kind c.look.ensures.ends))
    opens
