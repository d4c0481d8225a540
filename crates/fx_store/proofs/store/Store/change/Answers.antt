use Rattle.std.proofs.Common.{◌∙◌, ◌+◌, ◌++◌, ◌∷◌, [], List, refl, sym, ap, subst}
use Rattle.fx_history.specs.declared.entry.Entry.{Entry}
use Rattle.fx_history.specs.Transcript.{EndsNext}
use Rattle.fx_history.specs.Outcome.{LineEnd}
use Rattle.fx_store.specs.Line.{change_entry, change_task}
use Rattle.fx_store.specs.Mounted.{State, Opens}
use Rattle.fx_store.specs.Session.{items_now}
use Rattle.fx_store.specs.declared.session.Session.{Session}
use Rattle.fx_store.proofs.Ends.{ends-as, ends-commit, ends-full, ends-refused}
use Rattle.fx_store.proofs.Stores.{knows, prepared-done, prepared-length, prepared-undone, store-prepared}
use Rattle.fx_store.proofs.store.Store.change.Goals as goal

pub returns-in-Some-clause-ends : goal.returns-in-Some-clause-ends
returns-in-Some-clause-ends g c = λ opening opens.
    subst (λ (v : State g.row.D.Denot). Opens v.txns opening → EndsNext opening v.base v.history v.history (change_task c.args.change) c.new.result.at c.new.result.kind) c.self.view_is
    (λ o. ends-as opening c.self.inside.session.base c.self.inside.session.history.items c.self.inside.session.history.items c.self.inside.session.history.items (change_task c.args.change) _ _ _ _ refl (ap (λ (e : LineEnd). e.at) c.new.ensures ∙ c.number-at.ensures) (ap (λ (e : LineEnd). e.kind) c.new.ensures)
    (ends-refused c.self.invariant opening o (change_task c.args.change) c.args.change.step refl c.in-Some.refusal (sym c.refusal.ensures ∙ c.in-Some.is)))
    opens

pub prepare-requires-clause-session : goal.prepare-requires-clause-session
prepare-requires-clause-session g c = (items_now c.self.invariant.journal, knows c.self.invariant)

pub invariant_of-self : goal.invariant_of-self
invariant_of-self g c = store-prepared c.self.invariant c.prepare.new.self c.prepare.ensures.noted

pub put-done-requires-clause-some : goal.put-done-requires-clause-some
put-done-requires-clause-some g c = (prepared-length c.self.invariant c.args.change c.prepare.new.self c.prepare.ensures.noted c.in-Ok.commit c.in-Ok.ensures.number c.in-Ok.ensures.ready).0

pub put-done-requires-clause-short : goal.put-done-requires-clause-short
put-done-requires-clause-short g c = (prepared-length c.self.invariant c.args.change c.prepare.new.self c.prepare.ensures.noted c.in-Ok.commit c.in-Ok.ensures.number c.in-Ok.ensures.ready).1

pub invariant_of-self-in-Done : goal.invariant_of-self-in-Done
invariant_of-self-in-Done g c = prepared-done c.self.invariant c.args.change c.prepare.new.self c.prepare.ensures.noted c.in-Ok.commit c.in-Ok.ensures.number c.in-Ok.ensures.ready c.put-done.new.session c.put-done.new.ring c.put-done.new.pool c.in-Done.ensures c.requires.client (sym c.refusal.ensures ∙ c.in_default.is)

pub invariant_of-self-in-Full : goal.invariant_of-self-in-Full
invariant_of-self-in-Full g c = prepared-undone c.self.invariant c.args.change c.prepare.new.self c.prepare.ensures.noted c.in-Ok.commit c.in-Ok.ensures.number c.in-Ok.ensures.ready c.put-done.new.session c.put-done.new.ring c.put-done.new.pool c.in-Full.ensures.0

pub invariant_of-self-in-OutOfMemory : goal.invariant_of-self-in-OutOfMemory
invariant_of-self-in-OutOfMemory g c = prepared-undone c.self.invariant c.args.change c.prepare.new.self c.prepare.ensures.noted c.in-Ok.commit c.in-Ok.ensures.number c.in-Ok.ensures.ready c.put-done.new.session c.put-done.new.ring c.put-done.new.pool c.in-OutOfMemory.ensures

pub returns-in-Full-clause-ends : goal.returns-in-Full-clause-ends
returns-in-Full-clause-ends g c = λ opening opens.
    subst (λ (v : State g.row.D.Denot). Opens v.txns opening → EndsNext opening v.base v.history c.put-done.new.session.history.items (change_task c.args.change) c.new-in-Full.result.at c.new-in-Full.result.kind) c.self.view_is
    (λ o. ends-as opening c.self.inside.session.base c.self.inside.session.history.items c.self.inside.session.history.items c.put-done.new.session.history.items (change_task c.args.change) _ _ _ _ (ap (λ (x : Session). x.history.items) c.in-Full.ensures.0.session ∙ c.prepare.ensures.noted.history) (ap (λ (e : LineEnd). e.at) c.new-in-Full.ensures ∙ c.number-at.ensures) (ap (λ (e : LineEnd). e.kind) c.new-in-Full.ensures)
    (ends-full c.self.invariant opening o (change_task c.args.change) c.args.change.step refl c.requires.changing (sym c.refusal.ensures ∙ c.in_default.is) c.in-Full.full))
    opens

pub returns-in-Done-clause-ends : goal.returns-in-Done-clause-ends
returns-in-Done-clause-ends g c = λ opening opens.
    subst (λ (v : State g.row.D.Denot). Opens v.txns opening → EndsNext opening v.base v.history c.put-done.new.session.history.items (change_task c.args.change) c.new-in-Done.result.at c.new-in-Done.result.kind) c.self.view_is
    (λ o. ends-as opening c.self.inside.session.base c.self.inside.session.history.items c.put-done.new.session.history.items c.put-done.new.session.history.items (change_task c.args.change) _ _ _ _ refl (ap (λ (e : LineEnd). e.at) c.new-in-Done.ensures ∙ ap (λ n. n + 1) c.number-at.ensures) (ap (λ (e : LineEnd). e.kind) c.new-in-Done.ensures)
    (ends-commit c.self.invariant opening o (change_task c.args.change) c.args.change.step refl c.requires.changing (sym c.refusal.ensures ∙ c.in_default.is) (change_entry c.in-Ok.commit.number c.args.change) (ap (λ n. change_entry n c.args.change) c.in-Ok.ensures.number) c.put-done.new.session.history.items (c.in-Done.ensures.history ∙ ap (λ (es : List Entry). es ++ change_entry c.in-Ok.commit.number c.args.change ∷ []) c.prepare.ensures.noted.history)))
    opens
