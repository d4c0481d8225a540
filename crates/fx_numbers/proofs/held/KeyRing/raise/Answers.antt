use Rattle.std.proofs.Common.{subst, sym, ap, ◌∙◌, Ok, Err, set}
use Rattle.fx_numbers.specs.declared.held.HeldKey.{HeldKey}
use Rattle.fx_numbers.specs.Held.{AreHeldInOrder, FindsHeld, KeyGrants, grants_held, raised_in}
use Rattle.fx_numbers.proofs.HeldLists.{not_raised, raised_grants, raised_sorted, write_held}
use Rattle.fx_numbers.proofs.held.KeyRing.raise.Goals as goal

pub invariant_of-self : goal.invariant_of-self
invariant_of-self c = record {
  sorted = subst (λ (h : HeldKey). AreHeldInOrder (set c.self.inside.held.items c.in-Ok.at (write_held h))) (sym c.index_mut.ensures.value)
      (raised_sorted c.self.inside.held.items c.in-Ok.at c.index_mut.result.now c.self.invariant.sorted);
  memory = c.self.invariant.memory;
}

pub returns-in-Ok : goal.returns-in-Ok
returns-in-Ok c =
    let at = subst (λ l. FindsHeld l c.args.key (Ok c.in-Ok.at)) c.as_slice.ensures.value c.in-Ok.ensures in
    let items = c.self.inside.held.items in
    ap (λ z. let w : KeyGrants = record { grants = z; room = c.self.inside.room } in w)
    (ap (λ (h : HeldKey). grants_held (set items c.in-Ok.at (write_held h))) c.index_mut.ensures.value
    ∙ raised_grants items c.args.key c.in-Ok.at c.index_mut.result.now c.self.invariant.sorted at)
    ∙ ap (λ (g : KeyGrants). let w : KeyGrants = record { grants = raised_in c.args.key g.grants; room = g.room } in w) c.self.view_is

pub returns-in_default : goal.returns-in_default
returns-in_default c =
    let at = subst (λ l. FindsHeld l c.args.key (Err c.in_default.field-0)) c.as_slice.ensures.value c.in_default.ensures in
    sym c.self.view_is
    ∙ sym (ap (λ z. let w : KeyGrants = record { grants = z; room = c.self.inside.room } in w) (not_raised c.self.inside.held.items c.args.key c.in_default.field-0 at))
    ∙ ap (λ (g : KeyGrants). let w : KeyGrants = record { grants = raised_in c.args.key g.grants; room = g.room } in w) c.self.view_is
