use Rattle.std.proofs.Common.{subst, sym, ap, ◌∙◌, Ok, Err, set}
use Rattle.fx_item.specs.declared.lock.Mode.TheVariants.{Write, Change}
use Rattle.fx_keys.specs.declared.holdings.Hold.{Hold}
use Rattle.fx_keys.specs.Holdings.{Grants, IsKeyArray, IsRaised, Locates, mode_in}
use Rattle.fx_keys.proofs.HoldArrays.{is_raised, sorted_raised, mode_missing, some_none}
use Rattle.fx_keys.proofs.holdings.Holdings.raise.Goals as goal

pub invariant_of-self : goal.invariant_of-self
invariant_of-self c = record {
  sorted = subst (λ (h : Hold). IsKeyArray (set c.self.inside.holds.items c.in-Ok.at (record { key = h.key; mode = Write }))) (sym c.index_mut.ensures.value)
      (sorted_raised c.self.inside.holds.items c.args.key c.in-Ok.at c.index_mut.result.now Write c.self.invariant.sorted);
  memory = c.self.invariant.memory;
}

pub returns-in-Ok : goal.returns-in-Ok
returns-in-Ok c =
    let at = subst (λ l. Locates l c.args.key (Ok c.in-Ok.at)) c.as_slice.ensures.value c.in-Ok.ensures in
    let items = c.self.inside.holds.items in
    let done = subst (λ (h : Hold). IsRaised (record { holds = items; places = c.self.inside.places }) c.args.key (record { holds = set items c.in-Ok.at (record { key = h.key; mode = Write }); places = c.self.inside.places })) (sym c.index_mut.ensures.value)
    (is_raised items c.args.key c.in-Ok.at c.index_mut.result.now c.self.inside.places c.self.invariant.sorted at) in
    subst (λ g. IsRaised g c.args.key (record { holds = set items c.in-Ok.at (record { key = c.index_mut.result.now.key; mode = Write }); places = c.self.inside.places })) c.self.view_is done

pub returns-in_default : goal.returns-in_default
returns-in_default c =
    let at = subst (λ l. Locates l c.args.key (Err c.in_default.field-0)) c.as_slice.ensures.value c.in_default.ensures in
    absurd (some_none Change (sym c.requires ∙ ap (λ (g : Grants). mode_in g.holds c.args.key) (sym c.self.view_is) ∙ mode_missing c.self.inside.holds.items c.args.key c.in_default.field-0 at))
