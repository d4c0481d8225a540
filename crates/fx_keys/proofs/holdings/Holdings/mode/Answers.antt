use Rattle.std.proofs.Common.{subst, sym, ap, ◌∙◌, Ok, Err, Some}
use Rattle.fx_keys.specs.declared.holdings.Hold.{Hold}
use Rattle.fx_keys.specs.Holdings.{Grants, Locates, mode_in}
use Rattle.fx_keys.proofs.HoldArrays.{mode_found, mode_missing}
use Rattle.fx_keys.proofs.holdings.Holdings.mode.Goals as goal

pub returns-in-Ok : goal.returns-in-Ok
returns-in-Ok c =
    let at = subst (λ l. Locates l c.args.key (Ok c.in-Ok.at)) c.as_slice.ensures.value c.in-Ok.ensures in
    ap (λ (h : Hold). Some h.mode) c.index.ensures
    ∙ sym (mode_found c.self.inside.holds.items c.args.key c.in-Ok.at c.index.result.now c.self.invariant.sorted at)
    ∙ ap (λ (g : Grants). mode_in g.holds c.args.key) c.self.view_is

pub returns-in-Err : goal.returns-in-Err
returns-in-Err c =
    let at = subst (λ l. Locates l c.args.key (Err c.in-Err.field-0)) c.as_slice.ensures.value c.in-Err.ensures in
    sym (mode_missing c.self.inside.holds.items c.args.key c.in-Err.field-0 at)
    ∙ ap (λ (g : Grants). mode_in g.holds c.args.key) c.self.view_is
