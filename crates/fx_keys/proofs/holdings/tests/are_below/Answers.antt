use Rattle.std.proofs.Common.{◌≡◌, ◌+◌, ◌-◌, All, Less, length, sym, ◌∙◌, subst, arith}
use Rattle.fx_item.specs.LockKey.{key_cmp}
use Rattle.fx_keys.specs.declared.holdings.Hold.{Hold}
use Rattle.fx_keys.specs.Holdings.{Grants}
use Rattle.fx_keys.proofs.KeyChecks.{last_below, from_is_lt}
use Rattle.fx_keys.proofs.holdings.tests.are_below.Goals as goal

pub returns-else-len-eq0 : goal.returns-else-len-eq0
returns-else-len-eq0 c = λ t.
    let items = c.holdings.inside.holds.items in
    let last = c.len-len.result - 1 in
    let some = c.if-len-eq0.false in
    let ends : last + 1 ≡ length items = omega (arith, c.len-len.ensures, some) in
    let less : key_cmp c.index.result.now.key c.args.key ≡ Less = sym c.cmp.ensures ∙ from_is_lt c.cmp.result (sym c.is_lt.ensures ∙ t) in
    let there = subst (λ (h : Hold). key_cmp h.key c.args.key ≡ Less) c.index.ensures less in
    subst (λ (g : Grants). All (λ h. key_cmp h.key c.args.key ≡ Less) g.holds) c.holdings.view_is
    (last_below items c.args.key last c.index.result.now c.holdings.invariant.sorted ends there)
