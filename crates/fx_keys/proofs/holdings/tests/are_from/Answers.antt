use Rattle.std.proofs.Common.{◌≡◌, ◌≢◌, ◌<◌, not, true, All, Less, length, sym, ap, ◌∙◌, subst, arith, get_or}
use Rattle.std.proofs.lemmas.Bool.{eqb-false}
use Rattle.std.specs.Ordering.{is_lt}
use Rattle.fx_item.specs.LockKey.{key_cmp}
use Rattle.fx_keys.specs.declared.holdings.Hold.{Hold}
use Rattle.fx_keys.specs.Holdings.{Grants}
use Rattle.fx_keys.proofs.KeyChecks.{first_not_below}
use Rattle.fx_keys.proofs.holdings.tests.are_from.Goals as goal

pub returns-else-len-eq0 : goal.returns-else-len-eq0
returns-else-len-eq0 c = λ t.
    let items = c.holdings.inside.holds.items in
    let ne = c.if-len-eq0.false in
    let some : 0 < length items = omega (arith, c.len-len.ensures, ne) in
    let not_less : key_cmp (get_or items 0 c.index.result.now).key c.args.key ≢ Less = λ less.
    let here : key_cmp c.index.result.now.key c.args.key ≡ Less = subst (λ (h : Hold). key_cmp h.key c.args.key ≡ Less) (sym c.index.ensures) less in
    let yes : c.is_lt.result ≡ true = c.is_lt.ensures ∙ ap is_lt (c.cmp.ensures ∙ here) in
    let both : not true ≡ true = ap not (sym yes) ∙ t in
    absurd (cc) in
    subst (λ (g : Grants). All (λ h. key_cmp h.key c.args.key ≢ Less) g.holds) c.holdings.view_is
    (first_not_below items c.args.key c.index.result.now c.holdings.invariant.sorted some not_less)
