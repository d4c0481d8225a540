use Rattle.std.proofs.Common.{◌≡◌, ◌≢◌, All, Less, ap, sym, ◌∙◌, subst, Some}
use Rattle.fx_item.specs.declared.lock.Mode.TheVariants.{Change}
use Rattle.fx_item.specs.LockKey.{key_cmp}
use Rattle.fx_keys.specs.Table.{mode_of, IsNextToRaise}
use Rattle.fx_keys.specs.Holdings.{mode_in}
use Rattle.fx_keys.specs.Seats.{grants_of}
use Rattle.fx_keys.proofs.KeyChecks.{first_from}
use Rattle.fx_keys.proofs.KeyTables.{mode_of-table}
use Rattle.fx_keys.proofs.table.tests.may_raise.Goals as goal

pub returns-then-is_changing-clause-held : goal.returns-then-is_changing-clause-held
returns-then-is_changing-clause-held c = λ _.
    subst (λ t. mode_of t c.args.who c.args.key ≡ Some Change) c.table.view_is
    (mode_of-table c.table.inside.seats.items c.table.invariant.apart c.args.who c.args.key
    ∙ (ap (λ l. mode_in (grants_of l c.args.who).holds c.args.key) (sym c.as_slice.ensures) ∙ c.is_changing.ensures c.if-is_changing.true))

pub returns-then-is_changing-clause-order : goal.returns-then-is_changing-clause-order
returns-then-is_changing-clause-order c = λ first.
    subst (λ t. IsNextToRaise t c.args.who c.args.key) c.table.view_is
    (first_from c.table.inside.seats.items c.table.invariant.apart c.args.who c.args.key
    (subst (λ l. All (λ h. key_cmp h.key c.args.key ≢ Less) (grants_of l c.args.who).holds) c.as_slice-then-is_changing.ensures (c.is_first.ensures first)))
