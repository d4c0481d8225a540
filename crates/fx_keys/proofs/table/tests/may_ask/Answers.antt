use Rattle.std.proofs.Common.{◌<◌, ◌≡◌, All, Less, ap, sym, ◌∙◌, subst}
use Rattle.fx_item.specs.LockKey.{key_cmp}
use Rattle.fx_keys.specs.Table.{room_of, IsAboveKeysOf}
use Rattle.fx_keys.specs.Seats.{grants_of}
use Rattle.fx_keys.proofs.KeyChecks.{above_from}
use Rattle.fx_keys.proofs.KeyTables.{room_of-table}
use Rattle.fx_keys.proofs.table.tests.may_ask.Goals as goal

pub returns-then-places-gt0-clause-room : goal.returns-then-places-gt0-clause-room
returns-then-places-gt0-clause-room c = λ _.
    let same = c.places.ensures ∙ (ap (λ l. (grants_of l c.args.who).places) c.as_slice.ensures ∙ sym (room_of-table c.table.inside.seats.items c.args.who)) in
    subst (λ t. 0 < room_of t c.args.who) c.table.view_is (subst (λ n. 0 < n) same c.if-places-gt0.true)

pub returns-then-places-gt0-clause-order : goal.returns-then-places-gt0-clause-order
returns-then-places-gt0-clause-order c = λ above.
    subst (λ t. IsAboveKeysOf t c.args.who c.args.key) c.table.view_is
    (above_from c.table.inside.seats.items c.table.invariant.apart c.args.who c.args.key
    (subst (λ l. All (λ h. key_cmp h.key c.args.key ≡ Less) (grants_of l c.args.who).holds) c.as_slice-then-places-gt0.ensures (c.is_above.ensures above)))
