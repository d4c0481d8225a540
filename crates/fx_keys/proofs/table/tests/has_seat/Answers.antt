use Rattle.std.proofs.Common.{◌<◌, length, subst, arith, ltb-true}
use Rattle.fx_keys.specs.Table.{HasSeatFor}
use Rattle.fx_keys.proofs.KeyChecks.{seat_from}
use Rattle.fx_keys.proofs.table.tests.has_seat.Goals as goal

pub returns : goal.returns
returns c = λ less who.
    let few = ltb-true c.len.result 32 less in
    let short : length c.table.inside.seats.items < 32 = omega (arith, c.len.ensures.value) in
    subst (λ t. HasSeatFor t who) c.table.view_is (seat_from c.table.inside.seats c.table.invariant short who)
