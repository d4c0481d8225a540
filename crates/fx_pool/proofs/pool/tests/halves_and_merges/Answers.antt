use Rattle.std.proofs.Common.{sym}
use Rattle.fx_pool.proofs.pool.tests.halves_and_merges.Goals as goal

pub give-requires : goal.give-requires
give-requires g c = c.gives_none-2.ensures.still_out c.taken-one.result (c.taken-four.ensures.still_out c.taken-one.result (c.gives_none.ensures.still_out c.taken-one.result c.taken-one.ensures.is_out))

pub give-requires-2 : goal.give-requires-2
give-requires-2 g c =
    c.give.ensures.still_out c.taken-four.result
    (λ e. c.taken-four.ensures.apart c.taken-one.result (c.gives_none.ensures.still_out c.taken-one.result c.taken-one.ensures.is_out) (sym e))
    (c.gives_none-2.ensures.still_out c.taken-four.result c.taken-four.ensures.is_out)
