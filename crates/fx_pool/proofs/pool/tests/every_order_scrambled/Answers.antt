use Rattle.std.proofs.Common.{sym}
use Rattle.fx_pool.proofs.pool.tests.every_order_scrambled.Goals as goal

pub fill-requires-clause-out : goal.fill-requires-clause-out
fill-requires-clause-out g c = c.gives_none.ensures.still_out c.taken-one.result (c.taken-last.ensures.still_out c.taken-one.result (c.taken-two.ensures.still_out c.taken-one.result (c.taken-one.ensures.is_out)))

pub fill-requires-2-clause-out : goal.fill-requires-2-clause-out
fill-requires-2-clause-out g c = c.fill.ensures.still_out c.taken-last.result (c.gives_none.ensures.still_out c.taken-last.result (c.taken-last.ensures.is_out))

pub holds-requires : goal.holds-requires
holds-requires g c = c.fill-2.ensures.still_out c.taken-one.result (c.fill.ensures.still_out c.taken-one.result (c.gives_none.ensures.still_out c.taken-one.result (c.taken-last.ensures.still_out c.taken-one.result (c.taken-two.ensures.still_out c.taken-one.result c.taken-one.ensures.is_out))))

pub holds-requires-2 : goal.holds-requires-2
holds-requires-2 g c = c.fill-2.ensures.still_out c.taken-zero.result (c.fill.ensures.still_out c.taken-zero.result (c.gives_none.ensures.still_out c.taken-zero.result (c.taken-last.ensures.still_out c.taken-zero.result (c.taken-two.ensures.still_out c.taken-zero.result (c.taken-one.ensures.still_out c.taken-zero.result c.taken-zero.ensures.is_out)))))

pub holds-requires-3 : goal.holds-requires-3
holds-requires-3 g c = c.fill-2.ensures.still_out c.taken-two.result (c.fill.ensures.still_out c.taken-two.result (c.gives_none.ensures.still_out c.taken-two.result (c.taken-last.ensures.still_out c.taken-two.result c.taken-two.ensures.is_out)))

pub holds-requires-4 : goal.holds-requires-4
holds-requires-4 g c = c.fill-2.ensures.still_out c.taken-last.result (c.fill.ensures.still_out c.taken-last.result (c.gives_none.ensures.still_out c.taken-last.result c.taken-last.ensures.is_out))

pub bytes-requires : goal.bytes-requires
bytes-requires g c = c.fill-2.ensures.still_out c.taken-two.result (c.fill.ensures.still_out c.taken-two.result (c.gives_none.ensures.still_out c.taken-two.result (c.taken-last.ensures.still_out c.taken-two.result c.taken-two.ensures.is_out)))

pub give-requires : goal.give-requires
give-requires g c = c.fill-2.ensures.still_out c.taken-one.result (c.fill.ensures.still_out c.taken-one.result (c.gives_none.ensures.still_out c.taken-one.result (c.taken-last.ensures.still_out c.taken-one.result (c.taken-two.ensures.still_out c.taken-one.result (c.taken-one.ensures.is_out)))))

pub give-requires-2 : goal.give-requires-2
give-requires-2 g c = c.give.ensures.still_out c.taken-last.result (λ e. c.taken-last.ensures.apart c.taken-one.result (c.taken-two.ensures.still_out c.taken-one.result (c.taken-one.ensures.is_out)) (sym e)) (c.fill-2.ensures.still_out c.taken-last.result (c.fill.ensures.still_out c.taken-last.result (c.gives_none.ensures.still_out c.taken-last.result (c.taken-last.ensures.is_out))))

pub give-requires-3 : goal.give-requires-3
give-requires-3 g c = c.give-2.ensures.still_out c.taken-two.result (c.taken-last.ensures.apart c.taken-two.result (c.taken-two.ensures.is_out)) (c.give.ensures.still_out c.taken-two.result (λ e. c.taken-two.ensures.apart c.taken-one.result (c.taken-one.ensures.is_out) (sym e)) (c.fill-2.ensures.still_out c.taken-two.result (c.fill.ensures.still_out c.taken-two.result (c.gives_none.ensures.still_out c.taken-two.result (c.taken-last.ensures.still_out c.taken-two.result (c.taken-two.ensures.is_out))))))

pub give-requires-4 : goal.give-requires-4
give-requires-4 g c = c.give-3.ensures.still_out c.taken-zero.result (c.taken-two.ensures.apart c.taken-zero.result (c.taken-one.ensures.still_out c.taken-zero.result (c.taken-zero.ensures.is_out))) (c.give-2.ensures.still_out c.taken-zero.result (c.taken-last.ensures.apart c.taken-zero.result (c.taken-two.ensures.still_out c.taken-zero.result (c.taken-one.ensures.still_out c.taken-zero.result (c.taken-zero.ensures.is_out)))) (c.give.ensures.still_out c.taken-zero.result (c.taken-one.ensures.apart c.taken-zero.result (c.taken-zero.ensures.is_out)) (c.fill-2.ensures.still_out c.taken-zero.result (c.fill.ensures.still_out c.taken-zero.result (c.gives_none.ensures.still_out c.taken-zero.result (c.taken-last.ensures.still_out c.taken-zero.result (c.taken-two.ensures.still_out c.taken-zero.result (c.taken-one.ensures.still_out c.taken-zero.result (c.taken-zero.ensures.is_out)))))))))
