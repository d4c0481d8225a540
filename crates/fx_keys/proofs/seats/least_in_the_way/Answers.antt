use Rattle.std.proofs.Common.{rules, tests, not, ◌==◌, ◌&&◌}
use Rattle.std.proofs.lemmas.Iterator.{YieldsList-from_slice, YieldsList-from_map}
use Rattle.std.proofs.lemmas.Iterator.Consumers.{min_from_yields_List, YieldsList-at, YieldsList-from_filter}
use Rattle.fx_keys.specs.Seats.{blockers, is_blocking}
use Rattle.fx_keys.specs.declared.seats.Seat.{Seat}
use Rattle.fx_keys.proofs.Retained.{least_of}
use Rattle.fx_keys.proofs.seats.least_in_the_way.Goals as goal

pub returns : goal.returns
returns c =
    least_of (blockers c.args.who c.args.key c.args.mode c.args.seats.now) c.min.result
    (min_from_yields_List c.map.result c.min.result c.min.ensures.ran
    (YieldsList-from_map _ (λ (s : Seat). s.who)
    (YieldsList-at c.map.ensures.source
    (YieldsList-from_filter _ (λ (s : Seat). not (s.who == c.args.who) && is_blocking c.args.key c.args.mode s.holdings) (YieldsList-at c.filter.ensures.source (YieldsList-from_slice c.args.seats.now c.iter.ensures.rest)) c.filter.ensures.closure (λ x r q k. search (rules, tests))))
    c.map.ensures.closure (λ x r q k. search rules)))
