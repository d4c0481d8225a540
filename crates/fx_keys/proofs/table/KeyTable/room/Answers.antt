use Rattle.std.proofs.Common.{subst, sym}
use Rattle.std.proofs.lemmas.Result.{on_ok_weaker}
use Rattle.fx_keys.specs.Table.{HasSeatFor, GainsRoom}
use Rattle.fx_keys.specs.Seats.{seats_table}
use Rattle.fx_keys.proofs.KeyTables.{seat_left, room_given, room_sound_always}
use Rattle.fx_keys.proofs.table.KeyTable.room.Goals as goal

pub reserve-requires : goal.reserve-requires
reserve-requires c = seat_left c.self.inside.seats c.args.who c.self.invariant (subst (λ t. HasSeatFor t c.args.who) (sym c.self.view_is) c.requires)

pub invariant_of-self : goal.invariant_of-self
invariant_of-self c =
    room_sound_always c.reserve.result c.self.inside.seats c.reserve.new.seats c.args.who c.args.count c.self.invariant
    (subst (λ t. HasSeatFor t c.args.who) (sym c.self.view_is) c.requires)
    c.reserve.ensures.ok c.reserve.ensures.err c.reserve.ensures.capacity

pub returns-clause-ok : goal.returns-clause-ok
returns-clause-ok c =
    on_ok_weaker c.reserve.result (λ is.
    subst (λ t. GainsRoom t (seats_table c.reserve.new.seats.items) c.args.who c.args.count) c.self.view_is
    (room_given c.self.inside.seats c.reserve.new.seats c.args.who c.args.count c.self.invariant
    (subst (λ t. HasSeatFor t c.args.who) (sym c.self.view_is) c.requires) is c.reserve.ensures.capacity).0)
    c.reserve.ensures.ok

pub returns-clause-consistent : goal.returns-clause-consistent
returns-clause-consistent c =
    (room_sound_always c.reserve.result c.self.inside.seats c.reserve.new.seats c.args.who c.args.count c.self.invariant
    (subst (λ t. HasSeatFor t c.args.who) (sym c.self.view_is) c.requires)
    c.reserve.ensures.ok c.reserve.ensures.err c.reserve.ensures.capacity).consistent
