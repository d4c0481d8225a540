use Rattle.std.proofs.Common.{subst}
use Rattle.fx_keys.specs.Table.{Leaves}
use Rattle.fx_keys.specs.Seats.{seats_table}
use Rattle.fx_keys.proofs.KeyTables.{left_sound, left_is, left_consistent}
use Rattle.fx_keys.proofs.table.KeyTable.drop_all.Goals as goal

pub invariant_of-self : goal.invariant_of-self
invariant_of-self c =
    left_sound c.self.inside.seats c.forget.new.seats c.args.who c.self.invariant
    (left_is c.self.inside.seats.items c.forget.new.seats.items c.self.invariant.apart c.args.who c.forget.ensures.items)
    c.forget.ensures.items c.forget.ensures.capacity

pub returns-clause-gone : goal.returns-clause-gone
returns-clause-gone c =
    subst (λ t. Leaves t (seats_table c.forget.new.seats.items) c.args.who) c.self.view_is
    (left_is c.self.inside.seats.items c.forget.new.seats.items c.self.invariant.apart c.args.who c.forget.ensures.items)

pub returns-clause-consistent : goal.returns-clause-consistent
returns-clause-consistent c =
    left_consistent (seats_table c.self.inside.seats.items) (seats_table c.forget.new.seats.items) c.args.who
    (left_is c.self.inside.seats.items c.forget.new.seats.items c.self.invariant.apart c.args.who c.forget.ensures.items)
    c.self.invariant.consistent
