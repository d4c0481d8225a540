use Rattle.std.proofs.Common.{ℕ, ◌<◌, refl, sym, subst, Some, None}
use Rattle.fx_keys.specs.Table.{IsAboveKeysOf, room_of, Gains, IsLeast, HoldsOff}
use Rattle.fx_keys.specs.Seats.{seats_table, blockers, IsLeastOf}
use Rattle.fx_keys.proofs.KeyTables.{room_of-table, above_all, least_blocks, none_blocks, asked_gains, asked_sound, granted_consistent}
use Rattle.fx_keys.proofs.table.KeyTable.ask.Goals as goal

pub returns-in-Some-clause-answer : goal.returns-in-Some-clause-answer
returns-in-Some-clause-answer c =
    let least : IsLeastOf (blockers c.args.who c.args.key c.args.mode c.self.inside.seats.items) (Some c.in-Some.other) = subst (λ l. IsLeastOf (blockers c.args.who c.args.key c.args.mode l) (Some c.in-Some.other)) c.as_slice.ensures c.in-Some.ensures in (
      subst (λ t. IsLeast (HoldsOff t c.args.who c.args.key c.args.mode) c.in-Some.other) c.self.view_is (least_blocks c.self.inside.seats.items c.self.invariant.apart c.args.who c.args.key c.args.mode c.in-Some.other least),
      refl,
    )

pub grant-requires-clause-place : goal.grant-requires-clause-place
grant-requires-clause-place c =
    subst (λ n. 0 < n) (room_of-table c.self.inside.seats.items c.args.who) (subst (λ t. 0 < room_of t c.args.who) (sym c.self.view_is) c.requires.room)

pub grant-requires-clause-above : goal.grant-requires-clause-above
grant-requires-clause-above c =
    above_all c.self.inside.seats.items c.self.invariant.apart c.args.who c.args.key (subst (λ t. IsAboveKeysOf t c.args.who c.args.key) (sym c.self.view_is) c.requires.order)

-- what was granted, on the list of numbers
gains : (c : goal.After-grant) → Gains (seats_table c.self.inside.seats.items) (seats_table c.grant.new.seats.items) c.args.who c.args.key c.args.mode
gains c =
    asked_gains c.self.inside.seats.items c.grant.new.seats.items c.self.invariant.apart c.args.who c.args.key c.args.mode
    (subst (λ t. 0 < room_of t c.args.who) (sym c.self.view_is) c.requires.room)
    (subst (λ t. IsAboveKeysOf t c.args.who c.args.key) (sym c.self.view_is) c.requires.order)
    c.grant.ensures.items

free : (c : goal.After-grant) (w : ℕ) → ¬ (HoldsOff (seats_table c.self.inside.seats.items) c.args.who c.args.key c.args.mode w)
free c w =
    none_blocks c.self.inside.seats.items c.self.invariant.apart c.args.who c.args.key c.args.mode
    (subst (λ l. IsLeastOf (blockers c.args.who c.args.key c.args.mode l) None) c.as_slice.ensures c.in_default.ensures) w

pub invariant_of-self : goal.invariant_of-self
invariant_of-self c =
    asked_sound c.self.inside.seats c.grant.new.seats c.args.who c.args.key c.args.mode c.self.invariant
    (subst (λ t. 0 < room_of t c.args.who) (sym c.self.view_is) c.requires.room)
    (gains c) c.grant.ensures.items c.grant.ensures.capacity (free c)

pub returns-clause-answer : goal.returns-clause-answer
returns-clause-answer c = (
  λ w b. free c w (subst (λ t. HoldsOff t c.args.who c.args.key c.args.mode w) (sym c.self.view_is) b),
  subst (λ t. Gains t (seats_table c.grant.new.seats.items) c.args.who c.args.key c.args.mode) c.self.view_is (gains c),
)

pub returns-clause-consistent : goal.returns-clause-consistent
returns-clause-consistent c =
    granted_consistent (seats_table c.self.inside.seats.items) (seats_table c.grant.new.seats.items) c.args.who c.args.key c.args.mode
    c.self.invariant.consistent (free c) (gains c).holds
