use Rattle.std.proofs.Common.{ℕ, ◌≡◌, refl, sym, ◌∙◌, subst, Some, None}
use Rattle.fx_item.specs.declared.lock.Mode.TheVariants.{Change, Write}
use Rattle.fx_keys.specs.Table.{mode_of, Rises, IsLeast, HoldsOff, Reads}
use Rattle.fx_keys.specs.Seats.{seats_table, blockers, IsLeastOf}
use Rattle.fx_keys.proofs.KeyTables.{mode_of-table, least_blocks, none_blocks, least_reads, reads_block, raised_rises, raised_sound, granted_consistent}
use Rattle.fx_keys.proofs.table.KeyTable.raise.Goals as goal

pub returns-in-Some-clause-answer : goal.returns-in-Some-clause-answer
returns-in-Some-clause-answer c =
    let items = c.self.inside.seats.items in
    let least : IsLeastOf (blockers c.args.who c.args.key Write items) (Some c.in-Some.other) = subst (λ l. IsLeastOf (blockers c.args.who c.args.key Write l) (Some c.in-Some.other)) c.as_slice.ensures c.in-Some.ensures in (
      subst (λ t. IsLeast (Reads t c.args.who c.args.key) c.in-Some.other) c.self.view_is
          (least_reads (seats_table items) c.args.who c.args.key c.in-Some.other c.self.invariant.consistent
          (subst (λ t. mode_of t c.args.who c.args.key ≡ Some Change) (sym c.self.view_is) c.requires.held)
          (least_blocks items c.self.invariant.apart c.args.who c.args.key Write c.in-Some.other least)),
      refl,
    )

pub raise-requires : goal.raise-requires
raise-requires c =
    sym (mode_of-table c.self.inside.seats.items c.self.invariant.apart c.args.who c.args.key)
    ∙ subst (λ t. mode_of t c.args.who c.args.key ≡ Some Change) (sym c.self.view_is) c.requires.held

-- what was raised, on the list of numbers
rises : (c : goal.After-raise) → Rises (seats_table c.self.inside.seats.items) (seats_table c.raise.new.seats.items) c.args.who c.args.key
rises c =
    raised_rises c.self.inside.seats.items c.raise.new.seats.items c.self.invariant.apart c.args.who c.args.key
    (subst (λ t. mode_of t c.args.who c.args.key ≡ Some Change) (sym c.self.view_is) c.requires.held)
    c.raise.ensures.items

free : (c : goal.After-raise) (w : ℕ) → ¬ (HoldsOff (seats_table c.self.inside.seats.items) c.args.who c.args.key Write w)
free c w =
    none_blocks c.self.inside.seats.items c.self.invariant.apart c.args.who c.args.key Write
    (subst (λ l. IsLeastOf (blockers c.args.who c.args.key Write l) None) c.as_slice.ensures c.in_default.ensures) w

pub invariant_of-self : goal.invariant_of-self
invariant_of-self c =
    raised_sound c.self.inside.seats c.raise.new.seats c.args.who c.args.key c.self.invariant
    (subst (λ t. mode_of t c.args.who c.args.key ≡ Some Change) (sym c.self.view_is) c.requires.held)
    (rises c) c.raise.ensures.items c.raise.ensures.capacity (free c)

pub returns-clause-answer : goal.returns-clause-answer
returns-clause-answer c = (
  λ w r. free c w (reads_block (seats_table c.self.inside.seats.items) c.args.who c.args.key w (subst (λ t. Reads t c.args.who c.args.key w) (sym c.self.view_is) r)),
  subst (λ t. Rises t (seats_table c.raise.new.seats.items) c.args.who c.args.key) c.self.view_is (rises c),
)

pub returns-clause-consistent : goal.returns-clause-consistent
returns-clause-consistent c =
    granted_consistent (seats_table c.self.inside.seats.items) (seats_table c.raise.new.seats.items) c.args.who c.args.key Write
    c.self.invariant.consistent (free c) (rises c).holds
