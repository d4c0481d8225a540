use Rattle.fx_record.specs.Txns.{txns_of}
use Rattle.std.proofs.Common.{rules, refl, ◌≡◌, None, sym, subst, ap, ◌∙◌}
use Rattle.std.specs.Prelude.{get_or}
use Rattle.fx_numbers.specs.State.{HasUsedPart}
use Rattle.fx_core.specs.Core.{CoreState, IsUnreserved}
use Rattle.fx_core.specs.Inside.{blocks_wanted}
use Rattle.fx_core.proofs.Calls.{HoldsCore, core_reserve, core_still, core_unreserved, core_wants, unreserved_ring, unreserved_tail}
use Rattle.fx_core.proofs.mounted.Core.reserve.Goals as goal

pub invariant_of-self : goal.invariant_of-self
invariant_of-self g c = subst (HoldsCore (g.D.Disk.seen c.self.inside.disk) c.self.inside.from _ _ c.self.inside.numbers) (sym c.in-Err.ensures.refused) c.self.invariant

pub reserve-requires-2-clause-part : goal.reserve-requires-2-clause-part
reserve-requires-2-clause-part g c = subst (λ (v : CoreState g.row.D.Denot). HasUsedPart v.numbers c.args.who (λ part. part.reserved ≡ None)) (sym c.self.view_is) c.requires

pub invariant_of-self-in-Ok-reserve-2 : goal.invariant_of-self-in-Ok-reserve-2
invariant_of-self-in-Ok-reserve-2 g c =
    let used = subst (λ (v : CoreState g.row.D.Denot). HasUsedPart v.numbers c.args.who (λ part. part.reserved ≡ None)) (sym c.self.view_is) c.requires in
    core_reserve c.self.invariant c.args.who c.args.need c.args.bytes used.0 used.1 used.2 c.reserve.new.self c.reserve.ensures.seat c.reserve.ensures.queue c.in_default.ensures.promised c.in_default.ensures.wants (c.can_give.ensures.0 (search rules)).0 (c.can_give.ensures.0 (search rules)).1 c.in-Ok.ensures.step

pub invariant_of-self-in_default-reserve : goal.invariant_of-self-in_default-reserve
invariant_of-self-in_default-reserve g c =
    let used = subst (λ (v : CoreState g.row.D.Denot). HasUsedPart v.numbers c.args.who (λ part. part.reserved ≡ None)) (sym c.self.view_is) c.requires in
    let none : get_or c.self.inside.tail.wants c.args.who 0 ≡ 0 = core_wants c.self.inside.numbers c.self.invariant c.args.who used.0 used.1 ∙ ap blocks_wanted used.2 in
    let lt = c.reserve.ensures.seat in
    core_still (core_unreserved c.self.inside.numbers c.self.invariant c.cancel.new.self (λ queue holds. c.cancel.ensures.queue queue (c.reserve.ensures.queue queue holds))
    (unreserved_ring c.self.inside.tail c.reserve.new.self c.cancel.new.self c.args.who _ lt none c.in_default.ensures.promised c.in_default.ensures.wants c.cancel.ensures.cancelled c.cancel.ensures.wants)
    (unreserved_tail c.self.inside.tail c.reserve.new.self c.cancel.new.self c.args.who _ lt none c.in_default.ensures.promised c.in_default.ensures.wants c.cancel.ensures.cancelled c.cancel.ensures.wants)) c.in_default-reserve.ensures.err

pub returns-in_default-reserve-clause-refused : goal.returns-in_default-reserve-clause-refused
returns-in_default-reserve-clause-refused g c =
    let used = subst (λ (v : CoreState g.row.D.Denot). HasUsedPart v.numbers c.args.who (λ part. part.reserved ≡ None)) (sym c.self.view_is) c.requires in
    let none : get_or c.self.inside.tail.wants c.args.who 0 ≡ 0 = core_wants c.self.inside.numbers c.self.invariant c.args.who used.0 used.1 ∙ ap blocks_wanted used.2 in
    let lt = c.reserve.ensures.seat in
    subst (λ (v : CoreState g.row.D.Denot). IsUnreserved v (record {
      disk = c.self.inside.disk;
      from = c.self.inside.from;
      txns = txns_of c.self.inside.txns;
      end = record { ids = c.self.inside.end_ids; stores = c.self.inside.end_stores };
      numbers = c.reserve-2.new.self;
      tail = c.cancel.new.self;
    })) c.self.view_is (record {
      rest = refl;
      numbers = c.in_default-reserve.ensures.err;
      tail = unreserved_tail c.self.inside.tail c.reserve.new.self c.cancel.new.self c.args.who _ lt none c.in_default.ensures.promised c.in_default.ensures.wants c.cancel.ensures.cancelled c.cancel.ensures.wants;
      ring = unreserved_ring c.self.inside.tail c.reserve.new.self c.cancel.new.self c.args.who _ lt none c.in_default.ensures.promised c.in_default.ensures.wants c.cancel.ensures.cancelled c.cancel.ensures.wants;
    })
