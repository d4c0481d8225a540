use Rattle.std.proofs.Common.{◌≡◌, ◌-◌, ◌≤◌, ◌<◌, get_or, length, List, Option, is_some, ap, sym, subst, ◌∙◌, arith}
use Rattle.fx_parts.specs.Parts.{Part}
use Rattle.fx_numbers.specs.Slots.{PartMap, reserved_at}
use Rattle.fx_numbers.proofs.PartLists.{past_said, slot_said, zero_said}
use Rattle.fx_numbers.proofs.slots.Slots.has_reserved.Goals as goal

pub returns-then-who-eq0 : goal.returns-then-who-eq0
returns-then-who-eq0 c =
    zero_said (λ part. is_some part.reserved) c.self.inside.slots.items
    ∙ ap (λ (v : PartMap). reserved_at v.parts 0) c.self.view_is
    ∙ ap (reserved_at c.args.self.now.parts) (sym c.if-who-eq0.true)

pub returns-in_default : goal.returns-in_default
returns-in_default c =
    let items = c.self.inside.slots.items in
    let le = subst (λ (l : List (Option Part)). length l ≤ c.args.who - 1) c.as_slice-slots.ensures.value c.in_default.ensures.lookup.3 in
    let some = c.if-who-eq0.false in
    past_said (λ part. is_some part.reserved) items c.args.who (omega arith) le
    ∙ ap (λ (v : PartMap). reserved_at v.parts c.args.who) c.self.view_is

pub returns : goal.returns
returns c =
    let items = c.self.inside.slots.items in
    let lt = subst (λ (l : List (Option Part)). c.args.who - 1 < length l) c.as_slice-slots.ensures.value c.in-Some.ensures.lookup.3.0 in
    let is = subst (λ (l : List (Option Part)). c.in-Some.slot.now ≡ get_or l (c.args.who - 1) c.in-Some.slot.now) c.as_slice-slots.ensures.value c.in-Some.ensures.lookup.1 in
    let some = c.if-who-eq0.false in
    c.promise_of.ensures
    ∙ slot_said (λ part. is_some part.reserved) items c.args.who c.in-Some.slot.now (omega arith) lt is
    ∙ ap (λ (v : PartMap). reserved_at v.parts c.args.who) c.self.view_is
