use Rattle.std.proofs.Common.{◌+◌, ◌<◌, ◌≤◌, ◌++◌, ◌∷◌, [], List, Option, Some, length, set, ap, sym, subst, refl, ◌∙◌, arith}
use Rattle.fx_parts.specs.Parts.{Part, fresh_part}
use Rattle.fx_numbers.specs.Slots.{EntersAs, HasFreeSlot, IsFirstFree, PartMap, parts_in, promised_in}
use Rattle.fx_numbers.proofs.PartLists.{enters_at, enters_behind, some_free}
use Rattle.fx_numbers.proofs.slots.Slots.enter.Goals as goal

pub returns-then-at-len-clause-ok : goal.returns-then-at-len-clause-ok
returns-then-at-len-clause-ok c =
    let items = c.self.inside.slots.items in
    let free = subst (λ (l : List (Option Part)). IsFirstFree l c.first_free-at.result) c.as_slice.ensures.value c.first_free-at.ensures in
    let few : length items ≤ 32 = omega (arith, c.self.invariant, c.self.inside.slots.ok) in
    let some = subst (λ (v : PartMap). HasFreeSlot v.parts) (sym c.self.view_is) c.requires in
    let lt : c.first_free-at.result < length items = omega (arith, c.if-at-len.true, c.len.ensures, c.self.inside.slots.ok) in
    subst (λ (v : PartMap). EntersAs v (record { parts = parts_in (set items c.first_free-at.result (Some c.new-part.result)); reserved = promised_in (set items c.first_free-at.result (Some c.new-part.result)); places = c.self.inside.slots.len }) (fresh_part c.args.faults) (c.first_free-at.result + 1)) c.self.view_is
    (enters_at items c.self.inside.slots.len few some c.first_free-at.result free (fresh_part c.args.faults) refl c.new-part.result c.self.inside.slots.len c.new-part.ensures lt)

pub invariant_of-self-2 : goal.invariant_of-self-2
invariant_of-self-2 c =
    let items = c.self.inside.slots.items in
    let free = subst (λ (l : List (Option Part)). IsFirstFree l c.first_free-at.result) c.as_slice.ensures.value c.first_free-at.ensures in
    let few : length items ≤ 32 = omega (arith, c.self.invariant, c.self.inside.slots.ok) in
    let lt = some_free items c.first_free-at.result free few (subst (λ (v : PartMap). HasFreeSlot v.parts) (sym c.self.view_is) c.requires) in
    let len = c.in-Ok.ensures.len in
    omega (arith, lt, len, c.if-at-len.false, c.len.ensures)

pub returns-clause-ok : goal.returns-clause-ok
returns-clause-ok c =
    let items = c.self.inside.slots.items in
    let free = subst (λ (l : List (Option Part)). IsFirstFree l c.first_free-at.result) c.as_slice.ensures.value c.first_free-at.ensures in
    let few : length items ≤ 32 = omega (arith, c.self.invariant, c.self.inside.slots.ok) in
    let some = subst (λ (v : PartMap). HasFreeSlot v.parts) (sym c.self.view_is) c.requires in
    let le : length items ≤ c.first_free-at.result = omega (arith, c.if-at-len.false, c.len.ensures, c.self.inside.slots.ok) in
    subst (λ (v : PartMap). EntersAs v (record { parts = parts_in c.push.new.self.items; reserved = promised_in c.push.new.self.items; places = c.push.new.self.len }) (fresh_part c.args.faults) (c.first_free-at.result + 1)) c.self.view_is
    (enters_behind items c.self.inside.slots.len few some c.first_free-at.result free (fresh_part c.args.faults) refl c.push.new.self.items c.push.new.self.len (c.in-Ok.ensures.items ∙ ap (λ (p : Part). items ++ Some p ∷ []) c.new-part.ensures) le)
