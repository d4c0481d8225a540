use Rattle.std.proofs.Common.{Less, ◌-◌, ◌<◌, ◌≡◌, Some, sym, ap, ◌∙◌, subst, arith}
use Rattle.std.specs.FinMap as finite
use Rattle.fx_item.specs.LockKey.{key_cmp}
use Rattle.fx_item.specs.declared.lock.LockKey.{LockKey}
use Rattle.fx_parts.specs.Parts.{Grant}
use Rattle.fx_numbers.specs.declared.held.HeldKey.{HeldKey}
use Rattle.fx_numbers.specs.Held.{AreHeldInOrder, KeyGrants, grants_held, pushed_key}
use Rattle.fx_numbers.proofs.HeldLists.{all_below, pushed_grants, pushed_sorted}
use Rattle.fx_numbers.proofs.held.KeyRing.push.Goals as goal

pub invariant_of-self : goal.invariant_of-self
invariant_of-self c =
    let h : HeldKey = record { key = c.args.key; mode = c.args.mode; number = c.args.number } in
    let below = subst (λ (g : KeyGrants). (k : LockKey) (grant : Grant) → finite.get g.grants k ≡ Some grant → key_cmp k c.args.key ≡ Less) (sym c.self.view_is) c.requires.above in
    let all = all_below c.self.inside.held.items c.args.key c.self.invariant.sorted below in
    let len = c.push_reserved.ensures.len in
    let capacity = c.push_reserved.ensures.capacity in
    let memory = c.self.invariant.memory in
    let room = subst (λ (g : KeyGrants). 0 < g.room) (sym c.self.view_is) c.requires.room in
    record {
      sorted = subst AreHeldInOrder (sym c.push_reserved.ensures.items) (pushed_sorted c.self.inside.held.items h c.self.invariant.sorted all);
      memory = omega arith;
    }

pub returns : goal.returns
returns c =
    let h : HeldKey = record { key = c.args.key; mode = c.args.mode; number = c.args.number } in
    let below = subst (λ (g : KeyGrants). (k : LockKey) (grant : Grant) → finite.get g.grants k ≡ Some grant → key_cmp k c.args.key ≡ Less) (sym c.self.view_is) c.requires.above in
    let all = all_below c.self.inside.held.items c.args.key c.self.invariant.sorted below in
    ap (λ z. let w : KeyGrants = record { grants = z; room = c.self.inside.room - 1 } in w) (ap grants_held c.push_reserved.ensures.items ∙ pushed_grants c.self.inside.held.items h all)
    ∙ ap (pushed_key c.args.key c.args.mode c.args.number) c.self.view_is
