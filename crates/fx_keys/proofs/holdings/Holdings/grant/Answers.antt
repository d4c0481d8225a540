use Rattle.std.proofs.Common.{All, cond, Less, ◌+◌, ◌<◌, ◌≡◌, ◌++◌, ◌∷◌, [], vec_len, sym, ap, ◌∙◌, subst, arith}
use Rattle.fx_item.specs.LockKey.{key_cmp}
use Rattle.fx_keys.specs.Holdings.{IsKeyArray, Grants}
use Rattle.fx_keys.proofs.HoldArrays.{sorted_granted}
use Rattle.fx_keys.proofs.holdings.Holdings.grant.Goals as goal

pub invariant_of-self : goal.invariant_of-self
invariant_of-self c =
    let items = c.push-pushed.ensures.items in
    let len = c.push-pushed.ensures.len in
    let ok = sym c.is_ok.ensures.value ∙ c.if-prove.false in
    let above = subst (λ (g : Grants). All (λ h. key_cmp h.key c.args.key ≡ Less) g.holds) (sym c.self.view_is) c.requires.above in
    let more = len ∙ ap (λ b. cond b (vec_len c.self.inside.holds + 1) (vec_len c.self.inside.holds)) ok in
    let capacity = c.push-pushed.ensures.capacity in
    let place = subst (λ (g : Grants). 0 < g.places) (sym c.self.view_is) c.requires.place in
    let memory = c.self.invariant.memory in
    record {
      sorted = subst IsKeyArray (sym (items ∙ ap (λ b. cond b (c.self.inside.holds.items ++ record { key = c.args.key; mode = c.args.mode } ∷ []) c.self.inside.holds.items) ok)) (sorted_granted c.self.inside.holds.items c.args.key c.args.mode c.self.invariant.sorted above);
      memory = omega arith;
    }
