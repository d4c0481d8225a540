use Rattle.std.proofs.Common.{◌≡◌, ◌∙◌, ◌<◌, ℕ, None, get_or, length, ap, subst, arith}
use Rattle.fx_pool.proofs.Kept.{room, roomy-at, IsKept-added}
use Rattle.fx_pool.proofs.free.FreeRuns.insert.Goals as goal

pub overflow_cast-len : goal.overflow_cast-len
overflow_cast-len c =
    let none : get_or c.self.inside.orders.items c.args.run.start None ≡ None = ap (λ l. get_or l c.args.run.start None) c.self.view_is ∙ c.requires.none in
    let e : c.index_mut-list.result.now ≡ get_or c.self.inside.lists.items c.args.run.order c.index_mut-list.result.now = subst (λ (k : ℕ). c.index_mut-list.result.now ≡ get_or c.self.inside.lists.items k c.index_mut-list.result.now) c.from.ensures c.index_mut-list.ensures.value in
    let below : c.args.run.start < length c.self.inside.orders.items = omega (arith, ap (λ l. length l) c.self.view_is) in
    omega (arith, c.len.ensures, c.self.invariant.orders_len, room c.self.inside.orders.items c.self.inside.places.items c.self.inside.lists.items c.args.run.start c.args.run.order c.index_mut-list.result.now c.self.invariant (omega arith) below none e)

pub push_reserved-requires : goal.push_reserved-requires
push_reserved-requires c =
    let none : get_or c.self.inside.orders.items c.args.run.start None ≡ None = ap (λ l. get_or l c.args.run.start None) c.self.view_is ∙ c.requires.none in
    let e : c.index_mut-list.result.now ≡ get_or c.self.inside.lists.items c.args.run.order c.index_mut-list.result.now = subst (λ (k : ℕ). c.index_mut-list.result.now ≡ get_or c.self.inside.lists.items k c.index_mut-list.result.now) c.from.ensures c.index_mut-list.ensures.value in
    let below : c.args.run.start < length c.self.inside.orders.items = omega (arith, ap (λ l. length l) c.self.view_is) in
    omega (
      arith,
      room c.self.inside.orders.items c.self.inside.places.items c.self.inside.lists.items c.args.run.start c.args.run.order c.index_mut-list.result.now c.self.invariant (omega arith) below none e,
      roomy-at c.self.inside.orders.items c.self.inside.places.items c.self.inside.lists.items c.args.run.order c.index_mut-list.result.now c.self.invariant (omega arith) e,
    )

pub invariant_of-self : goal.invariant_of-self
invariant_of-self c =
    let none : get_or c.self.inside.orders.items c.args.run.start None ≡ None = ap (λ l. get_or l c.args.run.start None) c.self.view_is ∙ c.requires.none in
    let e : c.index_mut-list.result.now ≡ get_or c.self.inside.lists.items c.args.run.order c.index_mut-list.result.now = subst (λ (k : ℕ). c.index_mut-list.result.now ≡ get_or c.self.inside.lists.items k c.index_mut-list.result.now) c.from.ensures c.index_mut-list.ensures.value in
    let below : c.args.run.start < length c.self.inside.orders.items = omega (arith, ap (λ l. length l) c.self.view_is) in
    rw (c.from-start.ensures, c.from.ensures, c.len.ensures)
    (IsKept-added c.self.inside.orders.items c.self.inside.places.items c.self.inside.lists.items c.args.run.start c.args.run.order c.index_mut-list.result.now c.push_reserved.new.self c.self.invariant (omega arith) below none e c.push_reserved.ensures.items c.push_reserved.ensures.capacity)
