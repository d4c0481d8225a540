use Rattle.std.proofs.Common.{◌≡◌, ◌∙◌, ◌-◌, ℕ, None, get_or, vec_len, ap, subst, arith}
use Rattle.fx_pool.specs.Region.{RunBegins}
use Rattle.fx_pool.proofs.Tables.{HasRun-below}
use Rattle.fx_pool.proofs.Kept.{order-below, place-below, last-below, IsKept-taken}
use Rattle.fx_pool.proofs.free.FreeRuns.remove.Goals as goal

pub index_mut-list-requires : goal.index_mut-list-requires
index_mut-list-requires c =
    let run : RunBegins c.self.inside.orders.items c.args.run.start c.args.run.order = ap (λ l. get_or l c.args.run.start None) c.self.view_is ∙ c.requires in
    omega (arith, c.from.ensures, c.self.inside.lists.ok.0, c.self.invariant.lists_len, order-below c.self.inside.orders.items c.self.inside.places.items c.self.inside.lists.items c.args.run.start c.args.run.order c.self.invariant run)

pub overflow_sub-len : goal.overflow_sub-len
overflow_sub-len c =
    let run : RunBegins c.self.inside.orders.items c.args.run.start c.args.run.order = ap (λ l. get_or l c.args.run.start None) c.self.view_is ∙ c.requires in
    let e : c.index_mut-list.result.now ≡ get_or c.self.inside.lists.items c.args.run.order c.index_mut-list.result.now = subst (λ (k : ℕ). c.index_mut-list.result.now ≡ get_or c.self.inside.lists.items k c.index_mut-list.result.now) c.from.ensures c.index_mut-list.ensures.value in
    let p : c.index-place.result.now ≡ get_or c.self.inside.places.items c.args.run.start c.index-place.result.now = subst (λ (k : ℕ). c.index-place.result.now ≡ get_or c.self.inside.places.items k c.index-place.result.now) c.from-start.ensures c.index-place.ensures in
    omega (arith, c.len.ensures, place-below c.self.inside.orders.items c.self.inside.places.items c.self.inside.lists.items c.args.run.start c.args.run.order c.index-place.result.now c.index_mut-list.result.now c.self.invariant run p e)

pub index-last-requires : goal.index-last-requires
index-last-requires c =
    let run : RunBegins c.self.inside.orders.items c.args.run.start c.args.run.order = ap (λ l. get_or l c.args.run.start None) c.self.view_is ∙ c.requires in
    let e : c.index_mut-list.result.now ≡ get_or c.self.inside.lists.items c.args.run.order c.index_mut-list.result.now = subst (λ (k : ℕ). c.index_mut-list.result.now ≡ get_or c.self.inside.lists.items k c.index_mut-list.result.now) c.from.ensures c.index_mut-list.ensures.value in
    let p : c.index-place.result.now ≡ get_or c.self.inside.places.items c.args.run.start c.index-place.result.now = subst (λ (k : ℕ). c.index-place.result.now ≡ get_or c.self.inside.places.items k c.index-place.result.now) c.from-start.ensures c.index-place.ensures in
    omega (arith, c.len.ensures, place-below c.self.inside.orders.items c.self.inside.places.items c.self.inside.lists.items c.args.run.start c.args.run.order c.index-place.result.now c.index_mut-list.result.now c.self.invariant run p e)

pub swap_remove-requires : goal.swap_remove-requires
swap_remove-requires c =
    let run : RunBegins c.self.inside.orders.items c.args.run.start c.args.run.order = ap (λ l. get_or l c.args.run.start None) c.self.view_is ∙ c.requires in
    let e : c.index_mut-list.result.now ≡ get_or c.self.inside.lists.items c.args.run.order c.index_mut-list.result.now = subst (λ (k : ℕ). c.index_mut-list.result.now ≡ get_or c.self.inside.lists.items k c.index_mut-list.result.now) c.from.ensures c.index_mut-list.ensures.value in
    let p : c.index-place.result.now ≡ get_or c.self.inside.places.items c.args.run.start c.index-place.result.now = subst (λ (k : ℕ). c.index-place.result.now ≡ get_or c.self.inside.places.items k c.index-place.result.now) c.from-start.ensures c.index-place.ensures in
    omega (arith, c.from-2.ensures, place-below c.self.inside.orders.items c.self.inside.places.items c.self.inside.lists.items c.args.run.start c.args.run.order c.index-place.result.now c.index_mut-list.result.now c.self.invariant run p e)

pub index_mut-requires : goal.index_mut-requires
index_mut-requires c =
    let run : RunBegins c.self.inside.orders.items c.args.run.start c.args.run.order = ap (λ l. get_or l c.args.run.start None) c.self.view_is ∙ c.requires in
    let e : c.index_mut-list.result.now ≡ get_or c.self.inside.lists.items c.args.run.order c.index_mut-list.result.now = subst (λ (k : ℕ). c.index_mut-list.result.now ≡ get_or c.self.inside.lists.items k c.index_mut-list.result.now) c.from.ensures c.index_mut-list.ensures.value in
    let p : c.index-place.result.now ≡ get_or c.self.inside.places.items c.args.run.start c.index-place.result.now = subst (λ (k : ℕ). c.index-place.result.now ≡ get_or c.self.inside.places.items k c.index-place.result.now) c.from-start.ensures c.index-place.ensures in
    let z : c.index-last.result.now ≡ get_or c.index_mut-list.result.now.items (vec_len c.index_mut-list.result.now - 1) c.index-last.result.now = subst (λ (k : ℕ). c.index-last.result.now ≡ get_or c.index_mut-list.result.now.items (k - 1) c.index-last.result.now) c.len.ensures c.index-last.ensures in
    omega (arith, c.from-3.ensures, c.self.inside.places.ok.0, c.self.invariant.places_len, HasRun-below c.self.inside.orders.items c.index-last.result.now c.args.run.order (last-below c.self.inside.orders.items c.self.inside.places.items c.self.inside.lists.items c.args.run.start c.args.run.order c.index-place.result.now c.index-last.result.now c.index_mut-list.result.now c.self.invariant run p e z))

pub invariant_of-self : goal.invariant_of-self
invariant_of-self c =
    let run : RunBegins c.self.inside.orders.items c.args.run.start c.args.run.order = ap (λ l. get_or l c.args.run.start None) c.self.view_is ∙ c.requires in
    let e : c.index_mut-list.result.now ≡ get_or c.self.inside.lists.items c.args.run.order c.index_mut-list.result.now = subst (λ (k : ℕ). c.index_mut-list.result.now ≡ get_or c.self.inside.lists.items k c.index_mut-list.result.now) c.from.ensures c.index_mut-list.ensures.value in
    let p : c.index-place.result.now ≡ get_or c.self.inside.places.items c.args.run.start c.index-place.result.now = subst (λ (k : ℕ). c.index-place.result.now ≡ get_or c.self.inside.places.items k c.index-place.result.now) c.from-start.ensures c.index-place.ensures in
    let z : c.index-last.result.now ≡ get_or c.index_mut-list.result.now.items (vec_len c.index_mut-list.result.now - 1) c.index-last.result.now = subst (λ (k : ℕ). c.index-last.result.now ≡ get_or c.index_mut-list.result.now.items (k - 1) c.index-last.result.now) c.len.ensures c.index-last.ensures in
    rw (c.from-start.ensures, c.from.ensures, c.from-3.ensures)
    (IsKept-taken c.self.inside.orders.items c.self.inside.places.items c.self.inside.lists.items c.args.run.start c.args.run.order c.index-place.result.now c.index-last.result.now c.index_mut-list.result.now c.swap_remove.new.self c.self.invariant run p e z
    (rw c.from-2.ensures at c.swap_remove.ensures.by_index.0) (rw c.from-2.ensures at c.swap_remove.ensures.by_index.1)
    c.swap_remove.ensures.len c.swap_remove.ensures.capacity)
