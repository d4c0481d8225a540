use Rattle.std.proofs.Common.{◌≡◌, ◌∙◌, ℕ, List, Option, Vec, Global, get_or, ap, sym, subst, arith}
use Rattle.std.specs.List.{count_by}
use Rattle.std.proofs.lemmas.List.Sums.{count_by-le-length}
use Rattle.fx_pool.specs.Region.{is_order}
use Rattle.fx_pool.proofs.Kept.{counted-is, counted-none}
use Rattle.fx_pool.proofs.free.FreeRuns.count.Goals as goal

counted : (c : goal.After-len) → c.len.result ≡ count_by (is_order c.args.order) c.self.inside.orders.items
counted c =
    let f : c.in-Some.list.now ≡ get_or c.deref.result.now c.from.result c.in-Some.list.now = c.in-Some.ensures.lookup.1 in
    let g : c.in-Some.list.now ≡ get_or c.self.inside.lists.items c.from.result c.in-Some.list.now = subst (λ (l : List (Vec ℕ Global)). c.in-Some.list.now ≡ get_or l c.from.result c.in-Some.list.now) c.deref.ensures.value f in
    let e : c.in-Some.list.now ≡ get_or c.self.inside.lists.items c.args.order c.in-Some.list.now = subst (λ (k : ℕ). c.in-Some.list.now ≡ get_or c.self.inside.lists.items k c.in-Some.list.now) c.from.ensures g in
    c.len.ensures ∙ counted-is c.self.inside.orders.items c.self.inside.places.items c.self.inside.lists.items c.args.order c.in-Some.list.now c.self.invariant (omega (arith, c.in-Some.ensures.lookup.3.0, c.deref.ensures.len, c.from.ensures, c.self.inside.lists.ok.0, c.self.invariant.lists_len)) e

pub overflow_cast-result : goal.overflow_cast-result
overflow_cast-result c = omega (arith, counted c, count_by-le-length (is_order c.args.order) c.self.inside.orders.items, c.self.invariant.orders_len)

pub returns-in-Some : goal.returns-in-Some
returns-in-Some c = counted c ∙ ap (λ (l : List (Option ℕ)). count_by (is_order c.args.order) l) c.self.view_is

pub returns-in-None : goal.returns-in-None
returns-in-None c = sym (ap (λ (l : List (Option ℕ)). count_by (is_order c.args.order) l) (sym c.self.view_is) ∙ counted-none c.self.inside.orders.items c.self.inside.places.items c.self.inside.lists.items c.args.order c.self.invariant (omega (arith, c.in-None.ensures, c.deref.ensures.len, c.from.ensures, c.self.inside.lists.ok.0)))
