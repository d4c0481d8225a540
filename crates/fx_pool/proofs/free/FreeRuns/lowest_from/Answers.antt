use Rattle.std.proofs.Common.{◌≡◌, ◌-◌, ℕ, List, Option, get_or, length, ap, sym, subst, refl, arith, inl, inr}
use Rattle.std.proofs.lemmas.Bool.{cases_eq, cases_lt, true≢false}
use Rattle.fx_pool.specs.Region.{RunBegins}
use Rattle.fx_pool.specs.Indexed.{starts}
use Rattle.fx_pool.proofs.Kept.{listed-free, starts-is, none-from, none-at}
use Rattle.fx_pool.proofs.free.FreeRuns.lowest_from.Goals as goal

found : (c : goal.After-row_known-1) → RunBegins c.args.self.now c.in-Some.start.now c.loop-k.k
found c =
    let e : c.index.result.now ≡ get_or c.self.inside.lists.items c.loop-k.k c.index.result.now = subst (λ (k : ℕ). c.index.result.now ≡ get_or c.self.inside.lists.items k c.index.result.now) c.from.ensures c.index.ensures in
    let s : c.in-Some.start.now ≡ get_or c.index.result.now.items (length c.deref.result.now - 1) c.in-Some.start.now = subst (λ (l : List ℕ). c.in-Some.start.now ≡ get_or l (length c.deref.result.now - 1) c.in-Some.start.now) c.deref.ensures.value c.in-Some.ensures.item.1 in
    subst (λ (l : List (Option ℕ)). RunBegins l c.in-Some.start.now c.loop-k.k) c.self.view_is
    (listed-free c.self.inside.orders.items c.self.inside.places.items c.self.inside.lists.items c.loop-k.k (length c.deref.result.now - 1) c.in-Some.start.now c.index.result.now c.self.invariant (omega (arith, c.loop-k-test.true, c.loop-k.auto)) e (omega (arith, c.in-Some.ensures.item.3.0, c.deref.ensures.len)) s)

pub returns-in-Some-clause-found : goal.returns-in-Some-clause-found
returns-in-Some-clause-found c = (c.loop-k.auto.k, omega (arith, c.loop-k-test.true), found c)

pub returns-in-Some-clause-none : goal.returns-in-Some-clause-none
returns-in-Some-clause-none c = (λ e. absurd (true≢false e), λ none. absurd (none c.in-Some.start.now c.loop-k.k c.loop-k.auto.k (found c)))

pub loop-k-preserved : goal.loop-k-preserved
loop-k-preserved c j a b = elim (cases_eq j c.loop-k.k) [
  | inl e ↦ (let u : c.index.result.now ≡ get_or c.self.inside.lists.items c.loop-k.k c.index.result.now = subst (λ (k : ℕ). c.index.result.now ≡ get_or c.self.inside.lists.items k c.index.result.now) c.from.ensures c.index.ensures in
      subst (λ (k : ℕ). length (starts c.self.inside.lists.items k) ≡ 0) (sym e)
      (omega (arith, c.index.result.now.ok.0, c.deref.ensures.len, c.in_default.ensures, ap (λ (l : List ℕ). length l) (starts-is c.self.inside.lists.items c.loop-k.k c.index.result.now (omega (arith, c.self.invariant.lists_len, c.loop-k-test.true)) u))))
  | inr ne ↦ c.loop-k.invariant j a (omega arith)
]

pub returns-clause-none : goal.returns-clause-none
returns-clause-none c = (λ e s k a r. none-from c.self.inside.orders.items c.self.inside.places.items c.self.inside.lists.items c.args.order c.loop-k.k c.self.invariant (omega (arith, c.loop-k-test.false)) c.loop-k.invariant s k a (subst (λ (l : List (Option ℕ)). RunBegins l s k) (sym c.self.view_is) r), λ none. refl)

pub returns-in-Some-clause-lowest : goal.returns-in-Some-clause-lowest
returns-in-Some-clause-lowest c s k a r = elim (cases_lt k c.loop-k.k) [
  | inl lt ↦ absurd (none-at c.self.inside.orders.items c.self.inside.places.items c.self.inside.lists.items s k c.self.invariant (c.loop-k.invariant k a lt) (subst (λ (l : List (Option ℕ)). RunBegins l s k) (sym c.self.view_is) r))
  | inr ge ↦ ge
]
