use Rattle.std.proofs.Common.{rules, ◌≡◌, ◌∙◌, ◌<◌, ◌+◌, ◌-◌, ◌^◌, ℕ, List, Option, Vec, Global, None, Some, get_or, set, length, length-set, ap, sym, refl, subst, arith}
use Rattle.std.proofs.lemmas.Bool.{true≢false}
use Rattle.std.proofs.Math.Nat.{pow-le-pow_right}
use Rattle.fx_pool.specs.Region.{RunBegins, Region, IsDivided}
use Rattle.fx_pool.proofs.Tables.{HasRun-below, set-at, set-other}
use Rattle.fx_pool.proofs.Pools.{few-blocks}
use Rattle.fx_pool.proofs.Divided.{IsDivided-lent}
use Rattle.fx_pool.proofs.Steps.{Halving, halving-of, IsPool-next}
use Rattle.fx_pool.proofs.pool.Pool.take.Goals as goal

pub loop-rest-init : goal.loop-rest-init
loop-rest-init c = record {
  at_least = c.in_ok-start.ensures.found.0;
  at_most = omega arith;
  order_same = refl;
  out_same = refl;
  bytes_same = refl;
  free_len = refl;
  divided = subst (λ (f : List (Option ℕ)). IsDivided (2 ^ c.self.inside.order) f (set c.self.inside.out.items c.in_ok-start.field-0.start (Some c.in_ok-start.field-0.order))) (sym c.remove.ensures)
      (IsDivided-lent (2 ^ c.self.inside.order) c.self.inside.free c.self.inside.out.items c.in_ok-start.field-0.start c.in_ok-start.field-0.order c.self.invariant.divided (omega (arith, HasRun-below c.self.inside.free c.in_ok-start.field-0.start c.in_ok-start.field-0.order c.in_ok-start.ensures.found.2, c.self.invariant.out_len, c.self.invariant.free_len)) c.in_ok-start.ensures.found.2);
}

pub overflow_add-start : goal.overflow_add-start
overflow_add-start c =
    let below : c.in_ok-start.field-0.start < length c.loop-rest.self-inside.out.items = omega (arith, ap (λ (v : Vec (Option ℕ) Global). length v.items) c.loop-rest.invariant.out_same, HasRun-below c.self.inside.free c.in_ok-start.field-0.start c.in_ok-start.field-0.order c.in_ok-start.ensures.found.2, c.self.invariant.out_len, c.self.invariant.free_len) in
    let len : length c.loop-rest.self-inside.free ≡ 2 ^ c.loop-rest.self-inside.order = c.loop-rest.invariant.free_len ∙ ap (λ (l : List (Option ℕ)). length l) c.remove.ensures ∙ length-set c.self.inside.free c.in_ok-start.field-0.start None ∙ c.self.invariant.free_len ∙ ap (λ (x : ℕ). 2 ^ x) (sym c.loop-rest.invariant.order_same) in
    let step : Halving c.loop-rest.self-inside.order c.loop-rest.self-inside.free c.loop-rest.self-inside.out.items c.in_ok-start.field-0.start (c.loop-rest.rest - 1) = halving-of c.loop-rest.self-inside.order c.loop-rest.self-inside.free c.loop-rest.self-inside.out.items c.in_ok-start.field-0.start c.loop-rest.rest below len (omega (arith, c.loop-rest-test.true)) c.loop-rest.invariant.divided in
    omega (arith, step.below, len, c.blocks-in-loop-rest.ensures, few-blocks c.loop-rest.self-inside.order (omega (arith, c.loop-rest.invariant.order_same, c.self.invariant.order_le)))

pub insert-requires-clause-start : goal.insert-requires-clause-start
insert-requires-clause-start c =
    let below : c.in_ok-start.field-0.start < length c.loop-rest.self-inside.out.items = omega (arith, ap (λ (v : Vec (Option ℕ) Global). length v.items) c.loop-rest.invariant.out_same, HasRun-below c.self.inside.free c.in_ok-start.field-0.start c.in_ok-start.field-0.order c.in_ok-start.ensures.found.2, c.self.invariant.out_len, c.self.invariant.free_len) in
    let len : length c.loop-rest.self-inside.free ≡ 2 ^ c.loop-rest.self-inside.order = c.loop-rest.invariant.free_len ∙ ap (λ (l : List (Option ℕ)). length l) c.remove.ensures ∙ length-set c.self.inside.free c.in_ok-start.field-0.start None ∙ c.self.invariant.free_len ∙ ap (λ (x : ℕ). 2 ^ x) (sym c.loop-rest.invariant.order_same) in
    let step : Halving c.loop-rest.self-inside.order c.loop-rest.self-inside.free c.loop-rest.self-inside.out.items c.in_ok-start.field-0.start (c.loop-rest.rest - 1) = halving-of c.loop-rest.self-inside.order c.loop-rest.self-inside.free c.loop-rest.self-inside.out.items c.in_ok-start.field-0.start c.loop-rest.rest below len (omega (arith, c.loop-rest-test.true)) c.loop-rest.invariant.divided in
    subst (λ (x : ℕ). c.in_ok-start.field-0.start + x < length c.loop-rest.self-inside.free) (sym c.blocks-in-loop-rest.ensures) step.below

pub insert-requires-clause-none : goal.insert-requires-clause-none
insert-requires-clause-none c =
    let below : c.in_ok-start.field-0.start < length c.loop-rest.self-inside.out.items = omega (arith, ap (λ (v : Vec (Option ℕ) Global). length v.items) c.loop-rest.invariant.out_same, HasRun-below c.self.inside.free c.in_ok-start.field-0.start c.in_ok-start.field-0.order c.in_ok-start.ensures.found.2, c.self.invariant.out_len, c.self.invariant.free_len) in
    let len : length c.loop-rest.self-inside.free ≡ 2 ^ c.loop-rest.self-inside.order = c.loop-rest.invariant.free_len ∙ ap (λ (l : List (Option ℕ)). length l) c.remove.ensures ∙ length-set c.self.inside.free c.in_ok-start.field-0.start None ∙ c.self.invariant.free_len ∙ ap (λ (x : ℕ). 2 ^ x) (sym c.loop-rest.invariant.order_same) in
    let step : Halving c.loop-rest.self-inside.order c.loop-rest.self-inside.free c.loop-rest.self-inside.out.items c.in_ok-start.field-0.start (c.loop-rest.rest - 1) = halving-of c.loop-rest.self-inside.order c.loop-rest.self-inside.free c.loop-rest.self-inside.out.items c.in_ok-start.field-0.start c.loop-rest.rest below len (omega (arith, c.loop-rest-test.true)) c.loop-rest.invariant.divided in
    subst (λ (x : ℕ). get_or c.loop-rest.self-inside.free (c.in_ok-start.field-0.start + x) None ≡ None) (sym c.blocks-in-loop-rest.ensures) step.none

pub loop-rest-preserved : goal.loop-rest-preserved
loop-rest-preserved c =
    let below : c.in_ok-start.field-0.start < length c.loop-rest.self-inside.out.items = omega (arith, ap (λ (v : Vec (Option ℕ) Global). length v.items) c.loop-rest.invariant.out_same, HasRun-below c.self.inside.free c.in_ok-start.field-0.start c.in_ok-start.field-0.order c.in_ok-start.ensures.found.2, c.self.invariant.out_len, c.self.invariant.free_len) in
    let len : length c.loop-rest.self-inside.free ≡ 2 ^ c.loop-rest.self-inside.order = c.loop-rest.invariant.free_len ∙ ap (λ (l : List (Option ℕ)). length l) c.remove.ensures ∙ length-set c.self.inside.free c.in_ok-start.field-0.start None ∙ c.self.invariant.free_len ∙ ap (λ (x : ℕ). 2 ^ x) (sym c.loop-rest.invariant.order_same) in
    let step : Halving c.loop-rest.self-inside.order c.loop-rest.self-inside.free c.loop-rest.self-inside.out.items c.in_ok-start.field-0.start (c.loop-rest.rest - 1) = halving-of c.loop-rest.self-inside.order c.loop-rest.self-inside.free c.loop-rest.self-inside.out.items c.in_ok-start.field-0.start c.loop-rest.rest below len (omega (arith, c.loop-rest-test.true)) c.loop-rest.invariant.divided in
    let e : c.insert.new.self ≡ set c.loop-rest.self-inside.free (c.in_ok-start.field-0.start + 2 ^ (c.loop-rest.rest - 1)) (Some (c.loop-rest.rest - 1)) =
    c.insert.ensures ∙ ap (λ (x : ℕ). set c.loop-rest.self-inside.free (c.in_ok-start.field-0.start + x) (Some (c.loop-rest.rest - 1))) c.blocks-in-loop-rest.ensures in
    record {
      at_least = omega (arith, c.loop-rest-test.true);
      at_most = omega (arith, c.loop-rest.invariant.at_most);
      order_same = c.loop-rest.invariant.order_same;
      out_same = c.loop-rest.invariant.out_same;
      bytes_same = c.loop-rest.invariant.bytes_same;
      free_len = ap (λ (l : List (Option ℕ)). length l) e ∙ length-set c.loop-rest.self-inside.free (c.in_ok-start.field-0.start + 2 ^ (c.loop-rest.rest - 1)) (Some (c.loop-rest.rest - 1)) ∙ c.loop-rest.invariant.free_len;
      divided = subst (λ (f : List (Option ℕ)). IsDivided (2 ^ c.loop-rest.self-inside.order) f (set c.loop-rest.self-inside.out.items c.in_ok-start.field-0.start (Some (c.loop-rest.rest - 1)))) (sym e) step.divided;
    }

pub invariant_of-result : goal.invariant_of-result
invariant_of-result c = (omega (arith, HasRun-below c.self.inside.free c.in_ok-start.field-0.start c.in_ok-start.field-0.order c.in_ok-start.ensures.found.2, c.self.invariant.free_len, few-blocks c.self.inside.order c.self.invariant.order_le), omega (arith, c.in_ok-start.ensures.found.1, c.loop-rest.invariant.at_most, c.loop-rest.invariant.at_least))

pub invariant_of-self : goal.invariant_of-self
invariant_of-self c =
    let done : c.loop-rest.rest ≡ c.args.order = omega (arith, c.loop-rest-test.false, c.loop-rest.invariant.at_least) in
    let divided : IsDivided (2 ^ c.loop-rest.self-inside.order) c.loop-rest.self-inside.free (set c.loop-rest.self-inside.out.items c.from.result (Some c.args.order)) =
    subst (λ (i : ℕ). IsDivided (2 ^ c.loop-rest.self-inside.order) c.loop-rest.self-inside.free (set c.loop-rest.self-inside.out.items i (Some c.args.order))) (sym c.from.ensures)
    (subst (λ (k : ℕ). IsDivided (2 ^ c.loop-rest.self-inside.order) c.loop-rest.self-inside.free (set c.loop-rest.self-inside.out.items c.in_ok-start.field-0.start (Some k))) done c.loop-rest.invariant.divided) in
    IsPool-next c.self.inside.order c.loop-rest.self-inside.order c.self.inside.free c.loop-rest.self-inside.free c.self.inside.out.items (set c.loop-rest.self-inside.out.items c.from.result (Some c.args.order)) c.self.inside.bytes.items c.loop-rest.self-inside.bytes.items c.self.invariant c.loop-rest.invariant.order_same
    (c.loop-rest.invariant.free_len ∙ ap (λ (l : List (Option ℕ)). length l) c.remove.ensures ∙ length-set c.self.inside.free c.in_ok-start.field-0.start None)
    (length-set c.loop-rest.self-inside.out.items c.from.result (Some c.args.order) ∙ ap (λ (v : Vec (Option ℕ) Global). length v.items) c.loop-rest.invariant.out_same)
    (ap (λ (v : Vec ℕ Global). length v.items) c.loop-rest.invariant.bytes_same)
    divided

pub returns-clause-none : goal.returns-clause-none
returns-clause-none c = (λ e. absurd (true≢false e), λ never. absurd (never (record { start = c.in_ok-start.field-0.start; order = c.in_ok-start.field-0.order; at_least = c.in_ok-start.ensures.found.0; free = subst (λ (p : Region). RunBegins p.free c.in_ok-start.field-0.start c.in_ok-start.field-0.order) c.self.view_is c.in_ok-start.ensures.found.2 })))

pub returns-clause-kept : goal.returns-clause-kept
returns-clause-kept c = record { order = search rules; bytes = search rules; sound = invariant_of-self c }

pub returns-clause-taken : goal.returns-clause-taken
returns-clause-taken c =
    let below : c.in_ok-start.field-0.start < length c.loop-rest.self-inside.out.items = omega (arith, ap (λ (v : Vec (Option ℕ) Global). length v.items) c.loop-rest.invariant.out_same, HasRun-below c.self.inside.free c.in_ok-start.field-0.start c.in_ok-start.field-0.order c.in_ok-start.ensures.found.2, c.self.invariant.out_len, c.self.invariant.free_len) in
    record {
      order = search rules;
      was_free = record {
        start = c.in_ok-start.field-0.start;
        order = c.in_ok-start.field-0.order;
        free = subst (λ (p : Region). RunBegins p.free c.in_ok-start.field-0.start c.in_ok-start.field-0.order) c.self.view_is c.in_ok-start.ensures.found.2;
        lowest = λ s k a r. c.in_ok-start.ensures.lowest s k a (subst (λ (p : Region). RunBegins p.free s k) (sym c.self.view_is) r);
        low = omega arith;
        high = omega (arith, pow-le-pow_right {n = 2} (omega arith) c.in_ok-start.ensures.found.0);
      };
      is_out = subst (λ (i : ℕ). RunBegins (set c.loop-rest.self-inside.out.items i (Some c.args.order)) c.in_ok-start.field-0.start c.args.order) (sym c.from.ensures) (set-at c.loop-rest.self-inside.out.items c.in_ok-start.field-0.start c.args.order below);
      apart = λ run out e.
          let was : RunBegins c.self.inside.out.items run.start run.order = subst (λ (p : Region). RunBegins p.out run.start run.order) (sym c.self.view_is) out in
          c.self.invariant.divided.exclusive c.in_ok-start.field-0.start c.in_ok-start.field-0.order run.order c.in_ok-start.ensures.found.2 (subst (λ (i : ℕ). RunBegins c.self.inside.out.items i run.order) e was);
      out = search rules;
    }

pub returns-clause-still_out : goal.returns-clause-still_out
returns-clause-still_out c run out =
    let was : RunBegins c.self.inside.out.items run.start run.order = subst (λ (p : Region). RunBegins p.out run.start run.order) (sym c.self.view_is) out in
    let same : c.loop-rest.self-inside.out.items ≡ c.self.inside.out.items = ap (λ (v : Vec (Option ℕ) Global). v.items) c.loop-rest.invariant.out_same in
    let now : RunBegins c.loop-rest.self-inside.out.items run.start run.order = subst (λ (o : List (Option ℕ)). RunBegins o run.start run.order) (sym same) was in
    set-other c.loop-rest.self-inside.out.items c.from.result run.start run.order (Some c.args.order) (λ e. (returns-clause-taken c).apart run out (e ∙ c.from.ensures)) now
