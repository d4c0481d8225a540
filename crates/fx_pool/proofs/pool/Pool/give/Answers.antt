use Rattle.std.proofs.Common.{rules, ◌≡◌, ◌∙◌, ◌<◌, ◌+◌, ◌^◌, ℕ, List, Option, Vec, Global, None, Some, get_or, set, length, length-set, ap, sym, refl, subst, arith}
use Rattle.std.proofs.lemmas.Bool.{false≢true}
use Rattle.fx_pool.specs.Region.{RunBegins, Region, Run, IsDivided}
use Rattle.fx_pool.proofs.Tables.{HasRun-below, set-other}
use Rattle.fx_pool.proofs.Pools.{few-blocks}
use Rattle.fx_pool.proofs.Divided.{out-none, out-order}
use Rattle.fx_pool.proofs.Steps.{buffer-run, struck-back, struck-none, Joining, joining-of, back-of, IsPool-next}
use Rattle.fx_pool.proofs.pool.Pool.give.Goals as goal

pub loop-self-init : goal.loop-self-init
loop-self-init c =
    let run : RunBegins c.self.inside.out.items c.buf.inside.start c.buf.inside.order = buffer-run c.self.inside.out.items c.buf.inside.start c.buf.inside.order c.args.self.now c.args.buf (ap (λ (p : Region). p.out) c.self.view_is) (ap (λ (r : Run). r.start) c.buf.view_is) (ap (λ (r : Run). r.order) c.buf.view_is) c.requires in
    record {
      order_same = refl;
      out_same = refl;
      bytes_same = refl;
      free_len = refl;
      below = omega (arith, length-set {A = Option ℕ} c.self.inside.out.items c.from.result None, HasRun-below c.self.inside.out.items c.buf.inside.start c.buf.inside.order run);
      none = subst (λ (i : ℕ). get_or (set c.self.inside.out.items i None) c.buf.inside.start None ≡ None) (sym c.from.ensures) (struck-none c.self.inside.out.items c.buf.inside.start c.buf.inside.order run);
      buddy = c.buddy_of-buddy.ensures;
      divided = subst (λ (i : ℕ). IsDivided (2 ^ c.self.inside.order) c.self.inside.free (set (set c.self.inside.out.items i None) c.buf.inside.start (Some c.buf.inside.order))) (sym c.from.ensures)
          (subst (λ (o : List (Option ℕ)). IsDivided (2 ^ c.self.inside.order) c.self.inside.free o) (sym (struck-back c.self.inside.out.items c.buf.inside.start c.buf.inside.order run)) c.self.invariant.divided);
    }

pub buddy_of-buddy-requires-in-loop-self-clause-start : goal.buddy_of-buddy-requires-in-loop-self-clause-start
buddy_of-buddy-requires-in-loop-self-clause-start c =
    let step : Joining c.loop-self.self-inside.order c.loop-self.self-inside.free c.loop-self.self-inside.out.items c.loop-self.buddy c.loop-self.run.order c.min.result = joining-of c.loop-self.self-inside.order c.loop-self.self-inside.free c.loop-self.self-inside.out.items c.loop-self.run.start c.loop-self.buddy c.loop-self.run.order c.min.result c.loop-self.invariant.buddy c.loop-self.invariant.divided c.loop-self.invariant.below c.loop-self.invariant.none (c.loop-self-test.ensures.0 refl) c.min.ensures in
    omega (arith, step.within, few-blocks c.loop-self.self-inside.order (omega (arith, c.loop-self.invariant.order_same, c.self.invariant.order_le)))

pub buddy_of-buddy-requires-in-loop-self-clause-order : goal.buddy_of-buddy-requires-in-loop-self-clause-order
buddy_of-buddy-requires-in-loop-self-clause-order c =
    let step : Joining c.loop-self.self-inside.order c.loop-self.self-inside.free c.loop-self.self-inside.out.items c.loop-self.buddy c.loop-self.run.order c.min.result = joining-of c.loop-self.self-inside.order c.loop-self.self-inside.free c.loop-self.self-inside.out.items c.loop-self.run.start c.loop-self.buddy c.loop-self.run.order c.min.result c.loop-self.invariant.buddy c.loop-self.invariant.divided c.loop-self.invariant.below c.loop-self.invariant.none (c.loop-self-test.ensures.0 refl) c.min.ensures in
    omega (arith, step.order, c.loop-self.invariant.order_same, c.self.invariant.order_le)

pub buddy_of-buddy-requires-in-loop-self-clause-aligned : goal.buddy_of-buddy-requires-in-loop-self-clause-aligned
buddy_of-buddy-requires-in-loop-self-clause-aligned c =
    let step : Joining c.loop-self.self-inside.order c.loop-self.self-inside.free c.loop-self.self-inside.out.items c.loop-self.buddy c.loop-self.run.order c.min.result = joining-of c.loop-self.self-inside.order c.loop-self.self-inside.free c.loop-self.self-inside.out.items c.loop-self.run.start c.loop-self.buddy c.loop-self.run.order c.min.result c.loop-self.invariant.buddy c.loop-self.invariant.divided c.loop-self.invariant.below c.loop-self.invariant.none (c.loop-self-test.ensures.0 refl) c.min.ensures in
    step.aligned

pub loop-self-smaller : goal.loop-self-smaller
loop-self-smaller c =
    let step : Joining c.loop-self.self-inside.order c.loop-self.self-inside.free c.loop-self.self-inside.out.items c.loop-self.buddy c.loop-self.run.order c.min.result = joining-of c.loop-self.self-inside.order c.loop-self.self-inside.free c.loop-self.self-inside.out.items c.loop-self.run.start c.loop-self.buddy c.loop-self.run.order c.min.result c.loop-self.invariant.buddy c.loop-self.invariant.divided c.loop-self.invariant.below c.loop-self.invariant.none (c.loop-self-test.ensures.0 refl) c.min.ensures in
    omega (arith, step.order, c.loop-self.invariant.order_same, c.self.invariant.order_le)

pub loop-self-preserved : goal.loop-self-preserved
loop-self-preserved c =
    let step : Joining c.loop-self.self-inside.order c.loop-self.self-inside.free c.loop-self.self-inside.out.items c.loop-self.buddy c.loop-self.run.order c.min.result = joining-of c.loop-self.self-inside.order c.loop-self.self-inside.free c.loop-self.self-inside.out.items c.loop-self.run.start c.loop-self.buddy c.loop-self.run.order c.min.result c.loop-self.invariant.buddy c.loop-self.invariant.divided c.loop-self.invariant.below c.loop-self.invariant.none (c.loop-self-test.ensures.0 refl) c.min.ensures in
    record {
      order_same = c.loop-self.invariant.order_same;
      out_same = c.loop-self.invariant.out_same;
      bytes_same = c.loop-self.invariant.bytes_same;
      free_len = ap (λ (l : List (Option ℕ)). length l) c.remove.ensures ∙ length-set c.loop-self.self-inside.free c.loop-self.buddy None ∙ c.loop-self.invariant.free_len;
      below = step.below;
      none = step.none;
      buddy = c.buddy_of-buddy-in-loop-self.ensures;
      divided = subst (λ (f : List (Option ℕ)). IsDivided (2 ^ c.loop-self.self-inside.order) f (set c.loop-self.self-inside.out.items c.min.result (Some (c.loop-self.run.order + 1)))) (sym c.remove.ensures) step.divided;
    }

pub insert-requires-clause-order : goal.insert-requires-clause-order
insert-requires-clause-order c = omega (arith, out-order c.loop-self.self-inside.order c.loop-self.self-inside.free c.loop-self.self-inside.out.items c.loop-self.run.start c.loop-self.run.order c.loop-self.invariant.below c.loop-self.invariant.divided, c.loop-self.invariant.order_same, c.self.invariant.order_le)

pub insert-requires-clause-none : goal.insert-requires-clause-none
insert-requires-clause-none c = out-none (2 ^ c.loop-self.self-inside.order) c.loop-self.self-inside.free c.loop-self.self-inside.out.items c.loop-self.run.start c.loop-self.run.order c.loop-self.invariant.below c.loop-self.invariant.divided

pub invariant_of-self : goal.invariant_of-self
invariant_of-self c =
    let below : c.loop-self.run.start < length c.loop-self.self-inside.free = omega (arith, c.loop-self.invariant.below, c.loop-self.invariant.free_len, ap (λ (v : Vec (Option ℕ) Global). length v.items) c.loop-self.invariant.out_same, length-set {A = Option ℕ} c.self.inside.out.items c.from.result None, c.self.invariant.out_len, c.self.invariant.free_len) in
    let divided : IsDivided (2 ^ c.loop-self.self-inside.order) c.insert.new.self c.loop-self.self-inside.out.items = subst (λ (f : List (Option ℕ)). IsDivided (2 ^ c.loop-self.self-inside.order) f c.loop-self.self-inside.out.items) (sym c.insert.ensures)
    (back-of (2 ^ c.loop-self.self-inside.order) c.loop-self.self-inside.free c.loop-self.self-inside.out.items c.loop-self.run.start c.loop-self.buddy c.loop-self.run.order c.loop-self.invariant.buddy below c.loop-self.invariant.below c.loop-self.invariant.none c.loop-self.invariant.divided (λ x. absurd (false≢true (c.loop-self-test.ensures.1 x)))) in
    IsPool-next c.self.inside.order c.loop-self.self-inside.order c.self.inside.free c.insert.new.self c.self.inside.out.items c.loop-self.self-inside.out.items c.self.inside.bytes.items c.loop-self.self-inside.bytes.items c.self.invariant c.loop-self.invariant.order_same
    (ap (λ (l : List (Option ℕ)). length l) c.insert.ensures ∙ length-set c.loop-self.self-inside.free c.loop-self.run.start (Some c.loop-self.run.order) ∙ c.loop-self.invariant.free_len)
    (ap (λ (v : Vec (Option ℕ) Global). length v.items) c.loop-self.invariant.out_same ∙ length-set c.self.inside.out.items c.from.result None)
    (ap (λ (v : Vec ℕ Global). length v.items) c.loop-self.invariant.bytes_same)
    divided

pub returns-clause-kept : goal.returns-clause-kept
returns-clause-kept c = record { order = search rules; bytes = search rules; sound = invariant_of-self c }

pub returns-clause-still_out : goal.returns-clause-still_out
returns-clause-still_out c run ne out =
    let was : RunBegins c.self.inside.out.items run.start run.order = subst (λ (p : Region). RunBegins p.out run.start run.order) (sym c.self.view_is) out in
    let same : c.loop-self.self-inside.out.items ≡ set c.self.inside.out.items c.from.result None = ap (λ (v : Vec (Option ℕ) Global). v.items) c.loop-self.invariant.out_same in
    subst (λ (o : List (Option ℕ)). RunBegins o run.start run.order) (sym same)
    (set-other c.self.inside.out.items c.from.result run.start run.order None (λ e. ne (e ∙ c.from.ensures ∙ ap (λ (r : Run). r.start) c.buf.view_is)) was)
