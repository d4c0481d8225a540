use Rattle.std.proofs.Common.{subst, arith, ◌+◌, ◌≤◌, sym, count_by}
use Rattle.fx_alloc.specs.Uses.{is_free}
use Rattle.fx_alloc.specs.Space.{Space, undrawn, left_aside, aside_count}
use Rattle.fx_alloc.specs.Inside.{IsSoundSpace}
use Rattle.fx_alloc.proofs.space.Space.sound.Goals as goal

pub returns : goal.returns
returns c =
    let s = c.self.invariant.0 in
    subst (λ (v : Space). IsSoundSpace v) c.self.view_is (record {
      held = subst (λ k. undrawn c.self.inside.holders.items + left_aside c.self.inside.aside k ≤ count_by is_free c.self.inside.uses.items) (sym s.counts.of_laid)
          (subst (λ k. undrawn c.self.inside.holders.items + left_aside c.self.inside.aside c.self.inside.laid.len ≤ k) (sym s.counts.of_free) s.fits);
      laid = subst (λ k. k ≤ aside_count c.self.inside.aside) (sym s.counts.of_laid) s.few_laid;
      whole = omega (arith, s.counts.of_all, s.counts.of_free, s.counts.of_live, s.counts.of_freed, s.counts.of_layers, s.counts.of_laid, s.counts.of_pinned);
      of_seats = λ seat. (s.of_seats seat).counted;
      waits = s.of_freed;
      all_wait = s.counts.of_freed;
      rising = s.rising;
      pins = c.self.invariant.1;
      sets = c.sound.ensures;
    })
