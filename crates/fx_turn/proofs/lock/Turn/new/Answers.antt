use Rattle.std.proofs.Common.{sym, ap, ◌∙◌, subst, List, [], ◌∷◌, ◌++◌, Some, ◌≡◌, ◌<◌, Option, count_by}
use Rattle.atomic_table.specs.Table.{opening}
use Rattle.fx_turn.specs.Views.{resting}
use Rattle.fx_turn.specs.Rule.{Ruled}
use Rattle.fx_turn.proofs.Ends.{opens}
use Rattle.fx_turn.proofs.lock.Turn.new.Goals as goal

pub new-requires : goal.new-requires
new-requires g c = let log = g.T.Growing.log in let counts = g.T.Growing.counts in let parts = g.T.Growing.parts in
    let e : c.push_reserved.new.self.items ≡ Some c.args.value ∷ [] = c.push_reserved.ensures.items ∙ ap (λ (l : List (Option g.row.T.Denot)). l ++ Some c.args.value ∷ []) c.in-Ok.ensures.items in
    subst (λ (z : List (Option g.row.T.Denot) × g.row.T.Denot). Ruled log counts parts c.args.shares (opening (0 ∷ []) z.0 (resting (log z.1) (count_by counts (log z.1)) c.args.shares (parts z.1)))) (λ i. (sym e i, sym c.of.ensures i)) (opens log counts parts c.args.shares c.args.value c.requires)

pub invariant_of-pass : goal.invariant_of-pass
invariant_of-pass g c = let e = c.in-Ok-new.ensures.ok.4 in (c.in-Ok-new.seat.me.0, c.into_badge.ensures.2, ap (λ m. m.0.holds) e, subst (λ m. 0 < m.0.shares) (sym e) c.requires)
