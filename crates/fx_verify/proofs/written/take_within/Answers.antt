use Rattle.std.proofs.Common.{ℕ, List, None, cond, ap, subst, sym, ◌∙◌}
use Rattle.std.specs.Ordering.{is_eq, nat_cmp}
use Rattle.fx_verify.specs.Kept.{is_within}
use Rattle.fx_verify.specs.Written.{sum_at}
use Rattle.fx_verify.proofs.Moved.{AreMoved, moved_more}
use Rattle.fx_verify.proofs.written.take_within.Goals as goal

pub blocks-2-preserved : goal.blocks-2-preserved
blocks-2-preserved c =
    let may = is_within c.args.start c.args.end in
    let stated = sum_at c.args.stated.now in
    let next = sum_at c.remove.new.self in
    let more = moved_more may stated (sum_at c.blocks-2.stated) c.args.written.now.items c.blocks-2.written.items next c.in-Some.block c.in-Some.sum c.blocks-2.invariant c.in-Some.ensures.within c.in-Some.ensures.stated
    (λ b. c.remove.ensures.updates.0 b ∙ ap (λ (n : ℕ). cond (is_eq (nat_cmp n b)) None (sum_at c.blocks-2.stated b)) c.from.ensures) in
    subst (λ (w : List (ℕ × ℕ)). AreMoved may stated next c.args.written.now.items w) (sym c.in_ok-push.ensures.items) more
