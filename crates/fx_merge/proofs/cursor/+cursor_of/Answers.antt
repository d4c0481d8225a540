use Rattle.std.proofs.Common.{sym, subst}
use Rattle.fx_merge.proofs.Forks.{ForkHolds}
use Rattle.fx_merge.proofs.cursor.+cursor_of.Goals as goal

pub returns-in_ok-fork-in_default-clause-holds : goal.returns-in_ok-fork-in_default-clause-holds
returns-in_ok-fork-in_default-clause-holds g t c = λ items place. subst (ForkHolds items place) (sym c.in_ok-fork-in_default.ensures.ok)
    (tt, tt, c.in_ok-newer-in_default.ensures.holds items place, c.in_ok-older-in_default.ensures.holds items place)
