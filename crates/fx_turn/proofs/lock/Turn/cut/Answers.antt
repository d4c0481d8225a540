use Rattle.std.proofs.Common.{rules}
use Rattle.fx_turn.proofs.Splits.{splits_keep}
use Rattle.fx_turn.proofs.lock.Turn.cut.Goals as goal

pub split_seat-requires : goal.split_seat-requires
split_seat-requires g c = (search rules, search rules, splits_keep g.T.Growing.log g.T.Growing.counts g.T.Growing.parts _ _ _ _ c.requires.rests (search rules))
