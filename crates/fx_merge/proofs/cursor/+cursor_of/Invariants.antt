use Rattle.std.proofs.Common.{length}
use Rattle.fx_merge.proofs.cursor.+cursor_of.Given as goal

abbrev pub decreases-cursor_of : goal.decreases-cursor_of
decreases-cursor_of g l = length l.levels.now
