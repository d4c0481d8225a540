use Rattle.std.proofs.Common.{◌+◌, ◌*◌}
use Rattle.fx_merge.specs.Cursor.{cursor_size}
use Rattle.fx_merge.proofs.cursor.+looking.Given as goal

abbrev pub decreases-bring_up : goal.decreases-bring_up
decreases-bring_up g l = 2 * cursor_size l.half.now.levels + 1

abbrev pub decreases-first : goal.decreases-first
decreases-first g l = 2 * cursor_size l.cursor.now
