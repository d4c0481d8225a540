use Rattle.std.proofs.Common.{◌+◌, ◌*◌}
use Rattle.turn_bench.proofs.by_mutex.+count_in_threads+fn-count_in_threads-join+arg3.Given as goal

abbrev pub decreases-count_in_threads : goal.decreases-count_in_threads
decreases-count_in_threads g l = 2 * l.threads

abbrev pub decreases-join+arg3 : goal.decreases-join+arg3
decreases-join+arg3 g l = 2 * l.rest + 1
