use Rattle.std.proofs.Common.{length, ap, arith}
use Rattle.fx_plain.proofs.Growth.{few_children}
use Rattle.fx_memtree.proofs.tree.MemoryTree.stat.Goals as goal

pub overflow_cast-result : goal.overflow_cast-result
overflow_cast-result c = omega (arith, c.requires, c.len.ensures, ap length c.in_ok-names.ensures, few_children c.args.self.now c.args.path.now)
