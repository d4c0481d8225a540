-- The order of paths tells any two paths apart.
use Rattle.std.specs.Cmp.{IsTotalOrder, nat_cmp_total}
use Rattle.std.specs.Cmp.Lexicographic.{lists_total}
use Rattle.std.specs.FinMap.{IsAntisymmetric, slice_cmp-IsAntisymmetric, nat_cmp-IsAntisymmetric}
use Rattle.fx_plain.specs.Tree.{path_cmp}

pub paths_total : IsTotalOrder path_cmp
paths_total = lists_total (lists_total nat_cmp_total)

pub paths_exact : IsAntisymmetric path_cmp
paths_exact = slice_cmp-IsAntisymmetric (slice_cmp-IsAntisymmetric nat_cmp-IsAntisymmetric)
