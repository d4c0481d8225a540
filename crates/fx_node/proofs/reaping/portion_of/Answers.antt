use Rattle.std.proofs.Common.{◌∙◌, ap, sym, subst, arith}
use Rattle.std.specs.Prelude.{slice_get, IsPermutation}
use Rattle.std.specs.List.{flat_map}
use Rattle.fx_node.specs.Portions.{blocks_of_run}
use Rattle.fx_node.proofs.Taken.{takes_few_blocks, takes_runs}
use Rattle.fx_node.proofs.reaping.portion_of.Goals as goal

pub freed_blocks-requires-clause-start : goal.freed_blocks-requires-clause-start
freed_blocks-requires-clause-start g c = λ i run e.
    let r = takes_runs c.in_ok-part.ensures.takes i run (ap (λ rs. slice_get rs i) (sym c.deref.ensures.value) ∙ e) in omega (arith, r.some)

pub overflow_cast-sizes-3 : goal.overflow_cast-sizes-3
overflow_cast-sizes-3 g c = record { fits = omega (arith, c.len-2.ensures, takes_few_blocks c.in_ok-part.ensures.takes c.in_ok-frees.frees (subst (λ rs. IsPermutation (flat_map blocks_of_run rs) c.in_ok-frees.frees) c.deref.ensures.value c.in_ok-frees.ensures.freed)) }
