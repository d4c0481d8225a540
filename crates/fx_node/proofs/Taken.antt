-- What a portion takes: few blocks, and runs that the node has.
use Rattle.std.proofs.Common.{◌≡◌, ℕ, suc, ◌+◌, ◌-◌, ◌*◌, ◌≤◌, ◌++◌, List, [], ◌∷◌, length, length-append, refl, sym, ap, ◌∙◌, arith, Bool}
use Rattle.std.specs.Prelude.{Some, slice_get, IsPermutation}
use Rattle.std.specs.List.{flat_map, range_with_len}
use Rattle.std.proofs.lemmas.List.Concat.{flat_map-cons}
use Rattle.std.proofs.lemmas.List.FromFn.{length-range_with_len, map-range_with_len_more}
use Rattle.std.proofs.lemmas.List.{map-id}
use Rattle.std.proofs.lemmas.List.Sorted.{length_permutation}
use Rattle.fx_namespace.specs.Nodes.{NodeId}
use Rattle.fx_contents.specs.Points.{Points}
use Rattle.fx_node.specs.Held.{IsRunOf}
use Rattle.fx_node.specs.Portions.{TakesPart, SomeNames, AllNames, blocks_of_run}
use Rattle.fx_node.specs.declared.holding.BlockRun.{BlockRun}

pub takes_runs : {m : Points} {node : NodeId} {names : List (List ℕ)} {runs : List BlockRun} {last : Bool} → TakesPart m node names runs last
    → (i : ℕ) (run : BlockRun) → slice_get runs i ≡ Some run → IsRunOf m node run
takes_runs (SomeNames first none) i run g = absurd (cc (sym (ap (λ rs. slice_get rs i) none) ∙ g))
takes_runs (AllNames last first rest) i run g = rest.there i run g

pub takes_few_runs : {m : Points} {node : NodeId} {names : List (List ℕ)} {runs : List BlockRun} {last : Bool} → TakesPart m node names runs last → length runs ≤ 256
takes_few_runs (SomeNames first none) = omega (arith, ap length none)
takes_few_runs (AllNames last first rest) = omega (arith, rest.few)

few_blocks : (runs : List BlockRun) → ((i : ℕ) (run : BlockRun) → slice_get runs i ≡ Some run → run.end ≤ run.start + 32) → length (flat_map blocks_of_run runs) ≤ 32 * length runs
few_blocks [] few = omega arith
few_blocks (r ∷ rs) few =
    omega (arith, few_blocks rs (λ i run g. few (suc i) run g), few 0 r refl, ap length (flat_map-cons blocks_of_run r rs), length-append (blocks_of_run r) (flat_map blocks_of_run rs), length-range_with_len r.block (r.end - r.start))

pub takes_few_blocks : {m : Points} {node : NodeId} {names : List (List ℕ)} {runs : List BlockRun} {last : Bool} → TakesPart m node names runs last
    → (frees : List ℕ) → IsPermutation (flat_map blocks_of_run runs) frees → length frees ≤ 8192
takes_few_blocks {runs = runs} t frees p =
    omega (arith, length_permutation (flat_map blocks_of_run runs) frees p, few_blocks runs (λ i run g. (takes_runs t i run g).few), takes_few_runs t)

pub range_more : (a n : ℕ) → range_with_len a (n + 1) ≡ range_with_len a n ++ (a + n) ∷ []
range_more a n = sym (map-id (range_with_len a (n + 1))) ∙ map-range_with_len_more (λ x. x) a n (a + n) refl
    ∙ ap (λ xs. xs ++ (a + n) ∷ []) (map-id (range_with_len a n))
