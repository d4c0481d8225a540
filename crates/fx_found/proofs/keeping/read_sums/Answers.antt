use Rattle.std.proofs.Common.{◌≡◌, ◌∙◌, ◌+◌, ◌<◌, ◌≤◌, ℕ, List, [], ◌∷◌, ◌++◌, take, get_or, sym, ap, subst, arith, true, max, append-nil}
use Rattle.std.proofs.lemmas.List.{take_more, take_all}
use Rattle.std.proofs.lemmas.Grind.{flat_map-append}
use Rattle.std.proofs.lemmas.Map.Keys.{below_from_sorted}
use Rattle.fx_disk.proofs.Frames.{only_read_then}
use Rattle.fx_base.proofs.Faults.{answer_then}
use Rattle.fx_sum.specs.Checksum.{fletch}
use Rattle.fx_layfile.proofs.Walking.{tells_on}
use Rattle.fx_found.specs.Reading.{sum_in, sums_in}
use Rattle.fx_found.proofs.keeping.read_sums.Goals as goal

pub loop-block-preserved : goal.loop-block-preserved
loop-block-preserved g c =
    let inv = c.loop-block.invariant in
    let blocks : List ℕ = c.args.blocks.now in
    let k : ℕ = c.loop-block.block-index in
    let block : ℕ = get_or blocks k 0 in
    let next : take (k + 1) blocks ≡ take k blocks ++ block ∷ [] = take_more blocks k 0 c.loop-block-test.true in
    let behind : c.in-Ok.reach ≤ max c.loop-block.reach (block + 1) = c.in-Ok.ensures.behind in
    record {
      least = omega (arith, inv.least, c.in-Ok.ensures.least);
      most = subst (λ (n : ℕ). c.in-Ok.reach ≤ n) inv.read.read.size c.in-Ok.ensures.most;
      ahead = λ j le lt from.
          let above : block < get_or blocks j 0 = below_from_sorted blocks k j 0 c.requires.ascending (omega (arith, le)) lt in
          let old : c.loop-block.reach ≤ get_or blocks j 0 = inv.ahead j (omega (arith, le)) lt from in
          omega (arith, behind, above, old);
      sums = λ image t.
          c.in-Ok.ensures.sums image (tells_on _ _ image inv.read.read t) ∙ ap (λ (w : List (ℕ × ℕ)). w ++ sum_in (fletch 0) c.args.begin image block) (inv.sums image t)
          ∙ ap (λ (w : List (ℕ × ℕ)). sums_in (fletch 0) c.args.begin image (take k blocks) ++ w) (sym (append-nil (sum_in (fletch 0) c.args.begin image block)))
          ∙ sym (flat_map-append (sum_in (fletch 0) c.args.begin image) (take k blocks) (block ∷ [])) ∙ ap (sums_in (fletch 0) c.args.begin image) (sym next);
      read = record {
        read = only_read_then _ _ _ inv.read.read c.in-Ok.ensures.read.read;
        faults = answer_then true _ _ _ inv.read.faults c.in-Ok.ensures.read.faults;
        few = omega (arith, inv.read.few, c.in-Ok.ensures.few, inv.least, c.in-Ok.ensures.least);
      };
    }

pub returns-clause-sums : goal.returns-clause-sums
returns-clause-sums g c image t = c.loop-block.invariant.sums image t ∙ ap (sums_in (fletch 0) c.args.begin image) (take_all c.loop-block.block-index c.args.blocks.now c.loop-block-test.false)
