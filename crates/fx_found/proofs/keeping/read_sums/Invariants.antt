use Rattle.std.proofs.Common.{◌≡◌, ℕ, ◌-◌, ◌<◌, ◌≤◌, List, take, true, length, get_or}
use Rattle.fx_sum.specs.Checksum.{fletch}
use Rattle.fx_layfile.specs.Layer.{TellsImage}
use Rattle.fx_found.specs.Reading.{ReadsAtMost, sums_in}
use Rattle.fx_found.proofs.keeping.read_sums.Given as goal

abbrev pub invariant-loop-block : goal.invariant-loop-block
invariant-loop-block g l = record {
  least : l.begin ≤ l.reach;
  most : l.reach ≤ (g.D.Disk.seen l.fn.disk).size;
  ahead : (j : ℕ) → l.block-index ≤ j → j < length l.blocks → l.begin ≤ get_or l.blocks j 0 → l.reach ≤ get_or l.blocks j 0;
  sums : (image : List (List ℕ)) → TellsImage (g.D.Disk.seen l.fn.disk) image → l.sums.items ≡ sums_in (fletch 0) l.begin image (take l.block-index l.blocks);
  read : ReadsAtMost (g.D.Disk.seen l.fn.disk) (g.D.Disk.seen l.disk) (l.reach - l.begin) true;
}
