use Rattle.std.proofs.Common.{◌≡◌, ◌-◌, ℕ, List, [], length, true}
use Rattle.std.specs.Prelude.{count_by}
use Rattle.fx_layfile.specs.Layer.{AreUnmarked, mark_blocks, blocks_in, TellsImage, ReadsMarked}
use Rattle.fx_layfile.specs.Reading.{Leads}
use Rattle.fx_layfile.proofs.reading.read_index.Given as goal

abbrev pub invariant-chain : goal.invariant-chain
invariant-chain g l = record {
  places : AreUnmarked l.ring l.fn.taken l.places.items;
  marks : l.taken ≡ mark_blocks l.fn.taken l.places.items;
  follows : l.at ≡ 0 → l.places.items ≡ [];
  leads : (image : List (List ℕ)) → TellsImage (g.D.Disk.seen l.fn.disk) image → Leads (blocks_in image) l.tree l.fn.first l.at l.places.items l.names.items;
  marked : ReadsMarked (g.D.Disk.seen l.fn.disk) (g.D.Disk.seen l.disk) l.fn.taken l.taken true;
}

abbrev pub decreases-chain : goal.decreases-chain
decreases-chain g l = length l.taken - count_by (λ mark. mark) l.taken
