use Rattle.std.proofs.Common.{◌≡◌, ◌+◌, drop, length, count_by}
use Rattle.fx_alloc.specs.Uses.{is_pinned}
use Rattle.fx_alloc.specs.Pins.{kept_blocks}
use Rattle.fx_alloc.specs.Layers.{freed_use, change_all}
use Rattle.fx_alloc.proofs.layers.free_pinned.Given as goal

abbrev pub invariant-loop-each : goal.invariant-loop-each
invariant-loop-each l = record {
  same : change_all freed_use (kept_blocks (drop l.each-index l.kept)) l.uses ≡ change_all freed_use (kept_blocks l.kept) l.initial.uses;
  counted : count_by is_pinned l.uses + l.count ≡ count_by is_pinned l.initial.uses;
  disk : length l.uses ≡ length l.initial.uses;
}
