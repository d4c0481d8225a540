use Rattle.std.proofs.Common.{◌≡◌, ◌+◌, drop, length, count_by}
use Rattle.fx_alloc.specs.Uses.{is_free}
use Rattle.fx_alloc.specs.Pins.{kept_blocks}
use Rattle.fx_alloc.specs.Layers.{pinned_use, change_all}
use Rattle.fx_alloc.proofs.layers.pin_free.Given as goal

abbrev pub invariant-loop-each : goal.invariant-loop-each
invariant-loop-each l = record {
  same : change_all pinned_use (kept_blocks (drop l.each-index l.kept)) l.uses ≡ change_all pinned_use (kept_blocks l.kept) l.initial.uses;
  counted : count_by is_free l.uses + l.count ≡ count_by is_free l.initial.uses;
  disk : length l.uses ≡ length l.initial.uses;
}
