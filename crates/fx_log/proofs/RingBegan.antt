-- What a log began with, once further calls are made.
use Rattle.std.proofs.Common.{ℕ, ◌≤◌, List, length}
use Rattle.fx_disk.specs.Record.{Call, DiskRecord}
use Rattle.fx_disk.specs.Steps.{with_call}
use Rattle.fx_disk.proofs.Began.{began_as-after}
use Rattle.fx_super.specs.Super.{Fields}
use Rattle.fx_jblock.specs.declared.Start.{Start}
use Rattle.fx_journal.specs.declared.stream.StreamBlock.{StreamBlock}
use Rattle.fx_log.specs.Ring.{BeganWith}

module _ (r : DiskRecord) (call : Call) (contents : List (List ℕ)) (from : ℕ) (le : from ≤ length r.calls) where
  pub began_with-after : (f : Fields) (image : List (List ℕ)) (read : List StreamBlock) (place : Start) → BeganWith r from f image read place → BeganWith (with_call r call contents) from f image read place
  began_with-after f image read place h = record { begins = began_as-after r call contents from le image h.begins; chosen = h.chosen; blocks = h.blocks; stream = h.stream }
