-- What `mkfs` does.
use Rattle.std.specs.Prelude.{◌≡◌, ℕ, ◌≤◌, ◌+◌}
use Rattle.fx_base.specs.Causes.{Rose}
use Rattle.fx_disk.specs.Seen.{DiskSeen, GoesOn, HasFailedLast}
use Rattle.fx_io.specs.Seen.{SinkSeen, SinkGoesOn}
use Rattle.fx_mount.specs.Formatted.{IsNowFormatted, HasRoomFor}
use Rattle.fxfs.specs.declared.ended.Stop.{Stop}
use Rattle.fxfs.specs.declared.ended.Stop.TheVariants as stops
use Rattle.fxfs.specs.Stop.{mkfs_line}
use Rattle.fxfs.specs.Outside.{End, IsIdle, IsStopped, Prints, FailsIn}

-- The disk has no room for the ring, or too many blocks, and is as it was.
pub record IsUnfit (ring : ℕ) (before after : DiskSeen) (told : ℕ) : Type 0 where
  pub unfit : HasRoomFor ring before.size → ⊥
  pub blocks : told ≡ before.size
  pub same : after ≡ before

-- The disk has room for the ring, and failed: the call that was last asked for was not made, or is
-- the last one and failed.
pub record HasNotFormatted (ring : ℕ) (before after : DiskSeen) : Type 0 where
  pub room : HasRoomFor ring before.size
  pub rose : Rose before.faults after.faults
  pub failed : HasFailedLast after
  pub calls : after.calls ≤ before.calls + ring + 4

-- What was done, by why the command stopped.
abbrev pub MkfsDid : ℕ → DiskSeen → DiskSeen → SinkSeen → SinkSeen → End → Stop → Type 0
MkfsDid ring before after sink_before sink_after end stops.Done =
    IsNowFormatted ring before after × Prints sink_before sink_after (mkfs_line before.size ring)
MkfsDid ring before after sink_before sink_after end stops.Write =
    IsNowFormatted ring before after × FailsIn sink_before sink_after (mkfs_line before.size ring)
MkfsDid ring before after sink_before sink_after end stops.Device =
    HasNotFormatted ring before after × IsStopped sink_before sink_after end
MkfsDid ring before after sink_before sink_after end (stops.DiskTooSmall blocks) =
    IsUnfit ring before after blocks × IsStopped sink_before sink_after end
MkfsDid ring before after sink_before sink_after end stop = ⊥

-- What `mkfs` does, and what holds however it stopped.
pub record MkfsEnds (ring : ℕ) (before after : DiskSeen) (sink_before sink_after : SinkSeen)
    (end : End) : Type 0 where
  pub did : MkfsDid ring before after sink_before sink_after end end.stop
  pub idle : IsIdle end
  pub disk : GoesOn before after
  pub sink : SinkGoesOn sink_before sink_after
