-- What a command sees of the disk and of the two streams, and how it ends.
use Rattle.std.specs.Prelude.{◌≡◌, ℕ, Bool, true, false, List, []}
use Rattle.fx_disk.specs.Seen.{DiskSeen}
use Rattle.fx_io.specs.Seen.{SourceSeen, SinkSeen, HasTaken}
use Rattle.fx_history.specs.declared.entry.Entry.{Entry}
use Rattle.fx_history.specs.Outcome.{LineEnd}
use Rattle.fxfs.specs.declared.ended.Stop.{Stop}
use Rattle.fxfs.specs.Stop.{stop_line}

-- What is seen of the disk and of the two streams.
pub record Outside : Type 0 where
  pub disk : DiskSeen
  pub source : SourceSeen
  pub sink : SinkSeen

abbrev pub outside : DiskSeen → SourceSeen → SinkSeen → Outside
outside disk source sink = record { disk = disk; source = source; sink = sink }

-- How a command ended: why, the commits of the disk when it was mounted, those made since, and the
-- ends of the lines.
pub record End : Type 0 where
  pub stop : Stop
  pub base : ℕ
  pub history : List Entry
  pub outcomes : List LineEnd

abbrev pub ended : Stop → ℕ → List Entry → List LineEnd → End
ended stop base history outcomes =
    record { stop = stop; base = base; history = history; outcomes = outcomes }

-- No line was run.
pub record IsIdle (end : End) : Type 0 where
  pub base : end.base ≡ 0
  pub history : end.history ≡ []
  pub outcomes : end.outcomes ≡ []

-- The sink took the text, and counted no fault.
abbrev pub Prints : SinkSeen → SinkSeen → List ℕ → Type 0
Prints before after text = HasTaken before after text true

-- The sink took a front of the text, which may be none of it, and failed.
abbrev pub FailsIn : SinkSeen → SinkSeen → List ℕ → Type 0
FailsIn before after text = HasTaken before after text false

-- The sink took the text, or it took a front of it and failed.
abbrev pub PrintsOrFails : SinkSeen → SinkSeen → List ℕ → Type 0
PrintsOrFails before after text = (good : Bool) × HasTaken before after text good

-- The command ended before any line was run, and told why.
pub record IsStopped (before after : SinkSeen) (end : End) : Type 0 where
  pub idle : IsIdle end
  pub stop : PrintsOrFails before after (stop_line end.stop)
