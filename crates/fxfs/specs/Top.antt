-- What the top call does.
use Rattle.std.specs.Prelude.{◌≡◌, ℕ, Option, Some, None}
use Rattle.fxfs.specs.declared.command.Command.{Command}
use Rattle.fxfs.specs.declared.command.Command.TheVariants.{Shell, Mkfs}
use Rattle.fxfs.specs.declared.ended.Stop.TheVariants as stops
use Rattle.fxfs.specs.Outside.{Outside, End, IsStopped}
use Rattle.fxfs.specs.Shell.{ShellEnds}
use Rattle.fxfs.specs.Mkfs.{MkfsEnds}

-- The words are no command: none was begun, and the disk and the source are as they were.
pub record IsNoCommand (before after : Outside) (end : End) : Type 0 where
  pub stop : end.stop ≡ stops.BadWords
  pub stopped : IsStopped before.sink after.sink end
  pub disk : after.disk ≡ before.disk
  pub source : after.source ≡ before.source

-- `mkfs`, which leaves the source alone.
pub record MkfsRuns (ring : ℕ) (before after : Outside) (end : End) : Type 0 where
  pub ends : MkfsEnds ring before.disk after.disk before.sink after.sink end
  pub source : after.source ≡ before.source

-- What is done, by what the words are.
abbrev pub Does : Option Command → Outside → Outside → End → Type 0
Does None before after end = IsNoCommand before after end
Does (Some Shell) before after end = ShellEnds before after end
Does (Some (Mkfs ring)) before after end = MkfsRuns ring before after end
