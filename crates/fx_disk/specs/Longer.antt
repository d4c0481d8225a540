-- What a disk tells later has what it told before, and more.
use Rattle.std.specs.Prelude.{◌≡◌, Option, Some, None, List, ◌++◌}
use Rattle.fx_disk.specs.Record.{Call, DiskRecord}

-- What two records have to do with each other, where the disk tells: it goes on telling, and a disk
-- that does not tell never begins to.
abbrev pub BothTell : (DiskRecord → DiskRecord → Type 0) → Option DiskRecord → Option DiskRecord →
    Type 0
BothTell P None after = after ≡ None
BothTell P (Some before) after = (now : DiskRecord) × (after ≡ Some now) × P before now

-- The later record has the same image at entry, and the calls of the earlier one with further ones.
pub record IsLonger (before after : DiskRecord) : Type 0 where
  pub entry : after.entry ≡ before.entry
  pub further : List Call
  pub calls : after.calls ≡ before.calls ++ further

abbrev pub Extends : Option DiskRecord → Option DiskRecord → Type 0
Extends before after = BothTell IsLonger before after
