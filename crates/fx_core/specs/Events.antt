-- Which events the journal does not see, and which leave what is reserved.
use Rattle.fx_parts.specs.Happening.{Commit, Count, Mark, Reserve, RollBack, SharedEvent}

-- the event is no commit, and settles none
abbrev pub LeavesJournal : SharedEvent → Type 0
LeavesJournal (Commit who entry items) = ⊥
LeavesJournal (Mark number calls) = ⊥
LeavesJournal event = Unit {0}

-- nor does it reserve, give back, or count faults of the disk
abbrev pub IsQuiet : SharedEvent → Type 0
IsQuiet (Commit who entry items) = ⊥
IsQuiet (Mark number calls) = ⊥
IsQuiet (Reserve who need bytes) = ⊥
IsQuiet (RollBack who) = ⊥
IsQuiet (Count faults) = ⊥
IsQuiet event = Unit {0}
