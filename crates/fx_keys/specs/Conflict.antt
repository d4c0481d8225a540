-- Which modes exclude one another.
use Rattle.std.specs.Prelude.{Bool, true, false}
use Rattle.fx_item.specs.declared.lock.Mode.{Mode}
use Rattle.fx_item.specs.declared.lock.Mode.TheVariants.{Share, Change, Write, Read}

-- whether a hold in the first mode conflicts with another number's in the second
abbrev pub are_conflicting : Mode → Mode → Bool
are_conflicting Share Share = false
are_conflicting Share Change = true
are_conflicting Share Write = true
are_conflicting Share Read = false
are_conflicting Change Share = true
are_conflicting Change Change = true
are_conflicting Change Write = true
are_conflicting Change Read = false
are_conflicting Write Share = true
are_conflicting Write Change = true
are_conflicting Write Write = true
are_conflicting Write Read = true
are_conflicting Read Share = false
are_conflicting Read Change = false
are_conflicting Read Write = true
are_conflicting Read Read = false
