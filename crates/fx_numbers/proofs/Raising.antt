-- A key of a part that is raised.
use Rattle.std.proofs.Common.{◌≡◌, Option, Some, None, ap}
use Rattle.std.specs.FinMap as finite
use Rattle.fx_item.specs.LockKey as lock
use Rattle.fx_item.specs.declared.lock.LockKey.{LockKey}
use Rattle.fx_item.specs.declared.lock.Mode.TheVariants.{Write}
use Rattle.fx_parts.specs.Parts.{Grant, Part}
use Rattle.fx_parts.specs.Happening.{with_raised}

pub raised_grant : (part : Part) (key : LockKey) (grant : Grant) → finite.get part.grants key ≡ Some grant → (with_raised key part).grants ≡ finite.insert part.grants key (record { mode = Write; number = grant.number })
raised_grant part key grant held = ap (λ (o : Option Grant). let a : finite.FinMap lock.key_cmp Grant = elim o [ Some grant ↦ finite.insert part.grants key (record grant { mode = Write }) | None ↦ part.grants ] in a) held
