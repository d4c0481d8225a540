use Rattle.std.proofs.Common.{◌≡◌, Some, Less, subst, sym}
use Rattle.std.specs.FinMap as finite
use Rattle.fx_item.specs.LockKey.{key_cmp}
use Rattle.fx_item.specs.declared.lock.LockKey.{LockKey}
use Rattle.fx_parts.specs.Parts.{Grant, Part}
use Rattle.fx_numbers.proofs.part.Kept.hold.Goals as goal

pub push-requires-clause-above : goal.push-requires-clause-above
push-requires-clause-above c = subst (λ (p : Part). (k : LockKey) (grant : Grant) → finite.get p.grants k ≡ Some grant → key_cmp k c.args.key ≡ Less) (sym c.self.view_is) c.requires.above
