use Rattle.std.proofs.Common.{◌≡◌, ◌+◌, subst}
use Rattle.std.specs.Prelude.{IfSome}
use Rattle.fx_plain.specs.Tree.{Tree}
use Rattle.fx_journal.specs.Ring.{begun}
use Rattle.fx_numbers.specs.State.{commit_now, shared_of}
use Rattle.fx_parts.specs.Live.{MakesNames}
use Rattle.fx_parts.specs.Sound.{IsSharedSound}
use Rattle.fx_core.specs.Core.{CoreState, LeavesHistory, OpensAs}
use Rattle.fx_core.proofs.Begun.{core_done, core_images, core_sound}
use Rattle.fx_core.proofs.mounted.Core.leaves.Goals as goal

pub returns-clause-images : goal.returns-clause-images
returns-clause-images g c = subst (λ (v : CoreState g.row.D.Denot). IfSome (g.D.Disk.seen v.disk).told (LeavesHistory (g.D.Disk.seen v.disk).size v.from v.txns v.numbers)) c.self.view_is (core_images c.self.inside.numbers c.self.invariant)

pub returns-clause-sound : goal.returns-clause-sound
returns-clause-sound g c = subst (λ (v : CoreState g.row.D.Denot). (tree : Tree) → OpensAs v.txns tree → IsSharedSound MakesNames (shared_of tree v.numbers)) c.self.view_is (core_sound c.self.inside.numbers c.self.invariant)

pub returns-clause-done : goal.returns-clause-done
returns-clause-done g c = subst (λ (v : CoreState g.row.D.Denot). v.tail.ring.queued + begun v.tail.ring.text ≡ 0 → v.tail.done ≡ commit_now v.numbers) c.self.view_is (core_done c.self.inside.numbers c.self.invariant c.done-done.ensures.tail)
