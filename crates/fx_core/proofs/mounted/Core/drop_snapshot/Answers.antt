use Rattle.std.proofs.Common.{◌≡◌, Some, sym, subst}
use Rattle.std.specs.Prelude.{slice_get}
use Rattle.fx_numbers.specs.Shots.{taken_of}
use Rattle.fx_numbers.specs.State.{HasUsedPart}
use Rattle.fx_parts.specs.Happening.{DropSnapshot}
use Rattle.fx_core.specs.Core.{CoreState}
use Rattle.fx_core.proofs.Calls.{core_step}
use Rattle.fx_core.proofs.mounted.Core.drop_snapshot.Goals as goal

pub drop_snapshot-requires : goal.drop_snapshot-requires
drop_snapshot-requires g c = subst (λ (v : CoreState g.row.D.Denot). HasUsedPart v.numbers c.args.who (λ part. slice_get part.snapshots c.args.index ≡ Some (taken_of c.args.shot))) (sym c.self.view_is) c.requires

pub invariant_of-self : goal.invariant_of-self
invariant_of-self g c = core_step c.self.invariant (DropSnapshot c.args.who c.args.index) tt c.drop_snapshot.ensures
