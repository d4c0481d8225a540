use Rattle.std.proofs.Common.{ap, arith}
use Rattle.fx_jblock.specs.declared.Start.{Start}
use Rattle.fx_super.specs.Super.{fields_of}
use Rattle.fx_store.proofs.NewStores.{next_place}
use Rattle.fx_store.proofs.opening.prepare.Goals as goal

pub at-requires-clause-next : goal.at-requires-clause-next
at-requires-clause-next c =
    omega (arith, next_place c.requires.0 (fields_of c.args.sup.now) c.args.contents c.requires.1, ap (λ (s : Start). s.sequence) c.start_of.ensures)
