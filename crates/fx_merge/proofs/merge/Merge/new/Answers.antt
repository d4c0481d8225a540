use Rattle.fx_item.specs.Item.{key_of}
use Rattle.fx_item.specs.Place.{begins}
use Rattle.fx_merge.proofs.merge.Merge.new.Goals as goal

pub invariant_of-result : goal.invariant_of-result
invariant_of-result g c = (c.in_ok-cursor.ensures.holds (λ l. g.L.Level.items l.now) (begins (key_of c.args.from)), tt)
