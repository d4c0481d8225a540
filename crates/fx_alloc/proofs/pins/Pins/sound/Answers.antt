use Rattle.std.proofs.Common.{subst}
use Rattle.fx_alloc.specs.Pins.{PinTable}
use Rattle.fx_alloc.specs.PinCounts.{IsSoundTable}
use Rattle.fx_alloc.proofs.pins.Pins.sound.Goals as goal

pub returns : goal.returns
returns c = subst (λ (t : PinTable). IsSoundTable t) c.self.view_is (record { owned = c.self.invariant.owned; present = c.self.invariant.now })
