use Rattle.std.proofs.Common.{◌≡◌, sym}
use Rattle.fx_disks.proofs.Searched.{found}
use Rattle.fx_disks.proofs.numbers.Numbers.contains.Goals as goal

pub returns : goal.returns
returns c = rw (c.is_ok.ensures.value, ← c.self.view_is, ← c.deref.ensures.value) (found _ _ _ (rw c.deref.ensures.value c.self.invariant) c.binary_search.ensures.position)
