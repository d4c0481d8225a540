use Rattle.fx_disk.proofs.Told.{told-map}
use Rattle.fx_uses.specs.Uses.{last}
use Rattle.fx_disk.specs.Always.{Always}
use Rattle.fx_cuts.specs.Images.{LeavesPrefix}
use Rattle.fx_cuts.specs.KeepsJoined.{HoldsState}
use Rattle.fx_cuts.proofs.JoinedSteps.{step_begin}
use Rattle.fx_cuts.proofs.MarksMade.{by_latest}
use Rattle.fx_cuts.proofs.stops.joined_begins.Goals as goal

pub returns-clause-begin : goal.returns-clause-begin
returns-clause-begin g c = step_begin g.W.ImageReader.means

pub returns-clause-always : goal.returns-clause-always
returns-clause-always g c trees kept from s marks bases seen h = told-map (HoldsState g.W.ImageReader.means trees from s marks bases) (Always (LeavesPrefix g.W.ImageReader.means trees (last s.blocks) marks bases) from) seen.told (λ r i. i.always) h.told

pub returns-clause-least : goal.returns-clause-least
returns-clause-least g c trees kept from s marks bases seen h most m k image le p =
    (p.settled 0 (record { number = kept; calls = from }) h.plain.marked.first le, p.based 0 (record { number = s.blocks.base; calls = from }) h.plain.noted.first le)

pub returns-clause-now : goal.returns-clause-now
returns-clause-now g c trees kept from s marks bases seen h most m k image le p =
    (by_latest kept from s.blocks.settled seen.calls m k marks h.plain.marked le p.settled, by_latest s.blocks.base from s.based seen.calls m p.base bases h.plain.noted le p.based)
