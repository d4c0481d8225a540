use Rattle.fx_uses.proofs.NamedLayers.{named_pinned, named_pins_switch, named_pins_left, named_pins_more, named_current_left, named_next_left}
use Rattle.fx_uses.proofs.layers.layers_of_pins.Goals as goal

pub returns-clause-made : goal.returns-clause-made
returns-clause-made g c reads = named_pinned g.L.LayerMeaning.means reads

pub returns-clause-switch : goal.returns-clause-switch
returns-clause-switch g c reads = named_pins_switch g.L.LayerMeaning.means reads

pub returns-clause-ended : goal.returns-clause-ended
returns-clause-ended g c reads = named_pins_left g.L.LayerMeaning.means reads

pub returns-clause-more : goal.returns-clause-more
returns-clause-more g c reads = named_pins_more g.L.LayerMeaning.means reads

pub returns-clause-current : goal.returns-clause-current
returns-clause-current g c reads = named_current_left g.L.LayerMeaning.means reads

pub returns-clause-next : goal.returns-clause-next
returns-clause-next g c reads = named_next_left g.L.LayerMeaning.means reads
