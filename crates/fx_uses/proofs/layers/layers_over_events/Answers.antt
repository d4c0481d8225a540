use Rattle.std.proofs.Common.{set}
use Rattle.fx_uses.proofs.NamedLayers.{named_use, named_put, named_written, named_flush, named_firm, named_settled, named_commit, named_rollback, named_anew}
use Rattle.fx_uses.proofs.layers.layers_over_events.Goals as goal

pub returns-clause-drawn : goal.returns-clause-drawn
returns-clause-drawn g c reads = named_use g.L.LayerMeaning.means reads

pub returns-clause-put : goal.returns-clause-put
returns-clause-put g c reads s r reader base firsts blocks said at sum to bytes ok held = named_put g.L.LayerMeaning.means reads s r reader base firsts blocks said at sum to bytes ok (set r.contents at held)

pub returns-clause-written : goal.returns-clause-written
returns-clause-written g c reads s r reader base firsts blocks said at bytes ok held = named_written g.L.LayerMeaning.means reads s r reader base firsts blocks said at bytes ok (set r.contents at held)

pub returns-clause-flush : goal.returns-clause-flush
returns-clause-flush g c reads s r reader base firsts blocks said ok = named_flush g.L.LayerMeaning.means reads s r reader base firsts blocks said ok r.contents

pub returns-clause-firm : goal.returns-clause-firm
returns-clause-firm g c reads = named_firm g.L.LayerMeaning.means reads

pub returns-clause-settle : goal.returns-clause-settle
returns-clause-settle g c reads = named_settled g.L.LayerMeaning.means reads

pub returns-clause-commit : goal.returns-clause-commit
returns-clause-commit g c reads = named_commit g.L.LayerMeaning.means reads

pub returns-clause-rollback : goal.returns-clause-rollback
returns-clause-rollback g c reads = named_rollback g.L.LayerMeaning.means reads

pub returns-clause-anew : goal.returns-clause-anew
returns-clause-anew g c reads = named_anew g.L.LayerMeaning.means reads
