use Rattle.std.proofs.Common.{◌≡◌, sym, subst}
use Rattle.std.specs.List.{reduce}
use Rattle.std.proofs.lemmas.Iterator.{YieldsList-from_slice}
use Rattle.std.proofs.lemmas.Iterator.Consumers.{reduce_from_yields_List, YieldsList-at, YieldsList-from_copied}
use Rattle.fx_nodes.specs.Faults.{IsLeastNode}
use Rattle.fx_nodes.proofs.Nodes.{lesser, reduce_least}
use Rattle.fx_audit.proofs.nodes.least.Goals as goal

pub returns : goal.returns
returns c =
    let nodes = c.args.nodes.now in
    let same : c.min.result ≡ reduce lesser nodes = reduce_from_yields_List lesser c.copied.result c.min.result c.min.ensures.ran
    (YieldsList-from_copied (YieldsList-at c.copied.ensures.source (YieldsList-from_slice nodes c.iter.ensures.rest))) in
    subst (IsLeastNode nodes) (sym same) (reduce_least nodes)
