use Rattle.std.proofs.Common.{take, ap, ◌∙◌}
use Rattle.fx_plain.specs.Memory.{marked}
use Rattle.fx_memtree.proofs.CutMarks.{cut_seen}
use Rattle.fx_memtree.proofs.contents.Contents.truncate.Goals as goal

pub returns-clause-ok : goal.returns-clause-ok
returns-clause-ok c =
    let bytes = c.truncate.ensures.items ∙ ap (take c.args.size) c.in_ok-grow.ensures.ok in
    (λ i. record { bytes = bytes i; held = marked (c.truncate-2.ensures.items i) })
    ∙ cut_seen c.args.size c.div_ceil.result c.self.inside.bytes.items c.self.inside.marks.items c.args.self.now c.self.view_is c.div_ceil.ensures
