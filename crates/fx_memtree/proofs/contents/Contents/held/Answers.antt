use Rattle.std.proofs.Common.{◌≡◌, sym, ap, ◌∙◌, arith, rules}
use Rattle.std.specs.FinSet as set
use Rattle.std.specs.List.{count_by}
use Rattle.std.proofs.lemmas.List.Sums.{count_by-le-length}
use Rattle.fx_plain.specs.Node.{Contents}
use Rattle.fx_plain.proofs.Marks.{len-marked}
use Rattle.fx_memtree.proofs.contents.Contents.held.Goals as goal

pub returns : goal.returns
returns c =
    let counted : c.count.result ≡ count_by (λ b. b) c.self.inside.marks.items = search rules in
    record {
      blocks = counted ∙ sym (len-marked c.self.inside.marks.items) ∙ ap (λ (seen : Contents). set.len seen.held) c.self.view_is;
      few = omega (arith, counted, count_by-le-length (λ b. b) c.self.inside.marks.items, c.self.invariant.1);
    }
