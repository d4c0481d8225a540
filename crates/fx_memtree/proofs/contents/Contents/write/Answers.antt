use Rattle.std.proofs.Common.{◌≢◌, ◌+◌, ◌-◌, ◌/◌, ◌++◌, length, [], true, take, drop, replicate, ap, refl, ◌∙◌, arith}
use Rattle.std.proofs.lemmas.Result.{err_from_is_err_and}
use Rattle.fx_plain.specs.Node.{overwritten, written}
use Rattle.fx_base.specs.declared.block.TheConstants.{BLOCK_BYTES}
use Rattle.fx_plain.specs.Memory.{marked}
use Rattle.fx_plain.proofs.Marks.{marked-append}
use Rattle.fx_plain.proofs.Files.{write_seen}
use Rattle.fx_memtree.proofs.contents.Contents.write.Goals as goal

pub returns-in_err-grow-2-clause-err : goal.returns-in_err-grow-2-clause-err
returns-in_err-grow-2-clause-err c =
    let error = err_from_is_err_and c.from_residual-in_err-grow-2.result c.from_residual-in_err-grow-2.ensures.1 in
    let held = ap marked c.in_ok-grow.ensures.ok ∙ marked-append c.self.inside.marks.items _ in
    rw error.1 ((λ i. record { bytes = c.in_err-grow-2.ensures.err i; held = held i }) ∙ c.self.view_is)

pub returns-clause-ok : goal.returns-clause-ok
returns-clause-ok c =
    let at = c.args.at in
    let text = c.args.text.now in
    let first = at / BLOCK_BYTES in
    let past = (at + length text - 1) / BLOCK_BYTES + 1 in
    let some : text ≢ [] = grind arith in
    let bytes = c.put.ensures ∙ ap (overwritten at text) c.in_ok-grow-2.ensures.ok in
    let marks = c.mark.ensures ∙ ap (λ xs. take first xs ++ replicate (past - first) true ++ drop past xs) c.in_ok-grow.ensures.ok in
    (λ i. record { bytes = bytes i; held = marked (marks i) })
    ∙ write_seen at text c.self.inside.bytes.items c.self.inside.marks.items past some refl
    ∙ ap (written at text) c.self.view_is
