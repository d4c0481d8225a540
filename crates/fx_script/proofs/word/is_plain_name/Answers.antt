use Rattle.std.proofs.Common.{◌≡◌, ◌<◌, ◌≤◌, false, length, rules}
use Rattle.std.specs.Prelude.{codes, nat_eq}
use Rattle.std.specs.Cmp.Lexicographic.{pointwise}
use Rattle.fx_script.proofs.Found.{ascii_is, plain_name}
use Rattle.fx_script.proofs.word.is_plain_name.Goals as goal

pub returns : goal.returns
returns c =
    let text = c.args.piece.now in
    let some : 0 < length text = search rules in
    let few : length text ≤ 255 = search rules in
    let dot : pointwise nat_eq text (codes ".") ≡ false = search rules in
    let dots : pointwise nat_eq text (codes "..") ≡ false = search rules in
    λ ascii. plain_name text c.memchr3.result some few dot dots c.memchr3.ensures (search rules) (ascii_is c.is_ascii.result text c.is_ascii.ensures.cases ascii)
