use Rattle.std.proofs.Common.{◌≡◌, List, ℕ, rules, subst}
use Rattle.std.specs.Prelude.{IfOk}
use Rattle.fx_script.proofs.Found.{plain_text}
use Rattle.fx_script.proofs.word.decode.Goals as goal

pub returns-then-is_none : goal.returns-then-is_none
returns-then-is_none c =
    subst (λ (t : List ℕ). IfOk c.from_slice.result (λ bytes. bytes.items ≡ t))
    (plain_text c.args.word.now c.memchr.result c.memchr.ensures (search rules))
    c.from_slice.ensures.items
