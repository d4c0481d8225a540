use Rattle.std.proofs.Common.{◌≡◌, arith, List, ℕ, sym, subst, ap, length, rules}
use Rattle.fx_script.specs.Cut.{cut}
use Rattle.fx_script.specs.Word.{names_of}
use Rattle.fx_script.specs.Checked.{checked, names_in}
use Rattle.fx_script.proofs.Names.{names_checked}
use Rattle.fx_script.proofs.word.check_names.Goals as goal

pub loop-piece-init : goal.loop-piece-init
loop-piece-init c =
    let whole = cut 47 c.args.text.now in
    let all : c.into_iter-piece-iterator.result ≡ whole = search rules in
    record {
      names = subst (λ (pieces : List (List ℕ)). checked (names_of pieces) (names_in whole) ≡ names_of whole) (sym all) (names_checked whole);
      count = omega (arith, ap length all);
      few = omega arith;
    }
