use Rattle.std.proofs.Common.{◌≡◌, arith, List, ℕ, rules, ap, length}
use Rattle.fx_script.specs.Cut.{words_of}
use Rattle.fx_words.specs.Lines.{cut_parts, group_steps_of}
use Rattle.fx_words.specs.Said.{steps_counted}
use Rattle.fx_words.proofs.Groups.{parts_few}
use Rattle.fx_words.proofs.check.count_steps.Goals as goal

pub loop-part-init : goal.loop-part-init
loop-part-init c =
    let text = c.args.text.now in
    let all : c.into_iter-part-iterator.result ≡ cut_parts (words_of text) = search rules in
    record {
      counted = ap (λ (parts : List (List (List ℕ))). steps_counted 0 (group_steps_of c.args.built parts)) all;
      few = omega (arith, parts_few text, ap length all);
    }
