use Rattle.std.proofs.Common.{◌≡◌, ◌+◌, ◌≤◌, length}
use Rattle.percent_encoding.specs.Percent.{percent_decode}
use Rattle.percent_encoding.specs.Iter.{decoded_bytes}
use Rattle.fx_words.specs.declared.line.TheConstants.{MAX_VALUE}
use Rattle.fx_words.proofs.steps.check_value_word.Given as goal

abbrev pub invariant-loop : goal.invariant-loop
invariant-loop l = record {
  count : l.count + length (decoded_bytes l.iterator') ≡ length (percent_decode l.word);
  few : l.count ≤ MAX_VALUE;
}
