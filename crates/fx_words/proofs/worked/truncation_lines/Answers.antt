use Rattle.std.proofs.Common.{refl}
use Rattle.std.specs.Str.{chars, is_utf8}
use lib.Utf8.{encode}
use Rattle.percent_encoding.specs.Percent.{percent_decode}
use Rattle.fx_words.proofs.worked.truncation_lines.Goals as goal

pub returns-clause-good : goal.returns-clause-good
unfolding percent_decode is_utf8 chars encode
returns-clause-good c = refl

pub returns-clause-number : goal.returns-clause-number
unfolding percent_decode is_utf8 chars encode
returns-clause-number c = refl
