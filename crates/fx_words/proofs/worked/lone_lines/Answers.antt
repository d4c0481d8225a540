use Rattle.std.proofs.Common.{refl}
use Rattle.std.specs.Str.{chars, is_utf8}
use lib.Utf8.{encode}
use Rattle.percent_encoding.specs.Percent.{percent_decode}
use Rattle.fx_words.proofs.worked.lone_lines.Goals as goal

pub returns-clause-first : goal.returns-clause-first
unfolding percent_decode is_utf8 chars encode
returns-clause-first c = refl
