use Rattle.std.proofs.Common.{refl}
use Rattle.std.specs.Str.{chars, is_utf8}
use lib.Utf8.{encode}
use Rattle.percent_encoding.specs.Percent.{percent_decode}
use Rattle.fx_words.proofs.worked.removal_lines.Goals as goal

pub returns-clause-rm : goal.returns-clause-rm
unfolding percent_decode is_utf8 chars encode
returns-clause-rm c = refl

pub returns-clause-mv : goal.returns-clause-mv
unfolding percent_decode is_utf8 chars encode
returns-clause-mv c = refl

pub returns-clause-mv_to : goal.returns-clause-mv_to
unfolding percent_decode is_utf8 chars encode
returns-clause-mv_to c = refl
