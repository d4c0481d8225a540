use Rattle.std.proofs.Common.{refl}
use Rattle.std.specs.Str.{chars, is_utf8}
use lib.Utf8.{encode}
use Rattle.percent_encoding.specs.Percent.{percent_decode}
use Rattle.fx_words.proofs.worked.setattr_lines.Goals as goal

pub returns-clause-good : goal.returns-clause-good
unfolding percent_decode is_utf8 chars encode
returns-clause-good c = refl

pub returns-clause-name : goal.returns-clause-name
unfolding percent_decode is_utf8 chars encode
returns-clause-name c = refl

pub returns-clause-name_slash : goal.returns-clause-name_slash
unfolding percent_decode is_utf8 chars encode
returns-clause-name_slash c = refl

pub returns-clause-none : goal.returns-clause-none
unfolding percent_decode is_utf8 chars encode
returns-clause-none c = refl

pub returns-clause-full : goal.returns-clause-full
unfolding percent_decode is_utf8 chars encode
returns-clause-full c = refl

pub returns-clause-long : goal.returns-clause-long
unfolding percent_decode is_utf8 chars encode
returns-clause-long c = refl
