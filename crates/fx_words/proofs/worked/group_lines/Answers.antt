use Rattle.std.proofs.Common.{refl}
use Rattle.std.specs.Str.{chars, is_utf8}
use lib.Utf8.{encode}
use Rattle.percent_encoding.specs.Percent.{percent_decode}
use Rattle.fx_words.proofs.worked.group_lines.Goals as goal

pub returns-clause-two : goal.returns-clause-two
unfolding percent_decode is_utf8 chars encode
returns-clause-two c = refl

pub returns-clause-empty_last : goal.returns-clause-empty_last
unfolding percent_decode is_utf8 chars encode
returns-clause-empty_last c = refl

pub returns-clause-alone : goal.returns-clause-alone
unfolding percent_decode is_utf8 chars encode
returns-clause-alone c = refl

pub returns-clause-attr : goal.returns-clause-attr
unfolding percent_decode is_utf8 chars encode
returns-clause-attr c = refl

pub returns-clause-first : goal.returns-clause-first
unfolding percent_decode is_utf8 chars encode
returns-clause-first c = refl

pub returns-clause-full : goal.returns-clause-full
unfolding percent_decode is_utf8 chars encode
returns-clause-full c = refl

pub returns-clause-long : goal.returns-clause-long
unfolding percent_decode is_utf8 chars encode
returns-clause-long c = refl
