use Rattle.std.proofs.Common.{refl}
use Rattle.std.specs.Str.{chars, is_utf8}
use lib.Utf8.{encode}
use Rattle.percent_encoding.specs.Percent.{percent_decode}
use Rattle.fx_words.proofs.worked.attribute_lines.Goals as goal

pub returns-clause-delattr : goal.returns-clause-delattr
unfolding percent_decode is_utf8 chars encode
returns-clause-delattr c = refl

pub returns-clause-delattr_name : goal.returns-clause-delattr_name
unfolding percent_decode is_utf8 chars encode
returns-clause-delattr_name c = refl

pub returns-clause-attr : goal.returns-clause-attr
unfolding percent_decode is_utf8 chars encode
returns-clause-attr c = refl

pub returns-clause-attr_name : goal.returns-clause-attr_name
unfolding percent_decode is_utf8 chars encode
returns-clause-attr_name c = refl
