use Rattle.std.proofs.Common.{sym, ◌∙◌, inl, inr}
use Rattle.fx_script.proofs.Found.{none_is}
use Rattle.fx_script.proofs.line.has_semicolon.Goals as goal

pub returns-else-may_have : goal.returns-else-may_have
returns-else-may_have c = elim c.may_have.ensures [ inl found ↦ absurd (cc (c.if-may_have.false)) | inr none ↦ c.if-may_have.false ∙ sym (none_is 59 c.args.words none) ]
