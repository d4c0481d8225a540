use Rattle.std.proofs.Common.{replicate}
use Rattle.fx_super.proofs.Blocks.{stands}
use Rattle.fx_super.proofs.Chosen.{zeros_have_no_magic}
use Rattle.fx_super.proofs.laws.zeros.Goals as goal

pub returns-clause-no_super : goal.returns-clause-no_super
returns-clause-no_super c = λ n f h. zeros_have_no_magic n (stands (replicate n 0) f h).magic_is

pub returns-clause-no_version : goal.returns-clause-no_version
returns-clause-no_version c = λ n v h. zeros_have_no_magic n h.magic_is
