use Rattle.fx_layerset.specs.Levels.{newest_first}
use Rattle.fx_layerset.proofs.Spoken.{stands_key}
use Rattle.fx_layerset.proofs.look.LayerSetLook.next_from.Goals as goal

pub returns-in_default-clause-listed : goal.returns-in_default-clause-listed
returns-in_default-clause-listed g c = λ key value h. stands_key (newest_first c.args.self.now.levels) key value h

pub returns-in_default-merge-clause-listed : goal.returns-in_default-merge-clause-listed
returns-in_default-merge-clause-listed g c = λ key value h. stands_key (newest_first c.args.self.now.levels) key value h

pub returns-clause-listed : goal.returns-clause-listed
returns-clause-listed g c = λ key value h. stands_key (newest_first c.args.self.now.levels) key value h
