use Rattle.fx_contents.proofs.Amiss.{all_within, all_on_disk, names_amiss, least_names}
use Rattle.fx_contents.proofs.amiss_laws.Goals as goal

pub returns-clause-within : goal.returns-clause-within
returns-clause-within c = λ ring disk m fine. (all_within ring disk m fine, all_on_disk ring disk m fine)

pub returns-clause-names : goal.returns-clause-names
returns-clause-names c = names_amiss

pub returns-clause-least : goal.returns-clause-least
returns-clause-least c = least_names
