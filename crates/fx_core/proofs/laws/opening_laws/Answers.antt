use Rattle.fx_core.proofs.Opened.{logged_opening, makes_opening}
use Rattle.fx_core.proofs.laws.opening_laws.Goals as goal

pub returns-clause-logged : goal.returns-clause-logged
returns-clause-logged c = λ calls size from mounted super read place txns supers ids stores faults i k. logged_opening c.after_all_law.ensures mounted txns calls size from super read place supers ids stores faults i k

pub returns-clause-makes : goal.returns-clause-makes
returns-clause-makes c = λ mounted txns stands is_bare. makes_opening c.after_all_law.ensures mounted txns stands is_bare
