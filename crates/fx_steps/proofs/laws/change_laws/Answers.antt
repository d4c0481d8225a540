use Rattle.fx_steps.proofs.Done.{del_attr_done, remove_done, rename_done, set_attr_done, truncate_done}
use Rattle.fx_steps.proofs.laws.change_laws.Goals as goal

pub returns-clause-truncate : goal.returns-clause-truncate
returns-clause-truncate c = truncate_done

pub returns-clause-remove : goal.returns-clause-remove
returns-clause-remove c = remove_done

pub returns-clause-rename : goal.returns-clause-rename
returns-clause-rename c = rename_done

pub returns-clause-set : goal.returns-clause-set
returns-clause-set c = set_attr_done

pub returns-clause-unset : goal.returns-clause-unset
returns-clause-unset c = del_attr_done
