use Rattle.fx_record.proofs.Sessions.{one_more_epoch, one_more_session, stopped_session}
use Rattle.fx_record.proofs.Epochs.{texts_more}
use Rattle.fx_record.proofs.laws.one_more_epoch.Goals as goal

pub returns-clause-blocks : goal.returns-clause-blocks
returns-clause-blocks c = one_more_epoch

pub returns-clause-session : goal.returns-clause-session
returns-clause-session c = one_more_session

pub returns-clause-stopped : goal.returns-clause-stopped
returns-clause-stopped c = stopped_session

pub returns-clause-text : goal.returns-clause-text
returns-clause-text c = texts_more
