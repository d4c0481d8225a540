use Rattle.fx_needs.proofs.Covers.{fits_243, is_256, is_257, is_across, not_244}
use Rattle.fx_needs.proofs.laws.worked_needs.Goals as goal

pub returns-clause-written_256 : goal.returns-clause-written_256
returns-clause-written_256 c = is_256

pub returns-clause-written_257 : goal.returns-clause-written_257
returns-clause-written_257 c = is_257

pub returns-clause-written_across : goal.returns-clause-written_across
returns-clause-written_across c = is_across

pub returns-clause-room_243 : goal.returns-clause-room_243
returns-clause-room_243 c = fits_243

pub returns-clause-room_244 : goal.returns-clause-room_244
returns-clause-room_244 c = not_244
