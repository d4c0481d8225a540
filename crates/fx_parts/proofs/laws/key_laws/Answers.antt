use Rattle.fx_parts.proofs.Conditions.{compatible, for_change, has_room, holder, is_above, is_next, seat}
use Rattle.fx_parts.proofs.laws.key_laws.Goals as goal

pub returns-clause-holder : goal.returns-clause-holder
returns-clause-holder c = λ s who key mode sound held. holder s.table s.parts sound.keys sound.numbers who key mode held

pub returns-clause-apart : goal.returns-clause-apart
returns-clause-apart c = λ s who other part its key grant held sound ne is got mine theirs. compatible s.table s.parts sound.keys sound.numbers who other part its key grant held ne is got mine theirs

pub returns-clause-seat : goal.returns-clause-seat
returns-clause-seat c = λ s who part sound is. seat s.table s.parts sound.keys sound.numbers who part is

pub returns-clause-ask : goal.returns-clause-ask
returns-clause-ask c = λ s who part key mode sound is may. (has_room s.table s.parts sound.keys sound.numbers who part is key mode may, is_above s.table s.parts sound.keys sound.numbers who part is key mode may)

pub returns-clause-raise : goal.returns-clause-raise
returns-clause-raise c = λ s who part key sound is may. (for_change s.table s.parts sound.keys sound.numbers who part is key may, is_next s.table s.parts sound.keys sound.numbers who part is key may)
