use Rattle.std.proofs.Common.{◌∙◌, refl}
use Rattle.fx_journal.proofs.Writes.{written-as}
use Rattle.fx_journal.proofs.ring_buffers.write_buffer.Goals as goal

pub returns : goal.returns
returns g c = record { written = written-as _ _ _ _ _ _ _ refl (c.in-Some.ensures.cases.same ∙ c.bytes.ensures.value) c.write.ensures.written }
