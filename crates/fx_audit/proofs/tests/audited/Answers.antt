use Rattle.fx_audit.proofs.Halves.{standing_of}
use Rattle.fx_audit.proofs.tests.audited.Goals as goal

pub live_fault-requires-clause-standing : goal.live_fault-requires-clause-standing
live_fault-requires-clause-standing c = standing_of c.as_slice-items.result.now c.args.batch.now c.as_slice-items.ensures c.requires (c.has_no_tombstone.ensures.0 c.if-has_no_tombstone.true)
