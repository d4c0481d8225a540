use Rattle.fx_record.proofs.Steps.{read_as, refused_as}
use Rattle.fx_record.proofs.reading.decode_record.Goals as goal

pub returns-clause-only : goal.returns-clause-only
returns-clause-only c = read_as c.read_record.result c.args.bytes.now c.read_record.ensures.found c.read_record.ensures.fault

pub returns-clause-refused : goal.returns-clause-refused
returns-clause-refused c = refused_as c.read_record.result c.args.bytes.now c.read_record.ensures.found c.read_record.ensures.fault
