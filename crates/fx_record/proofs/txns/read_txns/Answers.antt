use Rattle.fx_record.specs.Txns.{pieces_of}
use Rattle.fx_record.proofs.Moves.{gave, told}
use Rattle.fx_record.proofs.txns.read_txns.Goals as goal

pub returns-clause-all : goal.returns-clause-all
returns-clause-all c = gave c.read_all.result c.args.base (pieces_of c.args.pieces.now) c.read_all.ensures

pub returns-clause-bad : goal.returns-clause-bad
returns-clause-bad c = told c.read_all.result c.args.base (pieces_of c.args.pieces.now) c.read_all.ensures
