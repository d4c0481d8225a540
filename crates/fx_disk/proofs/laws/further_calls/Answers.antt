use Rattle.std.proofs.Common.{sym}
use Rattle.fx_disk.proofs.Left.{Fits-same, Left-earlier, Left-still, Left-within_write, Left-within_flush, Left-after, cells-within_write, cells-within_flush, cells-after}
use Rattle.fx_disk.proofs.laws.further_calls.Goals as goal

pub returns-clause-earlier : goal.returns-clause-earlier
returns-clause-earlier c r call contents image m lt = (Left-earlier r call contents m image lt, Left-still r call contents m image lt)

pub returns-clause-within_write : goal.returns-clause-within_write
returns-clause-within_write c r at bytes ok contents image = (Left-within_write r at bytes ok contents image, Fits-same _ _ _ _ (sym (cells-within_write r at bytes ok contents)))

pub returns-clause-within_flush : goal.returns-clause-within_flush
returns-clause-within_flush c r ok contents image = (Left-within_flush r ok contents image, Fits-same _ _ _ _ (sym (cells-within_flush r ok contents)))

pub returns-clause-after : goal.returns-clause-after
returns-clause-after c r call contents image = (Left-after r call contents image, Fits-same _ _ _ _ (sym (cells-after r call contents)))
