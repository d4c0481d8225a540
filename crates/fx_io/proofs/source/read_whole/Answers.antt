use Rattle.std.proofs.Common.{arith, length-append, length-take}
use Rattle.fx_io.proofs.Pieces.{gives_more, gives_most}
use Rattle.fx_io.proofs.source.read_whole.Goals as goal

pub returns-then-is_err-clause-most : goal.returns-then-is_err-clause-most
returns-then-is_err-clause-most g c =
    gives_most _ _ _ _ (gives_more _ _ _ _ _ c.loop-buffer.invariant.given c.in-Ok.ensures.gives)
    (simp (length-append, length-take) (omega (arith, length-take c.min-room.result c.loop-buffer.buffer)))

pub returns-then-is_err-clause-goes : goal.returns-then-is_err-clause-goes
returns-then-is_err-clause-goes g c = record {
  bytes = _;
  gives = gives_more _ _ _ _ _ c.loop-buffer.invariant.given c.in-Ok.ensures.gives;
  faults = omega (arith, c.loop-buffer.invariant.unfailed, c.in-Ok.ensures.faults.grows);
}
