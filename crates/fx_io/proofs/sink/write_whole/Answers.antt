use Rattle.std.proofs.Common.{◌∙◌, arith, false}
use Rattle.fx_io.proofs.Pieces.{written_more, written_front}
use Rattle.fx_base.proofs.Faults.{answer_then}
use Rattle.fx_io.proofs.sink.write_whole.Goals as goal

pub loop-rest-preserved : goal.loop-rest-preserved
loop-rest-preserved g c = record {
  written = rw c.split_at.ensures.back (written_more _ _ _ _ _ _ c.loop-rest.invariant.written c.in-Ok.ensures.takes);
  unfailed = c.in-Ok.ensures.faults.answer ∙ c.loop-rest.invariant.unfailed;
}

pub returns-in-Err : goal.returns-in-Err
returns-in-Err g c = record {
  taken = record {
    taken = written_front _ _ _ _ _ c.loop-rest.invariant.written c.in-Err.ensures.front;
    faults = record {
      answer = answer_then false _ _ _ c.loop-rest.invariant.unfailed c.in-Err.ensures.faults.answer;
      grows = omega (arith, c.loop-rest.invariant.unfailed, c.in-Err.ensures.faults.grows);
    };
  };
}
