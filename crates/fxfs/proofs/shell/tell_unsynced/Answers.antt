use Rattle.std.proofs.Common.{◌∙◌, inl, subst, List, ℕ, true}
use Rattle.std.specs.Prelude.{is_ok}
use Rattle.fx_io.specs.Seen.{HasTaken}
use Rattle.fx_io.proofs.Frames.{sink_then, taken_goes}
use Rattle.fx_history.specs.Text.{result_text}
use Rattle.fxfs.specs.declared.ended.Stop.TheVariants as stops
use Rattle.fxfs.specs.Stop.{stop_line}
use Rattle.fxfs.proofs.PrintedTexts.{both_printed}
use Rattle.fxfs.proofs.shell.tell_unsynced.Goals as goal

pub returns-clause-tells : goal.returns-clause-tells
returns-clause-tells g c =
    let before = g.K.Sink.seen c.args.out.now in
    let between = g.K.Sink.seen c.write_whole.new.out in
    let after = g.K.Sink.seen c.write_stop-told-2.new.out in
    let results : List ℕ = result_text c.args.tasks.now c.args.outcomes.now in
    let printed : HasTaken before between results true = subst (λ (text : List ℕ). HasTaken before between text true) (c.as_bytes.ensures.value ∙ c.in-Ok.ensures) c.in-Ok-write_whole.ensures.taken in
    inl (both_printed before between after results (stop_line stops.Device) printed (is_ok c.write_stop-told-2.result, c.write_stop-told-2.ensures))

pub returns-clause-goes : goal.returns-clause-goes
returns-clause-goes g c =
    let before = g.K.Sink.seen c.args.out.now in
    let between = g.K.Sink.seen c.write_whole.new.out in
    let after = g.K.Sink.seen c.write_stop-told-2.new.out in
    sink_then before between after (taken_goes before between c.as_bytes.result.now true c.in-Ok-write_whole.ensures.taken)
    (taken_goes between after (stop_line stops.Device) (is_ok c.write_stop-told-2.result) c.write_stop-told-2.ensures)
