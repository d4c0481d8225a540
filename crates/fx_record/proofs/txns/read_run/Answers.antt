use Rattle.std.proofs.Common.{◌∷◌, arith}
use Rattle.std.proofs.lemmas.Result.{err_from_is_err_and}
use Rattle.fx_record.specs.Progress.{read_state, Took}
use Rattle.fx_record.proofs.Moves.{advance_none, run_stops, run_goes_on, run_ends, took_shorter}
use Rattle.fx_record.proofs.txns.read_run.Goals as goal

pub loop-left-init : goal.loop-left-init
loop-left-init c = record {
  advance = λ more. advance_none c.args.base (read_state c.args.progress.now) (c.args.text.now ∷ more);
  numbered = c.requires.numbered;
  few = omega arith;
}

pub returns-in_err-left : goal.returns-in_err-left
returns-in_err-left c =
    let p = err_from_is_err_and c.from_residual.result c.from_residual.ensures.1 in
    rw (p.1, p.2) (run_stops c.in_err-left.field-0.0 c.args.base (read_state c.args.progress.now) (read_state c.loop-left.progress) (read_state c.read_next.new.progress) (read_state c.read_next.new.progress) c.args.text.now c.loop-left.rest.now c.loop-left.invariant.advance c.in_err-left.ensures)

pub loop-left-smaller : goal.loop-left-smaller
loop-left-smaller c =
    let h : Took c.args.base (read_state c.loop-left.progress) c.loop-left.rest.now (read_state c.read_next.new.progress) c.in-Some.left.now =
    rw c.in-Some.is at c.in_ok-left.ensures in
    omega (arith, (took_shorter c.args.base (read_state c.loop-left.progress) (read_state c.read_next.new.progress) c.loop-left.rest.now c.in-Some.left.now h).0)

pub loop-left-preserved : goal.loop-left-preserved
loop-left-preserved c =
    let h : Took c.args.base (read_state c.loop-left.progress) c.loop-left.rest.now (read_state c.read_next.new.progress) c.in-Some.left.now =
    rw c.in-Some.is at c.in_ok-left.ensures in
    let shorter = took_shorter c.args.base (read_state c.loop-left.progress) (read_state c.read_next.new.progress) c.loop-left.rest.now c.in-Some.left.now h in
    record {
      advance = run_goes_on c.args.base (read_state c.args.progress.now) (read_state c.loop-left.progress) (read_state c.read_next.new.progress) c.args.text.now c.loop-left.rest.now c.in-Some.left.now c.loop-left.invariant.advance h;
      numbered = h.numbered;
      few = omega (arith, c.loop-left.invariant.few, shorter.0, shorter.1);
    }

pub returns : goal.returns
returns c =
    run_ends c.args.base (read_state c.args.progress.now) (read_state c.loop-left.progress) (read_state c.read_next.new.progress) c.args.text.now c.loop-left.rest.now c.loop-left.invariant.advance c.loop-left.invariant.numbered c.loop-left.invariant.few (rw c.in_default.is at c.in_ok-left.ensures)
