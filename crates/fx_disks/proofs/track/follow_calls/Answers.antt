use Rattle.std.proofs.Common.{◌≡◌, ℕ, ◌+◌, ◌<◌, length, map, List, arith, sym, subst, ◌∙◌, refl}
use Rattle.std.proofs.lemmas.List.{length-map}
use Rattle.fx_disk.specs.Record.{Call}
use Rattle.fx_disk.specs.Steps.{IsCallOf}
use Rattle.fx_disks.specs.Calls.{call_of}
use Rattle.fx_disks.specs.Tracks.{TrackedAfter}
use Rattle.fx_disks.proofs.Following.{is_call_of, call_at-map, TrackedAfter-begin, TrackedAfter-step, flushed-le, length-tracks_after}
use Rattle.fx_disks.proofs.track.follow_calls.Goals as goal

pub step-flushed-requires : goal.step-flushed-requires
step-flushed-requires c = subst (λ (n : ℕ). IsCallOf n (call_of c.index-calls-index.result)) (sym c.loop-index.invariant.len) (is_call_of _ c.args.calls.now c.loop-index.index c.index-calls-index.result c.requires.calls (omega arith) c.index-calls-index.is)

pub loop-index-init : goal.loop-index-init
loop-index-init c = record { len = refl; flushed = omega arith; tracked = TrackedAfter-begin _ _ c.requires.fresh }

pub loop-index-preserved : goal.loop-index-preserved
loop-index-preserved c = record {
  len = rw c.step-flushed.ensures.tracks (length-tracks_after (call_of c.index-calls-index.result) _ _ _ ∙ c.loop-index.invariant.len);
  flushed = rw c.step-flushed.ensures.flushed (flushed-le (call_of c.index-calls-index.result) _ _ c.loop-index.invariant.flushed);
  tracked = rw (c.step-flushed.ensures.tracks, c.step-flushed.ensures.flushed)
      (TrackedAfter-step (map call_of c.args.calls.now) c.loop-index.index _ _ (call_of c.index-calls-index.result) (omega (arith, length-map c.args.calls.now call_of)) (call_at-map c.args.calls.now c.loop-index.index c.index-calls-index.result (omega arith) c.index-calls-index.is) (subst (λ (n : ℕ). IsCallOf n (call_of c.index-calls-index.result)) (sym c.loop-index.invariant.len) (is_call_of _ c.args.calls.now c.loop-index.index c.index-calls-index.result c.requires.calls (omega arith) c.index-calls-index.is)) c.loop-index.invariant.flushed c.loop-index.invariant.tracked);
}

pub returns-clause-tracked : goal.returns-clause-tracked
returns-clause-tracked c =
    let e : c.loop-index.index ≡ c.args.moment = omega arith in
    subst (λ (m : ℕ). TrackedAfter (map call_of c.args.calls.now) m c.loop-index.flushed c.loop-index.tracks.items) e c.loop-index.invariant.tracked
