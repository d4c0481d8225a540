use Rattle.std.proofs.Common.{◌≡◌, ℕ, ◌+◌, ◌<◌, length, map, List, arith, sym, subst, rules, ◌∙◌}
use Rattle.std.proofs.lemmas.List.{length-map}
use Rattle.fx_disks.specs.Calls.{call_of}
use Rattle.fx_disks.proofs.Following.{is_call_of, call_at-map, TrackedAt-write, TrackedAt-flush, TrackedAt-end}
use Rattle.fx_disks.proofs.track.follow_next.Goals as goal

pub step-requires : goal.step-requires
step-requires c = is_call_of _ c.args.calls.now c.args.moment c.index-calls-moment.result c.requires.calls (omega arith) c.index-calls-moment.is

pub returns-then-moment-calls-clause-tracked : goal.returns-then-moment-calls-clause-tracked
returns-then-moment-calls-clause-tracked c = TrackedAt-end _ _ _ _ (c.if-moment-calls.true ∙ sym (length-map c.args.calls.now call_of)) c.requires.tracked

pub returns-then-is_write-clause-tracked : goal.returns-then-is_write-clause-tracked
returns-then-is_write-clause-tracked c =
    rw c.step.ensures.tracks
    (TrackedAt-write (map call_of c.args.calls.now) c.args.moment c.args.flushed _ c.index-calls-moment.result (omega (arith, length-map c.args.calls.now call_of)) (call_at-map c.args.calls.now c.args.moment c.index-calls-moment.result (omega arith) c.index-calls-moment.is) (sym c.is_write.ensures ∙ c.if-is_write.true)
    (is_call_of _ c.args.calls.now c.args.moment c.index-calls-moment.result c.requires.calls (omega arith) c.index-calls-moment.is) c.requires.flushed c.requires.tracked)

pub returns-else-is_write-clause-tracked : goal.returns-else-is_write-clause-tracked
returns-else-is_write-clause-tracked c =
    TrackedAt-flush (map call_of c.args.calls.now) c.args.moment c.args.flushed _ c.index-calls-moment.result (call_at-map c.args.calls.now c.args.moment c.index-calls-moment.result (omega arith) c.index-calls-moment.is) (sym c.is_write.ensures ∙ c.if-is_write.false) c.requires.tracked
