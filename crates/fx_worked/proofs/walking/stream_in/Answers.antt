use Rattle.std.proofs.Common.{rules, ◌≡◌, inl, inr, ◌⊎◌, length, List, sym, subst, arith}
use Rattle.fx_journal.specs.declared.stream.StreamBlock.{StreamBlock}
use Rattle.fx_journal.specs.Stream.{IsNext, IsStream, StandsAs, StandsAt}
use Rattle.fx_journal.proofs.Runs.{ended_run}
use Rattle.fx_worked.proofs.Runs.{run_stepped}
use Rattle.fx_worked.proofs.walking.stream_in.Goals as goal
use Rattle.fx_worked.proofs.walking.stream_in.Goals.{else-walking-test, then-walking-test+in_ok-found+in_default}

pub walking-preserved : goal.walking-preserved
walking-preserved c =
    let next = subst (IsNext c.block_for-block.result.now c.args.generation c.walking.next) c.in-Some.is c.in_ok-found.ensures in
    let taken = run_stepped c.args.image.now c.args.ring c.args.generation c.args.start c.walking.next c.in-Some.after c.walking.blocks.items c.push.new.self.items c.in-Some.found c.block_for-block.result.now c.block_for-block.ensures next c.in_ok-push.ensures.items c.walking.invariant.run in
    record {
      run = taken.0;
      sequence = omega (arith, taken.1, taken.2, c.walking.invariant.sequence);
      few = omega (arith, taken.1);
    }

pub returns : goal.returns
returns c =
    let ended : (length c.walking.blocks.items ≡ c.args.ring) ⊎ ((block : StreamBlock) → StandsAt c.args.image.now c.args.ring c.args.generation c.walking.next block → ⊥) =
    elim c.walking-test.branch [
      | else-walking-test w ↦ inl (let few = c.walking.invariant.few in omega (arith, few, w.walking-test.false, c.len.ensures))
      | then-walking-test+in_ok-found+in_default w ↦ inr (λ block stands. subst (IsNext w.block_for-block.result.now c.args.generation c.walking.next) w.in_default.is w.in_ok-found.ensures block (subst (λ b. StandsAs b c.args.generation c.walking.next block) (sym w.block_for-block.ensures) stands))
    ] in
    subst (λ (l : List StreamBlock). IsStream c.args.image.now c.args.ring c.args.generation c.args.start l c.walking.next) (sym c.new.ensures)
    (ended_run c.args.image.now c.args.ring c.args.generation c.args.start c.walking.next c.walking.blocks.items (search rules) (omega (arith, c.ranges.ring.fits)) c.walking.invariant.run c.walking.invariant.few ended)
