use Rattle.std.proofs.Common.{◌≡◌, ◌+◌, ◌-◌, ◌^◌, ◌<◌, ◌∷◌, ◌++◌, [], min, ℕ, Bool, true, false, not, List, map, length, sym, ap, ◌∙◌, arith, refl}
use Rattle.std.proofs.lemmas.List.{length-map}
use Rattle.fx_disk.specs.Record as model
use Rattle.fx_disks.specs.Calls.{call_of}
use Rattle.fx_disks.proofs.Holding.{few-more, recorded-flush_to, IsIndex-flush}
use Rattle.fx_disks.proofs.Asking.{done-failed, done-good, kept-as, flushed-to}
use Rattle.fx_disks.proofs.memory.MemDisk.try_flush.Goals as goal

pub invariant_of-self-then-listed : goal.invariant_of-self-then-listed
invariant_of-self-then-listed c =
    let kept : map call_of c.push_call.new.calls.items ≡ map call_of c.args.self.now.calls.items ++ model.Flush (not c.contains-listed.result) ∷ [] = c.if-not-push_call.ensures.kept refl in
    let room : length (map call_of c.args.self.now.calls.items) < 2 ^ 63 = omega (arith, length-map c.args.self.now.calls.items call_of, c.len.ensures) in
    record {
      recorded = recorded-flush_to _ _ _ _ kept c.args.self.now.recorded;
      indexed = rw kept (IsIndex-flush _ _ _ _ c.args.self.now.indexed);
      few_blocks = c.args.self.now.few_blocks;
      few_calls = few-more _ _ _ kept room;
      few_reads = c.args.self.now.few_reads;
      few_faults = rw c.count_up-then-listed.ensures.risen (omega arith);
    }

pub invariant_of-self-else-listed : goal.invariant_of-self-else-listed
invariant_of-self-else-listed c =
    let kept : map call_of c.push_call.new.calls.items ≡ map call_of c.args.self.now.calls.items ++ model.Flush (not c.contains-listed.result) ∷ [] = c.if-not-push_call.ensures.kept refl in
    let room : length (map call_of c.args.self.now.calls.items) < 2 ^ 63 = omega (arith, length-map c.args.self.now.calls.items call_of, c.len.ensures) in
    record {
      recorded = recorded-flush_to _ _ _ _ kept c.args.self.now.recorded;
      indexed = rw kept (IsIndex-flush _ _ _ _ c.args.self.now.indexed);
      few_blocks = c.args.self.now.few_blocks;
      few_calls = few-more _ _ _ kept room;
      few_reads = c.args.self.now.few_reads;
      few_faults = c.args.self.now.few_faults;
    }

pub returns-then-listed : goal.returns-then-listed
returns-then-listed c =
    let room : length (map call_of c.args.self.now.calls.items) < 2 ^ 63 = omega (arith, length-map c.args.self.now.calls.items call_of, c.len.ensures) in
    done-failed _ _ c.contains-listed.result _ _ room (omega (arith, length-map c.args.self.now.calls.items call_of, c.len-2.ensures)) c.contains-listed.ensures
    (flushed-to _ _ _ false (kept-as _ _ (λ ok. model.Flush ok) c.contains-listed.result false (c.if-not-push_call.ensures.kept refl) (ap not c.if-listed.true)))
    _ c.if-listed.true c.count_up-then-listed.ensures.risen

pub returns : goal.returns
returns c =
    let room : length (map call_of c.args.self.now.calls.items) < 2 ^ 63 = omega (arith, length-map c.args.self.now.calls.items call_of, c.len.ensures) in
    done-good _ _ c.contains-listed.result _ _ room (omega (arith, length-map c.args.self.now.calls.items call_of, c.len-2.ensures)) c.contains-listed.ensures
    (flushed-to _ _ _ true (kept-as _ _ (λ ok. model.Flush ok) c.contains-listed.result true (c.if-not-push_call.ensures.kept refl) (ap not c.if-listed.false)))
    c.if-listed.false
