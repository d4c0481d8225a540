use Rattle.std.proofs.Common.{◌≡◌, ◌+◌, length, sym, subst, ap, ◌∙◌, arith}
use Rattle.fx_numbers.specs.State.{HasUsedPart, commit_now, IsStepBy}
use Rattle.fx_parts.specs.Happening.{Commit}
use Rattle.fx_core.specs.Core.{CoreState, HasAppended, IsPreparedFor, numbered_entry}
use Rattle.std.specs.Arc.{arc_value}
use Rattle.std.proofs.Common.{[], append-nil, set}
use Rattle.fx_journal.specs.Ring.{Appended}
use Rattle.fx_core.specs.Tail.{reach}
use Rattle.std.proofs.lemmas.List.{take_at}
use Rattle.fx_record.specs.Record.{TransactionRecord, record_bytes}
use Rattle.fx_record.proofs.Lengths.{sum_text}
use Rattle.fx_core.proofs.Calls.{commit_reserved, core_commit}
use Rattle.fx_core.proofs.mounted.Core.commit.Goals as goal

pub append-requires-clause-some : goal.append-requires-clause-some
append-requires-clause-some g c =
    let used = subst (λ (v : CoreState g.row.D.Denot). HasUsedPart v.numbers c.args.who (IsPreparedFor c.args.who c.args.prepared.entry c.args.prepared.text.items (arc_value c.args.prepared.batch))) (sym c.self.view_is) c.requires in
    let text : c.set_number.new.bytes ≡ record_bytes (TransactionRecord (commit_now c.self.inside.numbers + 1) (arc_value c.args.prepared.batch)) =
    c.set_number.ensures used.2.number (arc_value c.args.prepared.batch) [] (c.as_mut_slice.ensures.value ∙ used.2.text_is ∙ sym (append-nil (record_bytes (TransactionRecord used.2.number (arc_value c.args.prepared.batch))))) ∙ append-nil _ ∙ ap (λ n. record_bytes (TransactionRecord (n + 1) (arc_value c.args.prepared.batch))) c.number-number.ensures in
    let bytes : c.as_slice.result.now ≡ record_bytes (TransactionRecord (commit_now c.self.inside.numbers + 1) (arc_value c.args.prepared.batch)) = c.as_slice.ensures.value ∙ take_at c.set_number.new.bytes _ _ (omega (arith, ap length text, sum_text (commit_now c.self.inside.numbers + 1) (arc_value c.args.prepared.batch), c.as_mut_slice.ensures.len, ap length c.as_mut_slice.ensures.value, ap length used.2.text_is, sum_text used.2.number (arc_value c.args.prepared.batch))) ∙ text in
    omega (arith, ap length bytes, sum_text (commit_now c.self.inside.numbers + 1) (arc_value c.args.prepared.batch))

pub commit-requires-clause-part : goal.commit-requires-clause-part
commit-requires-clause-part g c =
    let used = subst (λ (v : CoreState g.row.D.Denot). HasUsedPart v.numbers c.args.who (IsPreparedFor c.args.who c.args.prepared.entry c.args.prepared.text.items (arc_value c.args.prepared.batch))) (sym c.self.view_is) c.requires in
    (used.0, used.1, commit_reserved c.self.inside.numbers c.self.invariant c.args.who c.args.prepared.entry c.args.prepared.text.items (arc_value c.args.prepared.batch) used)

pub invariant_of-self : goal.invariant_of-self
invariant_of-self g c =
    let used = subst (λ (v : CoreState g.row.D.Denot). HasUsedPart v.numbers c.args.who (IsPreparedFor c.args.who c.args.prepared.entry c.args.prepared.text.items (arc_value c.args.prepared.batch))) (sym c.self.view_is) c.requires in
    let text : c.set_number.new.bytes ≡ record_bytes (TransactionRecord (commit_now c.self.inside.numbers + 1) (arc_value c.args.prepared.batch)) =
    c.set_number.ensures used.2.number (arc_value c.args.prepared.batch) [] (c.as_mut_slice.ensures.value ∙ used.2.text_is ∙ sym (append-nil (record_bytes (TransactionRecord used.2.number (arc_value c.args.prepared.batch))))) ∙ append-nil _ ∙ ap (λ n. record_bytes (TransactionRecord (n + 1) (arc_value c.args.prepared.batch))) c.number-number.ensures in
    let bytes : c.as_slice.result.now ≡ record_bytes (TransactionRecord (commit_now c.self.inside.numbers + 1) (arc_value c.args.prepared.batch)) = c.as_slice.ensures.value ∙ take_at c.set_number.new.bytes _ _ (omega (arith, ap length text, sum_text (commit_now c.self.inside.numbers + 1) (arc_value c.args.prepared.batch), c.as_mut_slice.ensures.len, ap length c.as_mut_slice.ensures.value, ap length used.2.text_is, sum_text used.2.number (arc_value c.args.prepared.batch))) ∙ text in
    core_commit c.self.inside.numbers c.self.invariant c.args.who c.args.prepared.entry c.args.prepared.text.items (arc_value c.args.prepared.batch) used c.as_slice.result.now c.append.new.self c.commit.new.self bytes
    (subst (λ n. c.append.new.self ≡ record c.self.inside.tail { ring = c.append.new.self.ring; pool = c.append.new.self.pool; wants = set c.self.inside.tail.wants c.args.who 0; reached = set c.self.inside.tail.reached (reach c.append.new.self.ring) (n + 1) }) c.number-number.ensures c.append.ensures.rest)
    c.append.ensures.seat c.append.ensures.continued c.append.ensures.tails c.append.ensures.queue
    (subst (λ e. IsStepBy c.self.inside.numbers c.commit.new.self (Commit c.args.who e (arc_value c.args.prepared.batch))) (c.numbered.ensures ∙ ap (λ n. numbered_entry (n + 1) c.args.prepared.entry) c.number-number.ensures) c.commit.ensures)

pub returns-clause-appended : goal.returns-clause-appended
returns-clause-appended g c =
    let used = subst (λ (v : CoreState g.row.D.Denot). HasUsedPart v.numbers c.args.who (IsPreparedFor c.args.who c.args.prepared.entry c.args.prepared.text.items (arc_value c.args.prepared.batch))) (sym c.self.view_is) c.requires in
    let text : c.set_number.new.bytes ≡ record_bytes (TransactionRecord (commit_now c.self.inside.numbers + 1) (arc_value c.args.prepared.batch)) =
    c.set_number.ensures used.2.number (arc_value c.args.prepared.batch) [] (c.as_mut_slice.ensures.value ∙ used.2.text_is ∙ sym (append-nil (record_bytes (TransactionRecord used.2.number (arc_value c.args.prepared.batch))))) ∙ append-nil _ ∙ ap (λ n. record_bytes (TransactionRecord (n + 1) (arc_value c.args.prepared.batch))) c.number-number.ensures in
    let bytes : c.as_slice.result.now ≡ record_bytes (TransactionRecord (commit_now c.self.inside.numbers + 1) (arc_value c.args.prepared.batch)) = c.as_slice.ensures.value ∙ take_at c.set_number.new.bytes _ _ (omega (arith, ap length text, sum_text (commit_now c.self.inside.numbers + 1) (arc_value c.args.prepared.batch), c.as_mut_slice.ensures.len, ap length c.as_mut_slice.ensures.value, ap length used.2.text_is, sum_text used.2.number (arc_value c.args.prepared.batch))) ∙ text in
    let same = bytes ∙ ap (λ n. record_bytes (TransactionRecord (n + 1) (arc_value c.args.prepared.batch))) (sym c.number-number.ensures) in
    subst (λ (v : CoreState g.row.D.Denot). HasAppended v.tail c.append.new.self c.args.who (c.number-number.result + 1) (record_bytes (TransactionRecord (c.number-number.result + 1) (arc_value c.args.prepared.batch)))) c.self.view_is (record {
      queue = λ queue holds. subst (λ t. Appended c.self.inside.tail.ring c.append.new.self.ring c.append.new.self.pool queue t) same (c.append.ensures.queue queue holds);
      promised = c.append.ensures.promised;
      rest = c.append.ensures.rest;
    })
