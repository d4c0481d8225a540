use Rattle.std.proofs.Common.{List, ◌≡◌, ◌∷◌, ◌+◌, ◌∙◌, length, sym, ap, subst, arith}
use Rattle.std.proofs.lemmas.Bool.{eqb-true}
use Rattle.std.proofs.lemmas.List.{nil_from_length}
use Rattle.std.proofs.lemmas.Result.{err_from_is_err_and}
use Rattle.fx_record.specs.Txns.{pieces_of, txns_of, epoch_texts, all_bytes}
use Rattle.fx_record.specs.declared.txns.Piece.{Piece}
use Rattle.fx_record.specs.Progress.{ReadState, read_state, Advance}
use Rattle.fx_record.proofs.Runs.{next_text, next_len}
use Rattle.fx_record.proofs.Moves.{start_of, start_is, starts_numbered, advance_none, read_stops, ends_with, stream_goes_on}
use Rattle.fx_record.proofs.txns.read_all.Goals as goal

pub loop-rest-init : goal.loop-rest-init
loop-rest-init c =
    let blocks = pieces_of c.args.pieces.now in
    record {
      advance = subst (λ (w : ReadState). Advance c.args.base (start_of c.args.base) (epoch_texts blocks) w (epoch_texts blocks)) (sym (start_is c.args.base c.new.result.items c.new.ensures.items)) (advance_none c.args.base (start_of c.args.base) (epoch_texts blocks));
      numbered = starts_numbered c.args.base c.new.result.items c.new.ensures.items;
      few = omega arith;
    }

pub returns-in_err-read_run : goal.returns-in_err-read_run
returns-in_err-read_run c =
    let p = err_from_is_err_and c.from_residual-in_err-read_run.result c.from_residual-in_err-read_run.ensures.1 in
    let rest = c.loop-rest.rest.now in
    let others = c.split_at.result.1.now in
    let text = c.as_slice.result.now in
    let next : epoch_texts (pieces_of rest) ≡ text ∷ epoch_texts (pieces_of others) =
    next_text rest c.split_at.result.0.now others c.run_len.result text c.run_len.ensures.run c.split_at.ensures.front c.split_at.ensures.back (c.as_slice.ensures.value ∙ c.in_ok-text.ensures) in
    rw (p.1, p.2) (read_stops c.in_err-read_run.field-0.0 c.args.base (pieces_of c.args.pieces.now) (read_state c.loop-rest.progress) (read_state c.read_run.new.progress) (epoch_texts (pieces_of rest)) text (epoch_texts (pieces_of others))
    c.loop-rest.invariant.advance next c.in_err-read_run.ensures)

pub loop-rest-preserved : goal.loop-rest-preserved
loop-rest-preserved c =
    let rest = c.loop-rest.rest.now in
    let run = c.split_at.result.0.now in
    let others = c.split_at.result.1.now in
    let text = c.as_slice.result.now in
    let joined = c.as_slice.ensures.value ∙ c.in_ok-text.ensures in
    let next : epoch_texts (pieces_of rest) ≡ text ∷ epoch_texts (pieces_of others) =
    next_text rest run others c.run_len.result text c.run_len.ensures.run c.split_at.ensures.front c.split_at.ensures.back joined in
    let len : length (all_bytes (pieces_of rest)) ≡ length text + length (all_bytes (pieces_of others)) =
    next_len rest run others c.run_len.result text c.split_at.ensures.front c.split_at.ensures.back joined in
    record {
      advance = stream_goes_on c.args.base (read_state c.loop-rest.progress) (read_state c.read_run.new.progress) (pieces_of c.args.pieces.now) (epoch_texts (pieces_of rest)) text (epoch_texts (pieces_of others)) c.loop-rest.invariant.advance next c.in_ok-read_run.ensures;
      numbered = c.in_ok-read_run.ensures.numbered;
      few = omega (arith, c.in_ok-read_run.ensures.few, c.loop-rest.invariant.few, len);
    }

pub returns : goal.returns
returns c =
    let none = nil_from_length c.loop-rest.rest.now (eqb-true _ _ (sym c.loop-rest-test.ensures)) in
    ends_with c.args.base (pieces_of c.args.pieces.now) (read_state c.loop-rest.progress) (epoch_texts (pieces_of c.loop-rest.rest.now)) c.new-2.result
    c.loop-rest.invariant.advance (ap (λ (w : List Piece). epoch_texts (pieces_of w)) none) (ap txns_of c.new-2.ensures)
