use Rattle.std.proofs.Common.{◌≡◌, ◌∙◌, ◌++◌, List, length, take, drop, map, sym, ap, arith}
use Rattle.std.proofs.Math.Seq.{take-append_seam}
use Rattle.fx_history.specs.declared.entry.Entry.{Entry}
use Rattle.fx_history.specs.History.{settle}
use Rattle.fx_history.proofs.Settling.{settle_length, settle_rest}
use Rattle.fx_store.specs.Line.{settled_entry}
use Rattle.fx_store.proofs.session.Session.settle.Goals as goal

pub returns-clause-history : goal.returns-clause-history
returns-clause-history c =
    let old : List Entry = c.args.self.now.history.items in
    let new : List Entry = c.settle_from.new.entries in
    let is : new ≡ settle c.args.calls old =
    c.settle_from.ensures ∙ ap (λ (xs : List Entry). take c.args.self.now.settled xs ++ map (settled_entry c.args.calls) (drop c.args.self.now.settled xs)) c.as_mut_slice.ensures.value
    ∙ sym (settle_rest c.args.calls c.args.self.now.settled old c.requires.first) in
    let len : c.args.self.now.history.len ≡ length new = omega (arith, ap length is, settle_length c.args.calls old, c.as_mut_slice.ensures.len, ap length c.as_mut_slice.ensures.value) in
    ap (λ n. take n (new ++ drop (length new) old)) len ∙ take-append_seam new (drop (length new) old) ∙ is
