use Rattle.std.proofs.Common.{arith, sym, ap, ◌∙◌, add-one, length}
use Rattle.std.proofs.lemmas.List.{take_rest}
use Rattle.fx_script.specs.Cut.{cut_rest}
use Rattle.fx_script.proofs.Found.{cut_found, cut_not_found}
use Rattle.fx_script.proofs.pieces.PiecesIterator.next.Goals as goal

-- the piece ends at the first separator
pub returns-in-Some-clause-steps : goal.returns-in-Some-clause-steps
returns-in-Some-clause-steps c =
    let separator = c.self.inside.separator in
    sym c.self.view_is
    ∙ ap (cut_rest separator) c.in_ok-rest.was
    ∙ cut_found separator c.in_ok-rest.rest.now c.in-Some.end c.in-Some.ensures
    ∙ simp (take_rest, add-one)

pub returns-in-Some-clause-goes : goal.returns-in-Some-clause-goes
returns-in-Some-clause-goes c =
    record { on = λ _. (tt, tt, omega (arith, ap length (returns-in-Some-clause-steps c))); keeps = tt; rests = λ _. tt }

pub returns-in-None-clause-steps : goal.returns-in-None-clause-steps
returns-in-None-clause-steps c =
    let separator = c.self.inside.separator in
    sym c.self.view_is
    ∙ ap (cut_rest separator) c.in_ok-rest.was
    ∙ cut_not_found separator c.in_ok-rest.rest.now c.in-None.ensures

pub returns-in-None-clause-goes : goal.returns-in-None-clause-goes
returns-in-None-clause-goes c =
    record { on = λ _. (tt, tt, omega (arith, ap length (returns-in-None-clause-steps c))); keeps = tt; rests = λ _. tt }
