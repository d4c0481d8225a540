use Rattle.std.proofs.Common.{rules, tests, not, ◌==◌, ◌∙◌}
use Rattle.fx_keys.specs.declared.seats.Seat.{Seat}
use Rattle.fx_keys.proofs.Retained.{retained, filter_retains}
use Rattle.fx_keys.proofs.seats.forget.Goals as goal

pub returns-clause-items : goal.returns-clause-items
returns-clause-items c =
    retained _ (λ (s : Seat). not (s.who == c.args.who)) (λ s. s) _ (λ x b t y k. search (rules, tests)) c.args.seats.now.items c.retain.new.self.items c.retain.ensures.filtered
    ∙ filter_retains (λ (s : Seat). not (s.who == c.args.who)) c.args.seats.now.items
