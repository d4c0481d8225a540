use Rattle.std.proofs.Common.{ap, ◌∙◌}
use Rattle.fx_parts.specs.Parts.{SharedState}
use Rattle.fx_numbers.specs.State.{NumbersState, shared_of}
use Rattle.fx_item.specs.Overlay.{standing}
use Rattle.fx_parts.specs.Live.{live_in_lists}
use Rattle.fx_numbers.specs.State.{lists_in}
use Rattle.fx_numbers.proofs.numbers.Numbers.tidy.Goals as goal

pub returns-clause-step : goal.returns-clause-step
returns-clause-step c = record {
  may = λ tree point. ap standing (c.tidy.ensures.look point) ∙ ap (λ (z : NumbersState). live_in_lists (lists_in z.levels) point) c.self.view_is;
  does = λ tree. ap (λ (z : NumbersState). let w : SharedState = record (shared_of tree z) { lists = lists_in c.tidy.new.self.levels } in w) c.self.view_is;
}
