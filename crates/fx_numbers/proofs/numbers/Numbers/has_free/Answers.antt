use Rattle.fx_numbers.proofs.Leaving.{free_number_of, free_slot}
use Rattle.fx_numbers.proofs.numbers.Numbers.has_free.Goals as goal

pub returns : goal.returns
returns c = (λ t. free_number_of c.self.inside c.args.self.now c.self.view_is (c.has_free.ensures.0 t), λ h. c.has_free.ensures.1 (free_slot c.self.inside c.args.self.now c.self.view_is h))
