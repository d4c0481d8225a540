use Rattle.std.proofs.Common.{rules, tests, Bool, cond, ◌==◌, not, sym, ◌∙◌, ap, arith}
use Rattle.std.proofs.lemmas.Fn.{filter_same}
use Rattle.fx_alloc.specs.declared.pins.Kept.{Kept}
use Rattle.fx_alloc.specs.Pins.{other_sets}
use Rattle.fx_alloc.proofs.Changes.{eqb_same}
use Rattle.fx_alloc.proofs.pins.drop_empty.Goals as goal

pub returns-clause-kept : goal.returns-clause-kept
returns-clause-kept c =
    filter_same _ (λ (k : Kept). not (k.set == c.args.set)) _ (λ x b t h. search (rules, tests)) c.args.kept.now.items c.retain.new.self.items c.retain.ensures.filtered
    ∙ sym (ap (λ (x : Bool). cond x (other_sets c.args.set c.args.kept.now.items) c.args.kept.now.items) (eqb_same c.args.left 0 (omega arith)))
