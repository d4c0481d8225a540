use Rattle.std.proofs.Common.{ap, ◌∙◌, ◌≡◌, subst}
use Rattle.std.specs.Prelude.{IfOk}
use Rattle.fx_item.specs.Item.{key_of}
use Rattle.fx_item.specs.Place.{begins}
use Rattle.fx_layerset.specs.Levels.{SetState, level_in, merge_over, newest, upper_levels}
use Rattle.fx_layerset.proofs.Shared.{upper_is}
use Rattle.fx_layerset.proofs.set.LayerSet.upper.Goals as goal

pub returns : goal.returns
returns g c =
    subst (λ s. IfOk c.merge_of.result (λ merge. merge ≡ merge_over s (begins (key_of c.args.from))))
    (upper_is (level_in g.L.Level.items g.L.Level.lacks) c.self.inside.batches.items c.self.inside.objects.items c.self.inside.allocs.items c.args.newest
    c.as_slice.result.now c.newest_of.result.now c.newest_of-2.result.now
    c.as_slice.ensures.value (c.newest_of.ensures ∙ ap (newest c.args.newest) c.as_slice-2.ensures.value) (c.newest_of-2.ensures ∙ ap (newest c.args.newest) c.as_slice-3.ensures.value)
    ∙ ap (λ (v : SetState). upper_levels c.args.newest v.levels) c.self.view_is)
    c.merge_of.ensures
