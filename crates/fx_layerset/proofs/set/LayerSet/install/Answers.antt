use Rattle.std.proofs.Common.{ap, ◌∙◌}
use Rattle.fx_layerset.specs.Levels.{SetState, level_in, levels_in, installed_levels}
use Rattle.fx_layerset.proofs.Shared.{install_is}
use Rattle.fx_layerset.proofs.set.LayerSet.install.Goals as goal

pub returns-clause-levels : goal.returns-clause-levels
returns-clause-levels g c =
    install_is (level_in g.L.Level.items g.L.Level.lacks) c.self.inside.batches.items c.self.inside.objects.items c.self.inside.allocs.items c.args.below c.args.newest
    c.drop_oldest.new.lane.items c.put_newest.new.lane.items c.put_newest-2.new.lane.items c.args.layers.objects c.args.layers.allocs
    c.drop_oldest.ensures.items c.put_newest.ensures.items c.put_newest-2.ensures.items
    ∙ ap (λ (v : SetState). installed_levels v.levels c.args.below c.args.newest (levels_in g.L.Level.items g.L.Level.lacks c.args.layers.objects) (levels_in g.L.Level.items g.L.Level.lacks c.args.layers.allocs)) c.self.view_is
