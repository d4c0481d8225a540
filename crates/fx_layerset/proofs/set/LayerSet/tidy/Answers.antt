use Rattle.std.proofs.Common.{ap, ◌∙◌, refl}
use Rattle.std.specs.Arc.{arc_value}
use Rattle.fx_layerset.specs.Levels.{SetState, level_in, said_in_set, tidied}
use Rattle.fx_layerset.proofs.Replaced.{tidied_says}
use Rattle.fx_layerset.proofs.Shared.{tidied_is}
use Rattle.fx_layerset.proofs.set.LayerSet.tidy.Goals as goal

pub returns-clause-set : goal.returns-clause-set
returns-clause-set g c =
    tidied_is (level_in g.L.Level.items g.L.Level.lacks) c.self.inside.batches.items c.self.inside.objects.items c.self.inside.allocs.items c.args.below
    c.put_oldest.new.lane.items _ (arc_value c.args.batch) _ _ _ _ c.put_oldest.ensures.items refl c.put_oldest.ensures.room
    ∙ ap (λ (v : SetState). tidied v c.args.below (arc_value c.args.batch)) c.self.view_is

pub returns-clause-look : goal.returns-clause-look
returns-clause-look g c =
    let set = tidied_is (level_in g.L.Level.items g.L.Level.lacks) c.self.inside.batches.items c.self.inside.objects.items c.self.inside.allocs.items c.args.below
    c.put_oldest.new.lane.items _ (arc_value c.args.batch) _ _ 0 0 c.put_oldest.ensures.items refl c.put_oldest.ensures.room in
    λ p. ap (λ (v : SetState). said_in_set v.levels p) set
    ∙ ap (λ (v : SetState). said_in_set (tidied v c.args.below (arc_value c.args.batch)).levels p) c.self.view_is
    ∙ tidied_says c.args.self.now.levels c.args.below (arc_value c.args.batch) c.requires.merged p
