use Rattle.fx_item.specs.Item.{key_of}
use Rattle.fx_layerset.specs.Levels.{level_in, levels_in}
use Rattle.fx_layerset.proofs.Shared.{merged_ok}
use Rattle.fx_layerset.proofs.look.merge_of.Goals as goal

pub returns : goal.returns
returns g c = merged_ok c.new.result (λ l. level_in g.L.Level.items g.L.Level.lacks l.now) c.in_ok-refs.refs
    (record {
      batches = levels_in g.L.Level.items g.L.Level.lacks c.args.batches.now;
      objects = levels_in g.L.Level.items g.L.Level.lacks c.args.objects.now;
      allocs = levels_in g.L.Level.items g.L.Level.lacks c.args.allocs.now;
    })
    (key_of c.args.from) c.in_ok-refs.ensures c.new.ensures
