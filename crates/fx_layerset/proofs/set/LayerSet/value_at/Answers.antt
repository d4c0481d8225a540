use Rattle.std.proofs.Common.{ap, ◌∙◌, ◌≡◌, Some, None, sym, reverse, subst, option_map}
use Rattle.std.specs.Prelude.{IfOk}
use Rattle.fx_item.specs.Item.{key_of, value_of}
use Rattle.fx_item.specs.Overlay.{AtKey}
use Rattle.fx_item.specs.Look.{spoken}
use Rattle.fx_layerset.specs.Levels.{SetState, levels_in, said_over}
use Rattle.fx_layerset.proofs.Spoken.{in_batches, in_objects, in_allocs}
use Rattle.fx_layerset.proofs.set.LayerSet.value_at.Goals as goal

pub returns-in-Ok-Some-clause-found : goal.returns-in-Ok-Some-clause-found
returns-in-Ok-Some-clause-found g c =
    let batches : levels_in g.L.Level.items g.L.Level.lacks c.as_slice.result.now ≡ c.args.self.now.levels.batches =
    ap (levels_in g.L.Level.items g.L.Level.lacks) c.as_slice.ensures.value ∙ ap (λ (v : SetState). v.levels.batches) c.self.view_is in
    in_batches c.args.self.now.levels (AtKey (key_of c.args.key.now)) (value_of c.in-Ok-Some.value)
    (subst (λ l. spoken (Some (value_of c.in-Ok-Some.value)) ≡ said_over (reverse l) (AtKey (key_of c.args.key.now))) batches (ap (λ o. spoken (option_map value_of o)) (sym c.in-Ok-Some.field-0-is) ∙ c.in-Ok-Some.ensures.found))

pub returns-in-Ok-Some-newest_value-clause-found : goal.returns-in-Ok-Some-newest_value-clause-found
returns-in-Ok-Some-newest_value-clause-found g c =
    let batches : levels_in g.L.Level.items g.L.Level.lacks c.as_slice.result.now ≡ c.args.self.now.levels.batches =
    ap (levels_in g.L.Level.items g.L.Level.lacks) c.as_slice.ensures.value ∙ ap (λ (v : SetState). v.levels.batches) c.self.view_is in
    let objects : levels_in g.L.Level.items g.L.Level.lacks c.as_slice-2.result.now ≡ c.args.self.now.levels.objects =
    ap (levels_in g.L.Level.items g.L.Level.lacks) c.as_slice-2.ensures.value ∙ ap (λ (v : SetState). v.levels.objects) c.self.view_is in
    in_objects c.args.self.now.levels (AtKey (key_of c.args.key.now))
    (subst (λ l. None ≡ said_over (reverse l) (AtKey (key_of c.args.key.now))) batches (ap (λ o. spoken (option_map value_of o)) (sym c.in-Ok-None.field-0-is) ∙ c.in-Ok-None.ensures.found))
    (value_of c.in-Ok-Some-newest_value.value)
    (subst (λ l. spoken (Some (value_of c.in-Ok-Some-newest_value.value)) ≡ said_over (reverse l) (AtKey (key_of c.args.key.now))) objects (ap (λ o. spoken (option_map value_of o)) (sym c.in-Ok-Some-newest_value.field-0-is) ∙ c.in-Ok-Some-newest_value.ensures.found))

pub returns-clause-found : goal.returns-clause-found
returns-clause-found g c =
    let batches : levels_in g.L.Level.items g.L.Level.lacks c.as_slice.result.now ≡ c.args.self.now.levels.batches =
    ap (levels_in g.L.Level.items g.L.Level.lacks) c.as_slice.ensures.value ∙ ap (λ (v : SetState). v.levels.batches) c.self.view_is in
    let objects : levels_in g.L.Level.items g.L.Level.lacks c.as_slice-2.result.now ≡ c.args.self.now.levels.objects =
    ap (levels_in g.L.Level.items g.L.Level.lacks) c.as_slice-2.ensures.value ∙ ap (λ (v : SetState). v.levels.objects) c.self.view_is in
    let allocs : levels_in g.L.Level.items g.L.Level.lacks c.as_slice-3.result.now ≡ c.args.self.now.levels.allocs =
    ap (levels_in g.L.Level.items g.L.Level.lacks) c.as_slice-3.ensures.value ∙ ap (λ (v : SetState). v.levels.allocs) c.self.view_is in
    subst (λ o. IfOk c.newest_value-3.result (λ found. spoken (option_map value_of found) ≡ o))
    (ap (λ l. said_over (reverse l) (AtKey (key_of c.args.key.now))) allocs
    ∙ in_allocs c.args.self.now.levels (AtKey (key_of c.args.key.now))
    (subst (λ l. None ≡ said_over (reverse l) (AtKey (key_of c.args.key.now))) batches (ap (λ o. spoken (option_map value_of o)) (sym c.in-Ok-None.field-0-is) ∙ c.in-Ok-None.ensures.found))
    (subst (λ l. None ≡ said_over (reverse l) (AtKey (key_of c.args.key.now))) objects (ap (λ o. spoken (option_map value_of o)) (sym c.in-Ok-None-newest_value.field-0-is) ∙ c.in-Ok-None-newest_value.ensures.found)))
    c.newest_value-3.ensures.found
