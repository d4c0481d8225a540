use Rattle.std.proofs.Common.{◌≡◌, ◌∙◌, ◌+◌, ℕ, suc, List, [], ◌∷◌, ◌++◌, take, drop, get_or, sym, ap, subst, true}
use Rattle.std.proofs.lemmas.List.{take_more, take_all}
use Rattle.fx_base.proofs.Lists.{split_at}
use Rattle.fx_layfile.specs.Layer.{blocks_in}
use Rattle.fx_layfile.specs.Reading.{PlainLayer}
use Rattle.fx_layfile.proofs.Walking.{tells_on, reads_then}
use Rattle.fx_found.specs.Image.{blocks_of_layers}
use Rattle.std.specs.Prelude.{count_by, length}
use Rattle.fx_found.specs.Layers.{AreLayers, IsGoodLayer, marks_after}
use Rattle.fx_found.specs.Reading.{IsLayerFault, find_fault}
use Rattle.fx_found.proofs.LayerRuns.{layers_more, layer_stops, marks_more_layer, count_more_layer}
use Rattle.fx_found.proofs.layers.read_tree.Goals as goal

pub returns-in-Err-clause-fault : goal.returns-in-Err-clause-fault
returns-in-Err-clause-fault g c image t =
    let inv = c.loop-first.invariant in
    let firsts : List ℕ = c.args.firsts.now in
    let k : ℕ = c.loop-first.first-index in
    subst (IsLayerFault (blocks_in image) c.args.ring c.args.taken.now c.args.tree firsts) (sym c.told_fault.ensures)
    (subst (λ (w : List ℕ). IsLayerFault (blocks_in image) c.args.ring c.args.taken.now c.args.tree w (find_fault c.in-Err.fault)) (sym (split_at firsts k 0 c.loop-first-test.true))
    (layer_stops (blocks_in image) c.args.ring c.in-Err.fault c.args.taken.now c.loop-first.taken c.args.tree (get_or firsts k 0) (take k firsts) (drop (suc k) firsts) c.loop-first.layers.items (inv.layers image t) inv.marks
    (c.in-Err.ensures.said image (tells_on _ _ image inv.marked.read t))))

pub loop-first-preserved : goal.loop-first-preserved
loop-first-preserved g c =
    let inv = c.loop-first.invariant in
    let firsts : List ℕ = c.args.firsts.now in
    let k : ℕ = c.loop-first.first-index in
    let first : ℕ = get_or firsts k 0 in
    let next : take (k + 1) firsts ≡ take k firsts ++ first ∷ [] = take_more firsts k 0 c.loop-first-test.true in
    let layer : PlainLayer = c.in-Ok.layer in
    let old : List PlainLayer = c.loop-first.layers.items in
    let pushed : c.push.new.self.items ≡ old ++ layer ∷ [] = c.in-Ok-push.ensures.items in
    let marked = c.in-Ok.ensures.blocks in
    record {
      layers = λ image t.
          let said : IsGoodLayer (blocks_in image) c.args.ring c.loop-first.taken c.args.tree first layer = c.in-Ok.ensures.said image (tells_on _ _ image inv.marked.read t) in
          subst (λ (w : List ℕ). AreLayers (blocks_in image) c.args.ring c.args.taken.now c.args.tree w c.push.new.self.items) (sym next)
          (subst (AreLayers (blocks_in image) c.args.ring c.args.taken.now c.args.tree (take k firsts ++ first ∷ [])) (sym pushed)
          (layers_more (blocks_in image) c.args.ring c.args.taken.now c.args.tree (take k firsts) first old layer (inv.layers image t)
          (subst (λ m. IsGoodLayer (blocks_in image) c.args.ring m c.args.tree first layer) inv.marks said)));
      marks = marks_more_layer c.args.taken.now c.loop-first.taken c.read_layer.new.taken old layer inv.marks marked.1 ∙ ap (λ (w : List PlainLayer). marks_after c.args.taken.now w) (sym pushed);
      count = count_more_layer c.args.ring c.args.taken.now c.loop-first.taken c.read_layer.new.taken old layer inv.count marked.0 marked.1 ∙ ap (λ (w : List PlainLayer). count_by (λ mark. mark) c.args.taken.now + length (blocks_of_layers w)) (sym pushed);
      marked = reads_then _ _ _ _ _ _ true inv.marked c.in-Ok.ensures.marked;
    }

pub returns-clause-layers : goal.returns-clause-layers
returns-clause-layers g c image t =
    subst (λ (w : List ℕ). AreLayers (blocks_in image) c.args.ring c.args.taken.now c.args.tree w c.loop-first.layers.items) (take_all c.loop-first.first-index c.args.firsts.now c.loop-first-test.false) (c.loop-first.invariant.layers image t)
