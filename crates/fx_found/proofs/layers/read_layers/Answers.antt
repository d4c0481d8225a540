use Rattle.std.proofs.Common.{◌≡◌, ◌∙◌, ℕ, Bool, false, List, ap, subst}
use Rattle.std.specs.Prelude.{replicate}
use Rattle.fx_layfile.specs.Layer.{blocks_in}
use Rattle.fx_layfile.proofs.Walking.{tells_on}
use Rattle.fx_super.specs.Super.{fields_of}
use Rattle.fx_found.specs.Layers.{AreLayers, marks_after, no_marks}
use Rattle.fx_found.specs.Reading.{IsLayerFault}
use Rattle.fx_found.proofs.LayerRuns.{lost_objects, lost_allocs}
use Rattle.fx_found.proofs.layers.read_layers.Goals as goal

pub returns-in-Err-clause-fault : goal.returns-in-Err-clause-fault
returns-in-Err-clause-fault g c image slot t super =
    let f = fields_of c.args.sup.now in
    let marks : c.in-Ok.taken ≡ no_marks (g.D.Disk.seen c.args.disk.now).size = c.in-Ok.ensures ∙ ap (λ (n : ℕ). replicate n false) c.blocks-2.ensures in
    lost_objects (g.D.Disk.seen c.args.disk.now).size image slot f super c.in-Err.fault
    (subst (λ (m : List Bool). IsLayerFault (blocks_in image) f.ring m 1 f.objects c.in-Err.fault) marks
    (subst (λ (w : List ℕ). IsLayerFault (blocks_in image) f.ring c.in-Ok.taken 1 w c.in-Err.fault) c.as_slice-objects.ensures.layers (c.in-Err.ensures.fault image t)))

pub returns-in-Err-read_tree-clause-fault : goal.returns-in-Err-read_tree-clause-fault
returns-in-Err-read_tree-clause-fault g c image slot t super =
    let f = fields_of c.args.sup.now in
    let size : ℕ = (g.D.Disk.seen c.args.disk.now).size in
    let objects = c.in-Ok-read_tree.layers.items in
    let e = c.in-Err-read_tree.fault in
    let marks : c.in-Ok.taken ≡ no_marks size = c.in-Ok.ensures ∙ ap (λ (n : ℕ). replicate n false) c.blocks-2.ensures in
    let are : AreLayers (blocks_in image) f.ring (no_marks size) 1 f.objects objects =
    subst (λ (m : List Bool). AreLayers (blocks_in image) f.ring m 1 f.objects objects) marks
    (subst (λ (w : List ℕ). AreLayers (blocks_in image) f.ring c.in-Ok.taken 1 w objects) c.as_slice-objects.ensures.layers (c.in-Ok-read_tree.ensures.layers image t)) in
    let now : c.read_tree.new.taken ≡ marks_after (no_marks size) objects = c.in-Ok-read_tree.ensures.marks ∙ ap (λ (m : List Bool). marks_after m objects) marks in
    lost_allocs size image slot f super objects are e
    (subst (λ (m : List Bool). IsLayerFault (blocks_in image) f.ring m 2 f.allocs e) now
    (subst (λ (w : List ℕ). IsLayerFault (blocks_in image) f.ring c.read_tree.new.taken 2 w e) c.as_slice-allocs.ensures.layers (c.in-Err-read_tree.ensures.fault image (tells_on _ _ image c.in-Ok-read_tree.ensures.marked.read t))))
