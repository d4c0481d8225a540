use Rattle.std.proofs.Common.{ℕ, List, [], ◌∷◌, subst, arith, true, min}
use Rattle.fx_super.specs.Super.{Decoded, fields_of}
use Rattle.fx_layfile.proofs.Walking.{tells_on}
use Rattle.fx_found.specs.Image.{NamesDisk}
use Rattle.fx_found.specs.Faults.{IsFindFault}
use Rattle.fx_found.specs.Reading.{AreSupers}
use Rattle.fx_found.proofs.ReadSteps.{reads_on, reads_unfailed}
use Rattle.fx_found.proofs.Supers.{of_disk}
use Rattle.fx_found.specs.declared.slots.Slot.{Slot}
use Rattle.fx_found.proofs.slots.find_super.Goals as goal

pub returns-in-Ok-slot_of-clause-disk : goal.returns-in-Ok-slot_of-clause-disk
returns-in-Ok-slot_of-clause-disk g c =
    let a = c.in-Ok.ensures.decoded in
    let b = c.in-Ok-read_slot.ensures.decoded in
    let two : List (List ℕ) = a.0 ∷ b.0 ∷ [] in
    let chosen = c.in-Ok-slot_of.ensures.chosen two (record { first_is = a.1; second_is = b.1 }) in
    of_disk (g.D.Disk.seen c.args.disk.now).size two c.in-Ok-slot_of.slot.which (fields_of c.in-Ok-slot_of.slot.sup)
    (subst (λ (n : ℕ). NamesDisk n two c.in-Ok-slot_of.slot.which (fields_of c.in-Ok-slot_of.slot.sup)) c.blocks-blocks.ensures chosen)

pub returns-in-Ok-slot_of-clause-chosen : goal.returns-in-Ok-slot_of-clause-chosen
returns-in-Ok-slot_of-clause-chosen g c image t =
    let a = c.in-Ok.ensures.decoded in
    let b = c.in-Ok-read_slot.ensures.decoded in
    let s : AreSupers image c.in-Ok.first c.in-Ok-read_slot.second = record {
      first_is = subst (λ (x : List ℕ). Decoded x c.in-Ok.first) (a.2 image t) a.1;
      second_is = subst (λ (x : List ℕ). Decoded x c.in-Ok-read_slot.second) (b.2 image (tells_on _ _ image c.in-Ok.ensures.read.read t)) b.1;
    } in
    subst (λ (n : ℕ). NamesDisk n image c.in-Ok-slot_of.slot.which (fields_of c.in-Ok-slot_of.slot.sup)) c.blocks-blocks.ensures (c.in-Ok-slot_of.ensures.chosen image s)

pub returns-in-Err-clause-fault : goal.returns-in-Err-clause-fault
returns-in-Err-clause-fault g c image t =
    let a = c.in-Ok.ensures.decoded in
    let b = c.in-Ok-read_slot.ensures.decoded in
    let s : AreSupers image c.in-Ok.first c.in-Ok-read_slot.second = record {
      first_is = subst (λ (x : List ℕ). Decoded x c.in-Ok.first) (a.2 image t) a.1;
      second_is = subst (λ (x : List ℕ). Decoded x c.in-Ok-read_slot.second) (b.2 image (tells_on _ _ image c.in-Ok.ensures.read.read t)) b.1;
    } in
    subst (λ (n : ℕ). IsFindFault n image c.in-Err.fault) c.blocks-blocks.ensures (c.in-Err.ensures.fault image s)

pub returns-in-Err-clause-read : goal.returns-in-Err-clause-read
returns-in-Err-clause-read g c = reads_unfailed Slot _ _ (min 2 (g.D.Disk.seen c.args.disk.now).size) c.in-Err.fault c.in-Err.ensures.unfailed (reads_on _ _ _ 1 1 (min 2 (g.D.Disk.seen c.args.disk.now).size) true c.in-Ok.ensures.read c.in-Ok-read_slot.ensures.read (omega (arith, c.blocks-blocks.ensures, c.if-blocks-lt2.false)))
