use Rattle.std.proofs.Common.{◌≡◌, ◌∙◌, ◌-◌, ◌++◌, ℕ, List, length, sym, ap, refl, subst}
use Rattle.std.specs.Prelude.{nat_lt}
use Rattle.std.proofs.lemmas.List.{length-map}
use Rattle.fx_item.specs.Item.{PlainItem, items_of}
use Rattle.fx_item.specs.declared.item.Item.{Item}
use Rattle.fx_journal.specs.declared.stream.StreamBlock.{StreamBlock}
use Rattle.fx_record.specs.Txns.{txns_of}
use Rattle.fx_super.specs.Super.{fields_of}
use Rattle.fx_layfile.specs.Reading.{PlainLayer}
use Rattle.fx_layerset.specs.Levels.{SetLevels}
use Rattle.fx_sound.specs.Image.{PlainImage}
use Rattle.fx_sound.specs.Parts.{IsSoundImage}
use Rattle.fx_found.specs.Image.{ImageParts, StandInLevels, batch_levels, blocks_of_layers, drops_in_parts, judged_image, layer_levels, levels_of_parts, lists_of_layers, lists_of_txns, numbers_of_parts, numbers_over}
use Rattle.fx_found.specs.Found.{parts_read}
use Rattle.fx_found.proofs.Judged.{drops_same, fails_first}
use Rattle.fx_found.proofs.finding.judge.Goals as goal
use Rattle.fx_found.proofs.finding.judge.Goals.{After-as_slice-3}

module _ (c : After-as_slice-3) (stream : List StreamBlock) where
  abbrev parts : ImageParts
  parts = parts_read c.args.slot c.args.objects.items c.args.allocs.items stream c.args.journal c.args.kept

  abbrev all : List (ℕ × List PlainItem)
  all = txns_of c.args.journal.txns

  abbrev count : ℕ
  count = c.args.kept - c.args.slot.sup.base

  levels_are : c.in-Ok-gather.set.levels ≡ levels_of_parts parts
  levels_are = c.in-Ok-gather.ensures ∙ ap (λ (w : List (ℕ × List PlainItem)). record { batches = batch_levels w; objects = layer_levels c.args.objects.items; allocs = layer_levels c.args.allocs.items }) c.first_txns-txns.ensures

  layers_are : c.in-Ok.layers ≡ blocks_of_layers (c.args.objects.items ++ c.args.allocs.items)
  layers_are = c.in-Ok.ensures ∙ ap (λ (w : List PlainLayer). blocks_of_layers (w ++ c.deref-2.result.now)) c.deref.ensures.value ∙ ap (λ (w : List PlainLayer). blocks_of_layers (c.args.objects.items ++ w)) c.deref-2.ensures.value

  numbers_are : c.numbers_of-numbers.result ≡ numbers_of_parts parts
  numbers_are =
      c.numbers_of-numbers.ensures
      ∙ ap (λ (w : List PlainLayer). numbers_over (fields_of c.args.slot.sup) c.args.kept (lists_of_layers w ++ lists_of_layers c.deref-4.result.now ++ lists_of_txns (txns_of c.as_slice.result.now))) c.deref-3.ensures.value
      ∙ ap (λ (w : List PlainLayer). numbers_over (fields_of c.args.slot.sup) c.args.kept (lists_of_layers c.args.objects.items ++ lists_of_layers w ++ lists_of_txns (txns_of c.as_slice.result.now))) c.deref-4.ensures.value
      ∙ ap (λ (w : List (ℕ × List PlainItem)). numbers_over (fields_of c.args.slot.sup) c.args.kept (lists_of_layers c.args.objects.items ++ lists_of_layers c.args.allocs.items ++ lists_of_txns w)) (ap txns_of c.as_slice.ensures ∙ c.first_txns-txns.ensures)

  drops_are : nat_lt count c.len.result ≡ drops_in_parts parts
  drops_are =
      ap (nat_lt count) (c.len.ensures ∙ sym (length-map c.args.journal.txns (λ (t : ℕ × List Item). (t.0, items_of t.1)))) ∙ drops_same c.args.slot.sup.base c.args.kept (length all) c.requires.least

  items_are : StandInLevels (levels_of_parts parts) (items_of c.in-Ok-standing.items)
  items_are = subst (λ (s : SetLevels). StandInLevels s (items_of c.in-Ok-standing.items)) levels_are c.in-Ok-standing.ensures.items

  abbrev seen : PlainImage
  seen = record { disk = c.args.blocks; ring = c.args.slot.sup.ring; layers = c.as_slice-2.result.now; items = items_of c.as_slice-3.result.now; stream = c.args.journal.closed; drops = nat_lt count c.len.result; numbers = c.numbers_of-numbers.result }

  same_image : c.args.journal.closed ≡ length stream → seen ≡ judged_image c.args.blocks parts (items_of c.in-Ok-standing.items)
  same_image closed =
      let layers : c.as_slice-2.result.now ≡ blocks_of_layers (c.args.objects.items ++ c.args.allocs.items) = c.as_slice-2.ensures ∙ layers_are in
      let items : items_of c.as_slice-3.result.now ≡ items_of c.in-Ok-standing.items = ap items_of c.as_slice-3.ensures in
      λ i. record { disk = c.args.blocks; ring = c.args.slot.sup.ring; layers = layers i; items = items i; stream = closed i; drops = drops_are i; numbers = numbers_are i }

pub returns-in-Err : goal.returns-in-Err
returns-in-Err c stream closed =
    let d = (goal.at.returns-in-Err c).After-as_slice-3 in
    fails_first c.args.blocks (parts d stream) (items_of c.in-Ok-standing.items) (seen d stream) (items_are d stream) (same_image d stream closed) c.in-Err.fault c.in-Err.ensures

pub returns : goal.returns
returns c stream closed =
    let d = (goal.at.returns c).After-as_slice-3 in
    record {
      slot = refl;
      super = refl;
      levels = levels_are d stream;
      layers = layers_are d stream;
      closed = closed;
      next = refl;
      drops = drops_are d stream;
      numbers = numbers_are d stream;
      items = items_are d stream;
      sound = subst IsSoundImage (same_image d stream closed) c.in-Ok-check.ensures;
    }
