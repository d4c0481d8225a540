use Rattle.std.proofs.Common.{ℕ, List, None, [], sym, ap, ◌∙◌, refl}
use Rattle.fx_disk.specs.Seen.{DiskSeen}
use Rattle.fx_item.specs.declared.item.Item.{Item}
use Rattle.fx_record.specs.Txns.{txns_of}
use Rattle.fx_super.specs.Super.{Fields, fields_of}
use Rattle.fx_journal.specs.Ring.{RingState}
use Rattle.fx_super.specs.declared.choice.Which.TheVariants.{A}
use Rattle.fx_log.specs.Chosen.{layers_of}
use Rattle.fx_core.proofs.FirstTest.{begins_at, first_buffers, first_found, first_next_rules, first_ring, first_room}
use Rattle.fx_core.proofs.tests.first_core.Goals as goal

pub open-requires : goal.open-requires
open-requires c =
    let disk = c.of.result in
    let seen : DiskSeen = record { size = disk.blocks; told = None; calls = disk.calls; reads = disk.reads; faults = disk.faults; last_made = disk.last_made } in
    let f = fields_of c.first_super-sup.result in
    let e = c.first_super-sup.ensures.fields in
    let rules = c.first_super-sup.ensures.rules in
    let ring = c.in_ok-ring.ring in
    let state = c.in_ok-ring.ensures.state in
    let pool = c.in_ok-pool.pool in
    let found = first_found seen f e c.of.ensures.size c.of.ensures.faults in
    let buffers = first_buffers ring pool c.in_ok-pool.ensures.whole c.in_ok-pool.ensures.sound c.in_ok-ring.ensures.ring (ap (λ (r : RingState). r.size) state) (ap (λ (r : RingState). r.buffers) state) in
    begins_at seen disk.calls 0 [] (txns_of c.new-3.result) _ c.no_levels.result.levels ring pool c.of.ensures.calls (sym (ap (λ (ts : List (ℕ × List Item)). txns_of ts) (c.new-3.ensures ∙ c.new-2.ensures.items)))
    (c.first_core_law.ensures seen f _ c.no_levels.result.levels ring pool (record { which = A; on_disk = tt }) rules (first_next_rules f e rules) (ap (λ (g : Fields). g.blocks) e ∙ sym c.of.ensures.size) (ap (λ (g : Fields). layers_of g) e) (first_room f e) found c.no_levels.ensures (first_ring f ring e state) buffers)
