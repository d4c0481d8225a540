-- What the tests' first core begins with.
use Rattle.std.proofs.Common.{◌≡◌, ℕ, ◌+◌, ◌≤◌, ◌^◌, [], length, refl, sym, ap, subst, ◌∙◌, arith, zero, suc}
use Rattle.std.specs.Prelude.{None, replicate, sum_by}
use Rattle.fx_pool.specs.Region.{Region, IsSound, whole}
use Rattle.fx_super.specs.Super.{Fields, KeepsRules, first_fields}
use Rattle.fx_journal.specs.Ring.{IsRing, RingState, blocks_out, run_blocks}
use Rattle.fx_log.specs.Chosen.{next_generation, start_of}
use Rattle.fx_disk.specs.Seen.{DiskSeen}
use Rattle.fx_image.specs.Standing.{HasSessionRoom, Transactions}
use Rattle.fx_jblock.specs.declared.Start.{Start}
use Rattle.fx_layerset.specs.Levels.{SetLevels}
use Rattle.fx_numbers.specs.declared.given.Found.{Found}
use Rattle.fx_core.specs.Core.{BeginsCore, IsFirstRing, IsFoundFirst}
use Rattle.fx_core.specs.Tail.{HasRingBuffers}

pub first_next_rules : (f : Fields) → f ≡ first_fields 1088 256 → KeepsRules f → KeepsRules (next_generation f)
first_next_rules f e rules = record {
  version_is = rules.version_is;
  ring_least = rules.ring_least;
  ring_most = rules.ring_most;
  blocks_least = rules.blocks_least;
  blocks_most = rules.blocks_most;
  generation_least = omega (arith, rules.generation_least);
  generation_most = omega (arith, ap (λ (g : Fields). g.generation) e);
  sequence_below = rules.sequence_below;
  chain_fits = rules.chain_fits;
  base_below = rules.base_below;
  next_id_least = rules.next_id_least;
  next_id_most = rules.next_id_most;
  next_store_least = rules.next_store_least;
  next_store_most = rules.next_store_most;
  objects_most = rules.objects_most;
  objects_are = λ k d lt. let is = rules.objects_are k d lt in record { after_ring = is.after_ring; on_device = is.on_device };
  allocs_most = rules.allocs_most;
  allocs_are = λ k d lt. let is = rules.allocs_are k d lt in record { after_ring = is.after_ring; on_device = is.on_device };
  floor_least = rules.floor_least;
  floor_most = omega (arith, rules.floor_most);
}

pub first_room : (f : Fields) → f ≡ first_fields 1088 256 → HasSessionRoom f []
first_room f e = record {
  generations = omega (arith, ap (λ (g : Fields). g.generation) e);
  sequences = omega (arith, ap (λ (g : Fields). g.sequence) e);
  commits = omega (arith, ap (λ (g : Fields). g.base) e);
  ids_left = omega (arith, ap (λ (g : Fields). g.next_id) e);
  stores_left = omega (arith, ap (λ (g : Fields). g.next_store) e);
}

none_out : (n : ℕ) → sum_by run_blocks (replicate n None) ≡ 0
none_out zero = refl
none_out (suc n) = omega (arith, Rattle.std.proofs.lemmas.List.Sums.sum_by-cons run_blocks None (replicate n None), none_out n)

pub first_buffers : (ring : RingState) (p : Region) → p ≡ whole 9 → IsSound p → IsRing ring → ring.size ≡ 256 → ring.buffers ≡ [] → HasRingBuffers ring p
first_buffers ring p e sound ok size none = record {
  ring_is = ok;
  buffers = record {
    sound = sound;
    out = λ i lt. absurd (omega (arith, lt, ap length none));
    single = λ i lt. absurd (omega (arith, lt, ap length none));
    apart = λ i j less lt. absurd (omega (arith, lt, ap length none));
  };
  out = ap (λ (r : Region). blocks_out r) e ∙ none_out (2 ^ 9) ∙ sym (ap length none);
  enough = subst (λ (o : ℕ). ring.size + 1 ≤ 2 ^ o) (sym (ap (λ (r : Region). r.order) e)) (omega (arith, size));
}

pub first_found : (seen : DiskSeen) (f : Fields) → f ≡ first_fields 1088 256 → seen.size ≡ 1088 → seen.faults ≡ 0 → IsFoundFirst seen f (record { kept = 0; base = 0; blocks = 1088; ring = 256; ids = 1; stores = 1; faults = 0 })
first_found seen f e size faults = record {
  kept = sym (ap (λ (g : Fields). g.base) e);
  base = sym (ap (λ (g : Fields). g.base) e);
  blocks = sym size;
  ids = sym (ap (λ (g : Fields). g.next_id) e);
  stores = sym (ap (λ (g : Fields). g.next_store) e);
  faults = sym faults;
  ring = sym (ap (λ (g : Fields). g.ring) e);
}

-- the ring that begins at this place
abbrev pub ring_from : Start → ℕ → ℕ → RingState
ring_from start size epoch = record { start = start; size = size; epoch = epoch; closed = 0; chain = start.chain; text = []; promised = 0; queued = 0; buffers = [] }

pub first_ring : (f : Fields) (ring : RingState) → f ≡ first_fields 1088 256 → ring ≡ ring_from (start_of f) 256 2 → IsFirstRing f ring
first_ring f ring e is = is ∙ sym (ap (λ (g : Fields). ring_from (start_of f) g.ring (g.generation + 1)) e)

pub begins_at : (seen : DiskSeen) (from since : ℕ) (some txns : Transactions) (found : Found) (levels : SetLevels) (ring : RingState) (pool : Region) → from ≡ since → some ≡ txns → BeginsCore seen from some found levels ring pool → BeginsCore seen since txns found levels ring pool
begins_at seen from since some txns found levels ring pool at is begins = subst (λ (n : ℕ). BeginsCore seen n txns found levels ring pool) at (subst (λ (ts : Transactions). BeginsCore seen from ts found levels ring pool) is begins)
