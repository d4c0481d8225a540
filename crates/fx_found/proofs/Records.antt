-- The records of a stream that was read.
use Rattle.std.proofs.Common.{ℕ, ◌*◌, ◌≤◌, List, [], ◌∷◌, length, length-append, arith}
use Rattle.fx_jblock.specs.declared.Start.{Start}
use Rattle.fx_jblock.specs.declared.TheConstants.{RECORD_BYTES}
use Rattle.fx_journal.specs.Stream.{IsSeries, IsStream, place_after}
use Rattle.fx_journal.specs.declared.stream.StreamBlock.{StreamBlock}
use Rattle.fx_log.specs.Chosen.{start_of}
use Rattle.fx_logcuts.specs.Cuts.{pieces_in}
use Rattle.fx_record.specs.Txns.{all_bytes}
use Rattle.fx_super.specs.Super.{Fields}
use Rattle.fx_super.specs.declared.choice.Which.{Which}
use Rattle.fx_layfile.specs.Layer.{blocks_in}
use Rattle.fx_layfile.specs.Reading.{PlainLayer}
use Rattle.fx_found.specs.Image.{NamesDisk}
use Rattle.fx_found.specs.Layers.{HasLayers}
use Rattle.fx_found.specs.Faults.{IsFindFault}
use Rattle.fx_found.specs.Reading.{IsRecordFault, IsTxnsFault}
use Rattle.fx_found.specs.declared.fault.FindFault.{FindFault}
use Rattle.fx_found.specs.declared.fault.FindFault.TheVariants as faults

-- a stream has few record bytes
pub few_bytes : (generation : ℕ) (start next : Start) (blocks : List StreamBlock) → IsSeries generation start blocks next → length (all_bytes (pieces_in blocks)) ≤ RECORD_BYTES * length blocks
few_bytes generation start next [] h = omega arith
few_bytes generation start next (b ∷ bs) h =
    omega (arith, length-append b.records (all_bytes (pieces_in bs)), h.0.room, few_bytes generation (place_after start b) next bs h.1)

pub record_fault : (image : List (List ℕ)) (f : Fields) (stream : List StreamBlock) (next : Start) → IsStream image f.ring f.generation (start_of f) stream next → (e : FindFault) → IsTxnsFault f.base (pieces_in stream) e → IsRecordFault image f e
record_fault image f stream next is (faults.BadRecord place) k = (stream, next, is, k)
record_fault image f stream next is faults.Device k = k
record_fault image f stream next is faults.OutOfMemory k = k
record_fault image f stream next is faults.NoSuper k = k
record_fault image f stream next is (faults.Version v) k = k
record_fault image f stream next is (faults.DiskSize n) k = k
record_fault image f stream next is (faults.BadLayer b) k = k
record_fault image f stream next is (faults.BadTree s i) k = k
record_fault image f stream next is (faults.Unsound b) k = k
record_fault image f stream next is (faults.Cramped n) k = k

pub lost_record : (size : ℕ) (image : List (List ℕ)) (slot : Which) (f : Fields) (objects allocs : List PlainLayer) → NamesDisk size image slot f → HasLayers (blocks_in image) size f objects allocs → (e : FindFault) → IsRecordFault image f e → IsFindFault size image e
lost_record size image slot f objects allocs super layers (faults.BadRecord place) k = record { slot = slot; f = f; super = super; objects = objects; allocs = allocs; layers = layers; stream = k.0; next = k.1; stream_is = k.2; wrong = k.3 }
lost_record size image slot f objects allocs super layers faults.Device k = tt
lost_record size image slot f objects allocs super layers faults.OutOfMemory k = tt
lost_record size image slot f objects allocs super layers faults.NoSuper k = absurd k
lost_record size image slot f objects allocs super layers (faults.Version v) k = absurd k
lost_record size image slot f objects allocs super layers (faults.DiskSize n) k = absurd k
lost_record size image slot f objects allocs super layers (faults.BadLayer b) k = absurd k
lost_record size image slot f objects allocs super layers (faults.BadTree s i) k = absurd k
lost_record size image slot f objects allocs super layers (faults.Unsound b) k = absurd k
lost_record size image slot f objects allocs super layers (faults.Cramped n) k = absurd k
