-- A list of new blocks, in the items and on the device, is a write.
use Rattle.std.proofs.Common.{◌≡◌, ℕ, suc, ◌+◌, ◌*◌, ◌<◌, Bool, true, false, ◌||◌, List, [], ◌∷◌, map, length, get_or, max, nat_eq, refl, sym, ap, ◌∙◌}
use Rattle.std.specs.Prelude.{Option, Some, None}
use Rattle.std.specs.List.{slice_get, list_any}
use Rattle.std.proofs.lemmas.Bool.{eqb-true}
use Rattle.std.proofs.lemmas.List.{length-replicate}
use Rattle.fx_item.specs.Item.{ObjectKey, FileValue}
use Rattle.fx_item.specs.Look.{value_of_entry}
use Rattle.fx_item.specs.Overlay.{Point, AtKey, AtFileBlock, Entry, ValueEntry, BlockEntry, Said, or_older, over}
use Rattle.fx_base.specs.declared.block.TheConstants.{BLOCK_BYTES}
use Rattle.fx_namespace.specs.Nodes.{NodeId}
use Rattle.fx_contents.specs.Points.{Points, entry_after, points_after, block_in, named, device_block}
use Rattle.fx_contents.specs.Files.{byte_at, bytes_of_block}
use Rattle.fx_contents.specs.Writes.{is_covered, patched, written_byte, IsWriting}
use Rattle.fx_contents.specs.Staged.{StagedBlock, HasWholeBlocks, SaysWrite, AreStored, ArePatched}
use Rattle.fx_contents.proofs.FileBytes
use Rattle.fx_contents.proofs.BlockBytes

-- the staged block of a place
staged_at : (staged : List StagedBlock) (k : ℕ) → list_any (λ y. nat_eq y k) (map (λ s. s.index) staged) ≡ true → (i : ℕ) × (s : StagedBlock) × (slice_get staged i ≡ Some s) × (s.index ≡ k)
staged_at [] k e = absurd (let q : false ≡ true = e in cc)
staged_at (s ∷ rest) k e = by (λ h. staged_at rest k h) (nat_eq s.index k) refl e where
  later : (i : ℕ) × (x : StagedBlock) × (slice_get rest i ≡ Some x) × (x.index ≡ k) → (i : ℕ) × (x : StagedBlock) × (slice_get (s ∷ rest) i ≡ Some x) × (x.index ≡ k)
  later found = (suc found.0, found.1, found.2, found.3)

  by : (list_any (λ y. nat_eq y k) (map (λ s. s.index) rest) ≡ true → (i : ℕ) × (x : StagedBlock) × (slice_get rest i ≡ Some x) × (x.index ≡ k)) → (b : Bool) → nat_eq s.index k ≡ b → (b || list_any (λ y. nat_eq y k) (map (λ s. s.index) rest)) ≡ true → (i : ℕ) × (x : StagedBlock) × (slice_get (s ∷ rest) i ≡ Some x) × (x.index ≡ k)
  by step true e h = (0, s, refl, eqb-true s.index k e)
  by step false e h = later (step h)

-- ---- what a list of items says, and leaves

pub says_so : (m : Points) (said : Said) (p : Point) (entry : Option Entry) → said p ≡ Some entry → points_after m said p ≡ entry
says_so m said p entry e = ap (λ o. entry_after o (m p)) e

pub says_nothing : (m : Points) (said : Said) (p : Point) → said p ≡ None → points_after m said p ≡ m p
says_nothing m said p e = ap (λ o. entry_after o (m p)) e

-- two steps of one line are one commit
pub two_steps : (m : Points) (first next : Said) (p : Point) → points_after (points_after m first) next p ≡ points_after m (over next first) p
two_steps m first next p = by (next p) (first p) where
  by : (o l : Option (Option Entry)) → entry_after o (entry_after l (m p)) ≡ entry_after (or_older o l) (m p)
  by (Some x) l = refl
  by None l = refl

-- ---- a commit that writes

module _ (m : Points) (said : Said) (f g : ℕ → List ℕ) (node : NodeId) (at : ℕ) (text : List ℕ) (len : ℕ) (staged : List StagedBlock) where
  pub commit_writes : 0 < length text → named m (ObjectKey node.store node.id) ≡ Some (FileValue len) → HasWholeBlocks m f node
      → ArePatched m f node at text staged → SaysWrite said node (max len (at + length text)) at text staged → AreStored m f g node at text staged
      → IsWriting m (points_after m said) f g node at text len
  commit_writes some before full p q r = record {
    before = before;
    after = ap value_of_entry (says_so m said (AtKey (ObjectKey node.store node.id)) (Some (ValueEntry (FileValue (max len (at + length text))))) q.object);
    put = put;
    kept = λ k c. says_nothing m said (AtFileBlock node.store node.id k) (q.kept k c);
    others = λ p beside. says_nothing m said p (q.others p beside);
    same = r.same;
  } where
    block_full : (k : ℕ) (o : Option ℕ) → device_block m node k ≡ o → length (bytes_of_block f o) ≡ BLOCK_BYTES
    block_full k None e = length-replicate {A = ℕ} BLOCK_BYTES 0
    block_full k (Some block) e = full k block e

    entry : (i : ℕ) (s : StagedBlock) → slice_get staged i ≡ Some s → device_block (points_after m said) node s.index ≡ Some s.block
    entry i s e = let x = q.entry i s e in ap block_in (says_so m said (AtFileBlock node.store node.id s.index) (Some (BlockEntry s.block x.0)) x.1)

    put : (k : ℕ) → is_covered at text k ≡ true → (block : ℕ) × (device_block (points_after m said) node k ≡ Some block)
        × ((j : ℕ) → j < BLOCK_BYTES → get_or (g block) j 0 ≡ written_byte at text (byte_at f (device_block m node)) (k * BLOCK_BYTES + j))
    put k c =
        let x = staged_at staged k (ap (list_any (λ y. nat_eq y k)) p.places ∙ FileBytes.contains-covered at text some k ∙ c) in
        let bytes : g x.1.block ≡ patched at text k (bytes_of_block f (device_block m node k)) = r.stored x.0 x.1 x.2 ∙ p.bytes x.0 x.1 x.2 ∙ ap (λ i. patched at text i (bytes_of_block f (device_block m node i))) x.3 in (
          x.1.block,
          ap (device_block (points_after m said) node) (sym x.3) ∙ entry x.0 x.1 x.2,
          λ j h. ap (λ b. get_or b j 0) bytes ∙ BlockBytes.get_or-patched at text k (bytes_of_block f (device_block m node k)) (block_full k (device_block m node k) refl) c (byte_at f (device_block m node)) (BlockBytes.byte_in_block f (device_block m node) k) j h,
        )
