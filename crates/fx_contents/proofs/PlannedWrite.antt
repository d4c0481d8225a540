-- The conditions of a write can be met.
use Rattle.std.proofs.Common.{◌≡◌, ◌≢◌, ℕ, ◌+◌, ◌-◌, ◌<◌, Bool, true, false, ◌&&◌, List, length, get_or, max, cond, refl, ap, ◌∙◌, arith}
use Rattle.std.specs.Prelude.{Some, None, ◌==◌}
use Rattle.std.proofs.lemmas.Bool.{and_from, and_parts, eq-eqb, eqb-true, le-ltb, lt-ltb}
use Rattle.fx_item.specs.Item.{ObjectKey, AttributeKey, ExtentKey, ChildKey, GraveKey, AllocationKey, FileValue}
use Rattle.fx_item.specs.Look.{value_of_entry}
use Rattle.fx_item.specs.Overlay.{Point, AtKey, AtFileBlock, AtDeviceBlock, ValueEntry, BlockEntry}
use Rattle.fx_namespace.specs.Nodes.{NodeId}
use Rattle.fx_contents.specs.Points.{Points, entry_after, points_after, named, block_in, device_block}
use Rattle.fx_contents.specs.Files.{byte_at, bytes_of_block}
use Rattle.fx_contents.specs.Plans.{planned_write, planned_blocks}
use Rattle.fx_contents.specs.Staged.{HasWholeBlocks}
use Rattle.fx_contents.specs.Writes.{is_covered, patched, IsWriting}
use Rattle.fx_contents.proofs.BlockBytes
use Rattle.fx_contents.proofs.BlockReads

module _ (m : Points) (f : ℕ → List ℕ) (node : NodeId) (base at : ℕ) (text : List ℕ) (len : ℕ) where
  itself : ((node.store == node.store) && (node.id == node.id)) ≡ true
  itself = and_from (node.store == node.store) (node.id == node.id) (eq-eqb node.store node.store refl) (eq-eqb node.id node.id refl)

  in_file : (k : ℕ) (b : Bool) → is_covered at text k ≡ b → planned_write node base at text len (AtFileBlock node.store node.id k) ≡ cond b (Some (Some (BlockEntry (base + k) 0))) None
  in_file k b e = ap (λ t. cond t (cond (is_covered at text k) (Some (Some (BlockEntry (base + k) 0))) None) None) itself ∙ ap (λ t. cond t (Some (Some (BlockEntry (base + k) 0))) None) e

  file_other : (store id k : ℕ) (b : Bool) → ((store == node.store) && (id == node.id)) ≡ b → ((j : ℕ) → AtFileBlock store id k ≢ AtFileBlock node.store node.id j) → planned_write node base at text len (AtFileBlock store id k) ≡ None
  file_other store id k true e ne = absurd (let p = and_parts (store == node.store) (id == node.id) e in
      ne k (λ i. AtFileBlock (eqb-true store node.store p.0 i) (eqb-true id node.id p.1 i) k))
  file_other store id k false e ne = ap (λ t. cond t (cond (is_covered at text k) (Some (Some (BlockEntry (base + k) 0))) None) None) e

  object_other : (store id : ℕ) (b : Bool) → ((store == node.store) && (id == node.id)) ≡ b → AtKey (ObjectKey store id) ≢ AtKey (ObjectKey node.store node.id) → planned_write node base at text len (AtKey (ObjectKey store id)) ≡ None
  object_other store id true e ne = absurd (let p = and_parts (store == node.store) (id == node.id) e in
      ne (λ i. AtKey (ObjectKey (eqb-true store node.store p.0 i) (eqb-true id node.id p.1 i))))
  object_other store id false e ne = ap (λ t. cond t (Some (Some (ValueEntry (FileValue (max len (at + length text)))))) None) e

  other : (p : Point) → p ≢ AtKey (ObjectKey node.store node.id) → ((k : ℕ) → p ≢ AtFileBlock node.store node.id k) → planned_write node base at text len p ≡ None
  other (AtKey (ObjectKey store id)) a b = object_other store id ((store == node.store) && (id == node.id)) refl a
  other (AtKey (AttributeKey store id name)) a b = refl
  other (AtKey (ExtentKey store id start stop)) a b = refl
  other (AtKey (ChildKey store id name)) a b = refl
  other (AtKey (GraveKey store id)) a b = refl
  other (AtKey (AllocationKey start stop)) a b = refl
  other (AtFileBlock store id k) a b = file_other store id k ((store == node.store) && (id == node.id)) refl b
  other (AtDeviceBlock block) a b = refl

  stored_new : (k : ℕ) → planned_blocks m f node base at text (base + k) ≡ patched at text k (bytes_of_block f (device_block m node k))
  stored_new k =
      let e : base + k - base ≡ k = omega arith in
      ap (λ t. cond t (f (base + k)) (patched at text (base + k - base) (bytes_of_block f (device_block m node (base + k - base))))) (le-ltb (base + k) base (omega arith))
      ∙ ap (λ j. patched at text j (bytes_of_block f (device_block m node j))) e

  stored_old : (b : ℕ) → b < base → planned_blocks m f node base at text b ≡ f b
  stored_old b h = ap (λ t. cond t (f b) (patched at text (b - base) (bytes_of_block f (device_block m node (b - base))))) (lt-ltb b base h)

  pub can_write : named m (ObjectKey node.store node.id) ≡ Some (FileValue len) → HasWholeBlocks m f node
      → ((other : NodeId) (k block : ℕ) → device_block m other k ≡ Some block → block < base) → IsWriting m (points_after m (planned_write node base at text len)) f (planned_blocks m f node base at text) node at text len
  can_write before full low = record {
    before = before;
    after = ap value_of_entry (ap (λ o. entry_after o (m (AtKey (ObjectKey node.store node.id)))) (ap (λ t. cond t (Some (Some (ValueEntry (FileValue (max len (at + length text)))))) None) itself));
    put = λ k c. (
      base + k,
      ap (λ o. block_in (entry_after o (m (AtFileBlock node.store node.id k)))) (in_file k true c),
      λ j h. ap (λ bytes. get_or bytes j 0) (stored_new k) ∙ BlockBytes.get_or-patched at text k (bytes_of_block f (device_block m node k)) (BlockReads.block_full f len (device_block m node) full k (device_block m node k) refl) c
          (byte_at f (device_block m node)) (BlockBytes.byte_in_block f (device_block m node) k) j h,
    );
    kept = λ k c. ap (λ o. entry_after o (m (AtFileBlock node.store node.id k))) (in_file k false c);
    others = λ p beside. ap (λ o. entry_after o (m p)) (other p beside.object beside.file);
    same = λ y k block e c. stored_old block (low y k block e);
  }
