-- What a commit's items say of a truncation is a truncation.
use Rattle.std.proofs.Common.{◌≡◌, inl, inr, ℕ, ◌+◌, ◌*◌, ◌<◌, List, get_or, ap, ◌∙◌}
use Rattle.std.specs.Prelude.{Some, None}
use Rattle.fx_item.specs.Item.{ObjectKey, FileValue}
use Rattle.fx_item.specs.Look.{value_of_entry}
use Rattle.fx_item.specs.Overlay.{AtKey, AtFileBlock, ValueEntry, BlockEntry, Said}
use Rattle.fx_base.specs.declared.block.TheConstants.{BLOCK_BYTES}
use Rattle.fx_namespace.specs.Nodes.{NodeId}
use Rattle.fx_contents.specs.Points.{Points, points_after, block_in, named, device_block}
use Rattle.fx_contents.specs.Files.{byte_at, bytes_of_block}
use Rattle.fx_contents.specs.Cuts.{IsEdge, SaysCut, IsCutting, cut_byte}
use Rattle.fx_contents.specs.Staged.{HasWholeBlocks}
use Rattle.fx_contents.proofs.BlockBytes
use Rattle.fx_contents.proofs.StagedWrite.{says_so, says_nothing}

module _ (m : Points) (said : Said) (f g : ℕ → List ℕ) (node : NodeId) (size len : ℕ) (q : SaysCut m said f g node size len) where
  pub commit_cuts : named m (ObjectKey node.store node.id) ≡ Some (FileValue len) → HasWholeBlocks m f node → IsCutting m (points_after m said) f g node size len
  commit_cuts before full = record {
    before = before;
    after = ap value_of_entry (says_so m said (AtKey (ObjectKey node.store node.id)) (Some (ValueEntry (FileValue size))) q.object);
    gone = λ k h. elim (q.gone k h) [
      | inl e ↦ says_so m said (AtFileBlock node.store node.id k) None e
      | inr e ↦ says_nothing m said (AtFileBlock node.store node.id k) e.0 ∙ e.1
    ];
    edge = edge;
    kept = λ k h c. says_nothing m said (AtFileBlock node.store node.id k) (q.kept k h c);
    others = λ p beside. says_nothing m said p (q.others p beside);
    same = q.same;
  } where
    edge : (k old : ℕ) → IsEdge size len k → device_block m node k ≡ Some old
        → (block : ℕ) × (device_block (points_after m said) node k ≡ Some block) × ((j : ℕ) → j < BLOCK_BYTES → get_or (g block) j 0 ≡ cut_byte size (byte_at f (device_block m node)) (k * BLOCK_BYTES + j))
    edge k old a e =
        let x = q.edge k old a e in (
          x.0,
          ap block_in (says_so m said (AtFileBlock node.store node.id k) (Some (BlockEntry x.0 x.1)) x.2),
          λ j h. ap (λ bytes. get_or bytes j 0) x.3 ∙ BlockBytes.get_or-cut_block size k (f old) (full k old e) a.0 a.1 (byte_at f (device_block m node))
              (λ j h. BlockBytes.byte_in_block f (device_block m node) k j h ∙ ap (λ o. get_or (bytes_of_block f o) j 0) e) j h,
        )
