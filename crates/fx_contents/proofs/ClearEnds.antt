-- Zeros past the ends of files, by bytes and by blocks; and why a write past the end needs them.
use Rattle.std.proofs.Common.{◌≡◌, ℕ, ◌+◌, ◌*◌, ◌/◌, ◌%◌, ◌<◌, ◌≤◌, false, List, length, get_or, max, refl, sym, ap, ◌∙◌, arith}
use Rattle.std.specs.Prelude.{Option, Some, None}
use Rattle.fx_item.specs.Item.{ObjectKey, FileValue}
use Rattle.fx_plain.specs.Node.{written}
use Rattle.fx_base.specs.declared.block.TheConstants.{BLOCK_BYTES}
use Rattle.fx_namespace.specs.Nodes.{NodeId}
use Rattle.fx_contents.specs.Points.{Points, named, device_block}
use Rattle.fx_contents.specs.Files.{byte_in, byte_at, file_of}
use Rattle.fx_contents.specs.Standing.{AreWithin, AreClear, AreClearEnds}
use Rattle.fx_contents.specs.Writes.{is_covered}
use Rattle.fx_contents.proofs.FileBytes
use Rattle.fx_contents.proofs.FileRewritten.{inside_block}

module _ (m : Points) (f : ℕ → List ℕ) (within : AreWithin m) where
  pub clear_ends : AreClear m f → AreClearEnds m f
  clear_ends c = record {
    zero = λ node len block j o e l h.
        let i : ℕ = (len / BLOCK_BYTES) * BLOCK_BYTES + j in
        let k : ((len / BLOCK_BYTES) * BLOCK_BYTES + j) / BLOCK_BYTES ≡ len / BLOCK_BYTES = omega arith in
        let r : ((len / BLOCK_BYTES) * BLOCK_BYTES + j) % BLOCK_BYTES ≡ j = omega arith in
        sym (ap (λ x. byte_in f x j) e) ∙ sym (λ x. byte_in f (device_block m node (k x)) (r x)) ∙ c.zero node len ((len / BLOCK_BYTES) * BLOCK_BYTES + j) o (omega arith);
  }

  pub ends_clear : AreClearEnds m f → AreClear m f
  ends_clear c = record { zero = λ node len i o l. by node len i o l (device_block m node (i / BLOCK_BYTES)) refl } where
    by : (node : NodeId) (len i : ℕ) → named m (ObjectKey node.store node.id) ≡ Some (FileValue len) → len ≤ i → (b : Option ℕ) → device_block m node (i / BLOCK_BYTES) ≡ b → byte_in f b (i % BLOCK_BYTES) ≡ 0
    by node len i o l None e = refl
    by node len i o l (Some block) e =
        let h = inside_block m node len within o (i / BLOCK_BYTES) block e in
        let k : i / BLOCK_BYTES ≡ len / BLOCK_BYTES = omega (arith, h) in
        c.zero node len block (i % BLOCK_BYTES) o (ap (device_block m node) (sym k) ∙ e) (omega (arith, h)) (omega arith)

-- A write past the end that reads nothing of the last block leaves the file as the tree has it only if that
-- block is zero past the old end: each byte between the old end and the text that is in no covered block.
module _ (f g : ℕ → List ℕ) (len : ℕ) (old new : ℕ → Option ℕ) (at : ℕ) (text : List ℕ) (some : 0 < length text)
    (kept : (k : ℕ) → is_covered at text k ≡ false → new k ≡ old k)
    (same : (k block : ℕ) → is_covered at text k ≡ false → old k ≡ Some block → g block ≡ f block) where
  kept_in : (k j : ℕ) → is_covered at text k ≡ false → (o : Option ℕ) → old k ≡ o → byte_in g o j ≡ byte_in f o j
  kept_in k j c None e = refl
  kept_in k j c (Some block) e = ap (λ bytes. get_or bytes j 0) (same k block c e)

  pub needs_clear : file_of g (max len (at + length text)) new ≡ written at text (file_of f len old) → (i : ℕ) → len ≤ i → i < at → is_covered at text (i / BLOCK_BYTES) ≡ false → byte_at f old i ≡ 0
  needs_clear is i l h c =
      sym (ap (λ o. byte_in g o (i % BLOCK_BYTES)) (kept (i / BLOCK_BYTES) c) ∙ kept_in (i / BLOCK_BYTES) (i % BLOCK_BYTES) c (old (i / BLOCK_BYTES)) refl)
      ∙ sym (FileBytes.get_or-bytes g (max len (at + length text)) new i (omega arith))
      ∙ ap (λ x. get_or x.bytes i 0) is
      ∙ FileBytes.get_or-written at text (file_of f len old) some i
      ∙ FileBytes.before at text (λ i. get_or (file_of f len old).bytes i 0) i h
      ∙ FileBytes.past-bytes f len old i l
