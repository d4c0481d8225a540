-- Reading a file block by block.
use Rattle.std.proofs.Common.{◌≡◌, ℕ, ◌+◌, ◌*◌, ◌/◌, ◌%◌, ◌<◌, ◌≤◌, List, length, take, drop, get_or, refl, sym, ap, ◌∙◌, arith, length-take}
use Rattle.std.specs.Prelude.{Option, Some, None}
use Rattle.std.proofs.lemmas.List.{ext_get_or, get_or-drop, get_or-take, length-drop, length-replicate}
use Rattle.fx_base.specs.declared.block.TheConstants.{BLOCK_BYTES}
use Rattle.fx_contents.specs.Files.{bytes_of_block, byte_at, file_of}
use Rattle.fx_contents.proofs.FileBytes
use Rattle.fx_contents.proofs.BlockBytes

module _ (f : ℕ → List ℕ) (len : ℕ) (held : ℕ → Option ℕ) (full : (n block : ℕ) → held n ≡ Some block → length (f block) ≡ BLOCK_BYTES) where
  pub block_full : (n : ℕ) (o : Option ℕ) → held n ≡ o → length (bytes_of_block f o) ≡ BLOCK_BYTES
  block_full n None e = length-replicate {A = ℕ} BLOCK_BYTES 0
  block_full n (Some block) e = full n block e

  -- what is read within one block
  pub read_piece : (p count : ℕ) → p % BLOCK_BYTES + count ≤ BLOCK_BYTES → p + count ≤ len
      → take count (drop p (file_of f len held).bytes) ≡ take count (drop (p % BLOCK_BYTES) (bytes_of_block f (held (p / BLOCK_BYTES))))
  read_piece p count h l = ext_get_or 0 (take count (drop p (file_of f len held).bytes)) (take count (drop (p % BLOCK_BYTES) (bytes_of_block f (held (p / BLOCK_BYTES)))))
      (left ∙ sym right) (λ i k. each i (omega (arith, k, left)))
    where
      left : length (take count (drop p (file_of f len held).bytes)) ≡ count
      left = length-take count (drop p (file_of f len held).bytes) ∙ omega (arith, length-drop p (file_of f len held).bytes, FileBytes.length-bytes f len held)

      right : length (take count (drop (p % BLOCK_BYTES) (bytes_of_block f (held (p / BLOCK_BYTES))))) ≡ count
      right = length-take count (drop (p % BLOCK_BYTES) (bytes_of_block f (held (p / BLOCK_BYTES))))
          ∙ omega (arith, length-drop (p % BLOCK_BYTES) (bytes_of_block f (held (p / BLOCK_BYTES))), block_full (p / BLOCK_BYTES) (held (p / BLOCK_BYTES)) refl)

      each : (i : ℕ) → i < count → get_or (take count (drop p (file_of f len held).bytes)) i 0 ≡ get_or (take count (drop (p % BLOCK_BYTES) (bytes_of_block f (held (p / BLOCK_BYTES))))) i 0
      each i k =
          let place : (p / BLOCK_BYTES) * BLOCK_BYTES + (p % BLOCK_BYTES + i) ≡ p + i = omega arith in
          get_or-take count (drop p (file_of f len held).bytes) i 0 k ∙ get_or-drop p (file_of f len held).bytes i 0 ∙ FileBytes.get_or-bytes f len held (p + i) (omega arith)
          ∙ sym (ap (byte_at f held) place) ∙ BlockBytes.byte_in_block f held (p / BLOCK_BYTES) (p % BLOCK_BYTES + i) (omega arith)
          ∙ sym (get_or-take count (drop (p % BLOCK_BYTES) (bytes_of_block f (held (p / BLOCK_BYTES)))) i 0 k ∙ get_or-drop (p % BLOCK_BYTES) (bytes_of_block f (held (p / BLOCK_BYTES))) i 0)
