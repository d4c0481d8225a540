-- A file's bytes, read block by block.
use Rattle.std.proofs.Common.{◌≡◌, ◌⊎◌, inl, inr, ℕ, zero, suc, ◌+◌, ◌-◌, ◌*◌, ◌/◌, ◌%◌, ◌≤◌, List, ◌++◌, length, take, drop, refl, sym, ap, ◌∙◌, arith}
use Rattle.std.specs.Prelude.{Option, Some, None, min, option_map}
use Rattle.std.specs.List.{flat_map, range_with_len}
use Rattle.std.proofs.lemmas.Bool.{cases_lt}
use Rattle.std.proofs.lemmas.List.{drop-drop}
use Rattle.std.proofs.Math.Seq.{take-add}
use Rattle.fx_base.specs.declared.block.TheConstants.{BLOCK_BYTES}
use Rattle.fx_contents.specs.Files.{bytes_of_block, file_of}
use Rattle.fx_contents.proofs.BlockReads.{read_piece}
use Rattle.fx_contents.specs.Points.{block_in, device_block}
use Rattle.fx_item.specs.Overlay.{AtFileBlock, Said, live_in}
use Rattle.fx_item.specs.declared.block.BlockRef.{BlockRef}
use Rattle.fx_namespace.specs.Nodes.{NodeId}
use Rattle.fx_extent.specs.Blocks.{ref_entry}
use Rattle.fx_extent.specs.Reading.{piece_read}

module _ (f : ℕ → List ℕ) (len : ℕ) (held : ℕ → Option ℕ) (full : (n block : ℕ) → held n ≡ Some block → length (f block) ≡ BLOCK_BYTES) where
  -- two parts of a text that follow each other
  joined : (xs : List ℕ) (q c d total : ℕ) → total ≡ c + d → (next : ℕ) → (next ≡ q + c) ⊎ (d ≡ 0) → take c (drop q xs) ++ take d (drop next xs) ≡ take total (drop q xs)
  joined xs q c d total e next (inl h) =
      ap (λ r. take c (drop q xs) ++ take d r) (ap (λ m. drop m xs) h ∙ sym (drop-drop c q xs)) ∙ sym (take-add c d (drop q xs)) ∙ ap (λ m. take m (drop q xs)) (sym e)
  joined xs q c d total e next (inr h) =
      let all : total ≡ c + 0 = e ∙ ap (λ m. c + m) h in
      (λ j. take c (drop q xs) ++ take (h j) (drop next xs)) ∙ sym (ap (λ m. take m (drop q xs)) all ∙ take-add c 0 (drop q xs))

  module _ (at past : ℕ) (within : past ≤ len) where
    -- what is read of block n, from a place in it on
    piece : (q n : ℕ) → q / BLOCK_BYTES ≡ n → at - n * BLOCK_BYTES ≡ q % BLOCK_BYTES → q ≤ past
        → piece_read at past n (bytes_of_block f (held n)) ≡ take (min past ((n + 1) * BLOCK_BYTES) - q) (drop q (file_of f len held).bytes)
    piece q n e from le =
        let place : n * BLOCK_BYTES + q % BLOCK_BYTES ≡ q = omega (arith, e) in
        let count : min BLOCK_BYTES (past - n * BLOCK_BYTES) - (at - n * BLOCK_BYTES) ≡ min past ((n + 1) * BLOCK_BYTES) - q = omega (arith, place, from, le) in
        (λ j. take (count j) (drop (from j) (bytes_of_block f (held n))))
        ∙ sym (read_piece f len held full q (min past ((n + 1) * BLOCK_BYTES) - q) (omega (arith, place)) (omega (arith, within, le)) ∙ ap (λ m. take (min past ((n + 1) * BLOCK_BYTES) - q) (drop (q % BLOCK_BYTES) (bytes_of_block f (held m)))) e)

    -- from the beginning of a block on
    later : (n k : ℕ) → at ≤ n * BLOCK_BYTES
        → flat_map (λ m. piece_read at past m (bytes_of_block f (held m))) (range_with_len n k) ≡ take (min past ((n + k) * BLOCK_BYTES) - n * BLOCK_BYTES) (drop (n * BLOCK_BYTES) (file_of f len held).bytes)
    later n zero le =
        let none : min past ((n + 0) * BLOCK_BYTES) - n * BLOCK_BYTES ≡ 0 = omega arith in
        sym (ap (λ m. take m (drop (n * BLOCK_BYTES) (file_of f len held).bytes)) none)
    later n (suc k) le = elim (cases_lt past (n * BLOCK_BYTES)) [
      | inl short ↦
          let none : min BLOCK_BYTES (past - n * BLOCK_BYTES) - (at - n * BLOCK_BYTES) ≡ 0 = omega (arith, short) in
          let no_more : min past ((n + 1 + k) * BLOCK_BYTES) - (n + 1) * BLOCK_BYTES ≡ 0 = omega (arith, short) in
          let nothing : min past ((n + suc k) * BLOCK_BYTES) - n * BLOCK_BYTES ≡ 0 = omega (arith, short) in
          (λ j. take (none j) (drop (at - n * BLOCK_BYTES) (bytes_of_block f (held n))) ++ (later (n + 1) k (omega (arith, le)) ∙ ap (λ m. take m (drop ((n + 1) * BLOCK_BYTES) (file_of f len held).bytes)) no_more) j)
          ∙ sym (ap (λ m. take m (drop (n * BLOCK_BYTES) (file_of f len held).bytes)) nothing)
      | inr fine ↦
          let c : ℕ = min past ((n + 1) * BLOCK_BYTES) - n * BLOCK_BYTES in
          let d : ℕ = min past ((n + 1 + k) * BLOCK_BYTES) - (n + 1) * BLOCK_BYTES in
          (λ j. piece (n * BLOCK_BYTES) n (omega arith) (omega (arith, le)) fine j ++ later (n + 1) k (omega (arith, le)) j)
          ∙ joined (file_of f len held).bytes (n * BLOCK_BYTES) c d (min past ((n + suc k) * BLOCK_BYTES) - n * BLOCK_BYTES) (omega (arith, fine)) ((n + 1) * BLOCK_BYTES) (elim (cases_lt past ((n + 1) * BLOCK_BYTES)) [
            | inl ends ↦ inr (omega (arith, ends))
            | inr more ↦ inl (omega (arith, more))
          ])
    ]

    pub pieces_read : (k : ℕ) → at ≤ past → past ≤ (at / BLOCK_BYTES + k) * BLOCK_BYTES
        → flat_map (λ m. piece_read at past m (bytes_of_block f (held m))) (range_with_len (at / BLOCK_BYTES) k) ≡ take (past - at) (drop at (file_of f len held).bytes)
    pieces_read zero le most =
        let nothing : past - at ≡ 0 = omega (arith, most) in
        sym (ap (λ m. take m (drop at (file_of f len held).bytes)) nothing)
    pieces_read (suc k) le most =
        let n : ℕ = at / BLOCK_BYTES in
        let c : ℕ = min past ((at / BLOCK_BYTES + 1) * BLOCK_BYTES) - at in
        let d : ℕ = min past ((at / BLOCK_BYTES + 1 + k) * BLOCK_BYTES) - (at / BLOCK_BYTES + 1) * BLOCK_BYTES in
        (λ j. piece at (at / BLOCK_BYTES) refl (omega arith) le j ++ later (at / BLOCK_BYTES + 1) k (omega arith) j)
        ∙ joined (file_of f len held).bytes at c d (past - at) (omega (arith, le, most)) ((at / BLOCK_BYTES + 1) * BLOCK_BYTES) (elim (cases_lt past ((at / BLOCK_BYTES + 1) * BLOCK_BYTES)) [
          | inl ends ↦ inr (omega (arith, ends))
          | inr more ↦ inl (omega (arith, more))
        ])

-- the block that is found is the one that the file has
pub block_found : (said : Said) (node : NodeId) (n : ℕ) (found : Option BlockRef) → option_map ref_entry found ≡ live_in said (AtFileBlock node.store node.id n)
    → device_block (live_in said) node n ≡ option_map (λ r. r.block) found
block_found said node n found e = ap block_in (sym e) ∙ by found
  where
    by : (o : Option BlockRef) → block_in (option_map ref_entry o) ≡ option_map (λ (r : BlockRef). r.block) o
    by None = refl
    by (Some r) = refl
