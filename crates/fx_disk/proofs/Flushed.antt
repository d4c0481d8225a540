-- What a flush leaves as it is.
use Rattle.std.proofs.Common.{◌≡◌, ◌&&◌, not, if◌then◌else◌, List, Bool, true, false, refl, ◌∙◌, ap, ℕ}
use Rattle.fx_disk.specs.Record.{Flush, DiskRecord, Cell, LeftNow, cell_now, settled_cell, flushed_cell}
use Rattle.fx_disk.specs.Steps.{with_flush}
use Rattle.fx_disk.proofs.Left.{cell_now-with_call}

-- a flush changes no block's bytes, and makes none loose
pub flushed-bytes : (ok : Bool) (cell : Cell) → (flushed_cell ok cell).bytes ≡ cell.bytes
flushed-bytes ok cell = elim (ok && not cell.failed) as (λ t. (if t then settled_cell cell else cell).bytes ≡ cell.bytes) [ true ↦ refl | false ↦ refl ]

pub flushed-fixed : (ok : Bool) (cell : Cell) → cell.loose ≡ false → (flushed_cell ok cell).loose ≡ false
flushed-fixed ok cell e = elim (ok && not cell.failed) as (λ t. (if t then settled_cell cell else cell).loose ≡ false) [ true ↦ refl | false ↦ e ]

-- a flush leaves nothing that was not left before it
pub left-before : (r : DiskRecord) (ok : Bool) (image : List (List ℕ)) → LeftNow (with_flush r ok) image → LeftNow r image
left-before r ok image left = record {
  size = left.size;
  blocks = left.blocks;
  kept = λ b lt fixed.
      let c : cell_now (with_flush r ok) b ≡ flushed_cell ok (cell_now r b) = cell_now-with_call r (Flush ok) r.contents b in
      left.kept b lt (ap (λ (c : Cell). c.loose) c ∙ flushed-fixed ok (cell_now r b) fixed) ∙ ap (λ (c : Cell). c.bytes) c ∙ flushed-bytes ok (cell_now r b);
}
