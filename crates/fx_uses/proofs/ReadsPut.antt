-- What the disk reads now in the blocks that are in use.
use Rattle.std.proofs.Common.{◌≡◌, ℕ, List, [], length, refl, ap, ◌∙◌, arith}
use Rattle.std.specs.Prelude.{slice_index_or}
use Rattle.fx_disk.specs.Record.{DiskRecord, Cell, cell_now}
use Rattle.fx_disk.specs.Steps.{IsRecordOf}
use Rattle.fx_uses.proofs.CellsKept.{ours_wanted}
use Rattle.fx_uses.specs.Uses.{BlockUses, IsOurs, CellsHold, Want, Good, Firm, wanted, HasWanted, IsGood, bytes_now}

good_of : (size b firm : ℕ) (w : Want) (cell : Cell) → (w ≡ Want.Nothing → ⊥) → HasWanted size b firm w cell → IsGood size b cell
good_of size b firm Want.Nothing cell ne has = absurd (ne refl)
good_of size b firm Good cell ne has = has
good_of size b firm (Firm since) cell ne has = has.0

-- a good read of a block of which something is wanted gives what was put there
pub reads_put : (sum : List ℕ → ℕ) (s : BlockUses) (size calls b : ℕ) (r : DiskRecord) → IsRecordOf size calls r → CellsHold sum s r → (wanted (s.uses b) ≡ Want.Nothing → ⊥) → slice_index_or r.contents b [] ≡ bytes_now r b
reads_put sum s size calls b r is held some =
    let good : IsGood (length r.entry) b (cell_now r b) = good_of (length r.entry) b s.firm (wanted (s.uses b)) (cell_now r b) some (held.each b) in
    is.reads b (omega (arith, good.within, is.entry_size)) good.good

-- and where its sum is known to be right, it has the stated one
pub reads_stated : (sum : List ℕ → ℕ) (s : BlockUses) (size calls b : ℕ) (r : DiskRecord) → IsRecordOf size calls r → CellsHold sum s r → IsOurs s.right (s.uses b) → sum (slice_index_or r.contents b []) ≡ s.sums b
reads_stated sum s size calls b r is held ours = ap sum (reads_put sum s size calls b r is held (λ e. ours_wanted s.right (s.uses b) e ours)) ∙ held.stated b ours
