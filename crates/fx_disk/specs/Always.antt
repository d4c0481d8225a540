-- What holds of every image that a stop may leave, at each moment of a stretch.
use Rattle.std.specs.Prelude.{ℕ, ◌+◌, ◌≤◌, List, length}
use Rattle.fx_disk.specs.Record.{DiskRecord, Cell, Left, LeftNow, cell_at, cell_now}

-- `P` of the blocks' cells at the moment, the moment and the image, from the moment `from` up to
-- now.
pub record Always (P : (ℕ → Cell) → ℕ → List (List ℕ) → Type 0) (from : ℕ) (r : DiskRecord) : Type 0
  where
    pub since : from ≤ length r.calls
    pub each : (m : ℕ) (image : List (List ℕ)) → from ≤ m → m ≤ length r.calls → Left r m image →
        P (cell_at r m) m image

-- `P` of every image that a stop now may leave.
abbrev pub HoldsNow : ((ℕ → Cell) → ℕ → List (List ℕ) → Type 0) → DiskRecord → Type 0
HoldsNow P r = (image : List (List ℕ)) → LeftNow r image → P (cell_now r) (length r.calls) image

-- `P` gives `Q` at each moment from `from` up to now.
abbrev pub Implies : ((ℕ → Cell) → ℕ → List (List ℕ) → Type 0) →
    ((ℕ → Cell) → ℕ → List (List ℕ) → Type 0) → ℕ → DiskRecord → Type 0
Implies P Q from r = (m : ℕ) (image : List (List ℕ)) → from ≤ m → m ≤ length r.calls →
    Left r m image → P (cell_at r m) m image → Q (cell_at r m) m image

-- `Q` at the moment after a write gives `Q` within the write, where the same images may be left.
abbrev pub HoldsWithin : ((ℕ → Cell) → ℕ → List (List ℕ) → Type 0) → Type 0
HoldsWithin Q = (cells : ℕ → Cell) (m : ℕ) (image : List (List ℕ)) → Q cells (m + 1) image →
    Q cells m image
