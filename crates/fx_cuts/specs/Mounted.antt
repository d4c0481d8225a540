-- The state with which a mount begins.
use Rattle.std.specs.Prelude.{◌≡◌, ℕ, ◌+◌, ◌≤◌, ◌<◌, Option, Some, List, length, map}
use Rattle.fx_disk.specs.Record.{DiskRecord}
use Rattle.fx_uses.specs.Live.{txn_of, AreNumbered, live_after}
use Rattle.fx_uses.specs.Uses.{Use, Want, wanted, image_block}
use Rattle.fx_kept.specs.Kept.{IsKeptIn}
use Rattle.fx_kept.specs.Opened.{AreOthers, HoldsImage, opened_use, opened_uses}
use Rattle.fx_cuts.specs.Joined.{JoinedState, HasLiveFiles}
use Rattle.fx_cuts.specs.Images.{ImageMeanings}

-- The state has the transactions that are kept, numbered from the base count on, which is that of the
-- superblock, and the uses of blocks that they leave. `first` says what was live before them, and `others` what the blocks that are not live
-- are used for.
pub record IsFoundState (w : ImageMeanings) (s : JoinedState) (right base : ℕ)
    (first : ℕ → Option ℕ) (others : ℕ → Use) : Type 0 where
  pub blocks_are : s.blocks ≡ opened_uses w.first_data right first base (map txn_of s.txns) others
  pub based_is : s.based ≡ base
  pub numbered : AreNumbered base (map txn_of s.txns)
  pub others_are : AreOthers w.first_data others
  pub right_most : right ≤ base
  pub data_from : (b x : ℕ) →
      live_after first (map txn_of s.txns) (base + length s.txns) b ≡ Some x → w.first_data ≤ b
  pub files : HasLiveFiles s (base + length s.txns)

-- Nothing is loose, the disk holds the image, which keeps all these transactions, each block of which
-- something is wanted lies on the disk, and what was live before them has its sum where that is stated.
pub record HoldsFoundState (w : ImageMeanings) (s : JoinedState) (right base : ℕ)
    (first : ℕ → Option ℕ) (others : ℕ → Use) (image : List (List ℕ)) (r : DiskRecord) : Type 0
  where
    pub holds : HoldsImage r image
    pub kept : IsKeptIn w.sum w.first_data image base s.txns (base + length s.txns)
    pub within : (b : ℕ) →
        (wanted (opened_use first base (map txn_of s.txns) others b) ≡ Want.Nothing → ⊥) →
        b < length r.entry
    pub clean : (b x : ℕ) → right < base →
        live_after first (map txn_of s.txns) (base + length s.txns) b ≡ Some x →
        w.sum (image_block image b) ≡ x
