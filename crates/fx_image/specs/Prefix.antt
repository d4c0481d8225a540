-- What a stop leaves of a mounted disk: the tree after a prefix of the history.
use Rattle.std.specs.Prelude.{◌≡◌, ℕ, ◌+◌, ◌≤◌, List, Some, length, slice_get}
use Rattle.fx_disk.specs.Record.{DiskRecord, LeftNow, cell_after, cell_now}
use Rattle.fx_disk.specs.Always.{Always}
use Rattle.fx_super.specs.Super.{Fields}
use Rattle.fx_plain.specs.Tree.{Tree}
use Rattle.fx_plain.specs.Bare.{bare}
use Rattle.fx_history.specs.declared.entry.Entry.{Entry}
use Rattle.fx_history.specs.History.{tree_at}
use Rattle.fx_log.specs.Chance.{NotByChance}
use Rattle.fx_disk.specs.Began.{BeganAs}
use Rattle.fx_image.specs.Standing.{Transactions, IsImage, HasSessionRoom, HasAmpleRoom, kept}

-- The image stands for the tree after a prefix of the history, without what files hold. The prefix
-- has each entry that was settled by this moment. Where there was ample room, it can be mounted
-- again.
pub record IsPrefix (size : ℕ) (ample : Type 0) (tree : Tree) (base : ℕ) (history : List Entry)
    (m : ℕ) (image : List (List ℕ)) : Type 0 where
  pub super : Fields
  pub txns : Transactions
  pub least : base ≤ kept super txns
  pub most : kept super txns ≤ base + length history
  pub settled : (i : ℕ) (entry : Entry) → slice_get history i ≡ Some entry → 1 ≤ entry.settled →
      entry.settled ≤ m → entry.number ≤ kept super txns
  pub image_is : IsImage size image super txns (bare (tree_at tree history (kept super txns)))
  pub room : ample → HasSessionRoom super txns

-- The disk began as an image with this superblock and these transactions, which stands for the
-- tree.
pub record Began (size from base : ℕ) (tree : Tree) (r : DiskRecord) (image : List (List ℕ))
    (f : Fields) (txns : Transactions) : Type 0 where
  pub begins : BeganAs r from image
  pub image_is : IsImage size image f txns tree
  pub base_is : kept f txns ≡ base

-- At every moment from there on, every image left that is not there by chance stands for a prefix
-- of the history of commits.
pub record KeepsPrefix (size from : ℕ) (tree : Tree) (base : ℕ) (history : List Entry)
    (r : DiskRecord) : Type 0 where
  pub since : from ≤ length r.calls
  pub always : (image : List (List ℕ)) (f : Fields) (txns : Transactions) →
      Began size from base tree r image f txns →
      Always (λ cells m left. NotByChance (cell_after r from) cells f.generation left →
      IsPrefix size (HasAmpleRoom f txns) tree base history m left) from r

-- The image stands for the tree after the whole history, without what files hold.
pub record HasWholeHistory (size : ℕ) (tree : Tree) (base : ℕ) (history : List Entry)
    (image : List (List ℕ)) : Type 0 where
  pub super : Fields
  pub txns : Transactions
  pub kept_is : kept super txns ≡ base + length history
  pub image_is : IsImage size image super txns (bare (tree_at tree history (base + length history)))

-- Every image left now that is not there by chance does.
pub record KeepsAll (size from : ℕ) (tree : Tree) (base : ℕ) (history : List Entry)
    (r : DiskRecord) : Type 0 where
  pub each : (image : List (List ℕ)) (f : Fields) (txns : Transactions) →
      Began size from base tree r image f txns →
      (left : List (List ℕ)) → LeftNow r left →
      NotByChance (cell_after r from) (cell_now r) f.generation left →
      HasWholeHistory size tree base history left
