-- What the items of a line do to the blocks of the device.
use Rattle.std.specs.Prelude.{◌≡◌, ℕ, ◌==◌, ◌&&◌, true, false, List, [], Some, None, Option, slice_get, if◌then◌else◌}
use Rattle.fx_item.specs.Item.{PlainItem}
use Rattle.fx_item.specs.Overlay.{AtFileBlock, AtDeviceBlock, Entry, BlockEntry, Said}
use Rattle.fx_namespace.specs.Nodes.{NodeId}
use Rattle.fx_contents.specs.Points.{Points, device_block}
use Rattle.fx_extent.specs.Allocations.{lists_block, said_by}
use Rattle.fx_extent.specs.Listed.{place_said}
use Rattle.fx_extent.specs.Staged.{AreInPlaces}
use Rattle.fx_extent.specs.declared.storing.NewBlock.{NewBlock}
use Rattle.fx_verify.specs.Kept.{after_items}
use Rattle.fx_live.specs.Live.{SaysBlock}

-- The blocks that are taken were free, and one place of a file is told to lie in each, and no place in
-- another one; the blocks that are freed are those of the places that are told anew or taken away.
pub record MovesBlocks (m : Points) (said : Said) : Type 0 where
  pub taken : (block : ℕ) (entry : Entry) → said (AtDeviceBlock block) ≡ Some (Some entry)
      → (m (AtDeviceBlock block) ≡ None) × (sum : ℕ) × SaysBlock said block sum
  pub placed : (node : NodeId) (n : ℕ) (entry : Entry)
      → said (AtFileBlock node.store node.id n) ≡ Some (Some entry)
      → (block sum : ℕ) × (taken : Entry) × (entry ≡ BlockEntry block sum)
      × (said (AtDeviceBlock block) ≡ Some (Some taken))
  pub once : (a b : NodeId) (i j block x y : ℕ)
      → said (AtFileBlock a.store a.id i) ≡ Some (Some (BlockEntry block x))
      → said (AtFileBlock b.store b.id j) ≡ Some (Some (BlockEntry block y)) → (a ≡ b) × (i ≡ j)
  pub freed : (block : ℕ) → said (AtDeviceBlock block) ≡ Some None
      → (node : NodeId) × (n : ℕ) × (o : Option Entry) × (device_block m node n ≡ Some block)
      × (said (AtFileBlock node.store node.id n) ≡ Some o)
  pub left : (node : NodeId) (n block : ℕ) (o : Option Entry) → device_block m node n ≡ Some block
      → said (AtFileBlock node.store node.id n) ≡ Some o → said (AtDeviceBlock block) ≡ Some None

-- ---- a line that writes and cuts files

-- What a line tells of the places of one file: new blocks, in the order of their places, and that the
-- places from one on, up to another, have no block any more.
pub record FileChange : Type 0 where
  pub blocks : List NewBlock
  pub from : ℕ
  pub to : ℕ

abbrev pub no_change : FileChange
no_change = record { blocks = []; from = 0; to = 0 }

-- one file changes
abbrev pub one_change : NodeId → FileChange → NodeId → FileChange
one_change node change other =
    if node.store == other.store && node.id == other.id then change else no_change

-- This is what is said of the places of files, and of blocks of the device.
pub record SaysChanges (said : Said) (changes : NodeId → FileChange) (taken freed : List ℕ) : Type 0
  where
    pub rising : (node : NodeId) → AreInPlaces 0 (changes node).blocks
    pub place : (node : NodeId) (n : ℕ) → said (AtFileBlock node.store node.id n)
        ≡ place_said (changes node).blocks (changes node).from (changes node).to n
    pub device : (block : ℕ) → said (AtDeviceBlock block)
        ≡ said_by taken freed (AtDeviceBlock block)

-- The new blocks lie in the blocks that are taken, each in one of its own, and these were free; the
-- blocks that are freed are those in which the places lay that are told anew or taken away.
pub record SwapsBlocks (m : Points) (changes : NodeId → FileChange) (taken freed : List ℕ) : Type 0
  where
    pub was_free : (block : ℕ) → lists_block taken block ≡ true
        → m (AtDeviceBlock block) ≡ None
    pub filled : (block : ℕ) → lists_block taken block ≡ true → (node : NodeId) × (i : ℕ)
        × (x : NewBlock) × (slice_get (changes node).blocks i ≡ Some x) × (x.block ≡ block)
    pub told : (node : NodeId) (i : ℕ) (x : NewBlock)
        → slice_get (changes node).blocks i ≡ Some x → lists_block taken x.block ≡ true
    pub once : (a b : NodeId) (i j : ℕ) (x y : NewBlock)
        → slice_get (changes a).blocks i ≡ Some x → slice_get (changes b).blocks j ≡ Some y
        → x.block ≡ y.block → (a ≡ b) × (i ≡ j)
    pub emptied : (block : ℕ) → lists_block freed block ≡ true → (node : NodeId) × (n : ℕ)
        × (o : Option Entry) × (device_block m node n ≡ Some block)
        × (place_said (changes node).blocks (changes node).from (changes node).to n ≡ Some o)
    pub left : (node : NodeId) (n block : ℕ) (o : Option Entry) → device_block m node n ≡ Some block
        → place_said (changes node).blocks (changes node).from (changes node).to n ≡ Some o
        → lists_block freed block ≡ true

-- What a transaction of such a line leaves of each block, whatever it had: the sum of its new block;
-- of a freed one nothing; of any other what it had.
pub record LeavesSums (items : List PlainItem) (changes : NodeId → FileChange)
    (taken freed : List ℕ) : Type 0 where
  pub new : (node : NodeId) (i : ℕ) (x : NewBlock) (old : Option ℕ)
      → slice_get (changes node).blocks i ≡ Some x → after_items x.block old items ≡ Some x.sum
  pub others : (block : ℕ) (old : Option ℕ) → lists_block taken block ≡ false
      → after_items block old items ≡ (if lists_block freed block then None else old)
