-- What an image keeps of the transactions, and what its blocks hold.
use Rattle.std.specs.Prelude.{◌≡◌, ℕ, ◌+◌, ◌≤◌, ◌<◌, ◌&&◌, true, if◌then◌else◌, nat_le, nat_lt, Option, Some, None, List, ◌++◌, length, map}
use Rattle.fx_item.specs.Item.{PlainItem}
use Rattle.fx_disk.specs.Record.{DiskRecord, Cell}
use Rattle.fx_uses.specs.Live.{Txn, txn_of, IsPut, live_after}
use Rattle.fx_uses.specs.Uses.{BlockUses, bytes_now, image_block}

-- The sum that is found in a block where data can lie. One that lies below the first such block, or past
-- the image, counts as without its sum.
abbrev pub sum_found : (List ℕ → ℕ) → ℕ → List (List ℕ) → ℕ → Option ℕ
sum_found sum first_data image b =
    if nat_le first_data b && nat_lt b (length image) then Some (sum (image_block image b))
    else None

-- A transaction of the list, numbered at most `k`, wrote the block.
pub record IsTested (stream : List Txn) (k b : ℕ) : Type 0 where
  pub number : ℕ
  pub most : number ≤ k
  pub put : IsPut stream number b

-- Each block that a transaction of the stream up to `k` wrote and that is live after `k` is found with
-- the sum that is stated for it.
abbrev pub PassesAt : (ℕ → Option ℕ) → (ℕ → Option ℕ) → List Txn → ℕ → Type 0
PassesAt found first stream k = (b x : ℕ) → live_after first stream k b ≡ Some x →
    IsTested stream k b → found b ≡ Some x

-- The greatest number that passes. The base count does; one that fails may stand below it.
pub record IsKeptUpTo (found : ℕ → Option ℕ) (base : ℕ) (first : ℕ → Option ℕ) (stream : List Txn)
    (k : ℕ) : Type 0 where
  pub least : base ≤ k
  pub most : k ≤ base + length stream
  pub passes : PassesAt found first stream k
  pub greatest : (j : ℕ) → k < j → j ≤ base + length stream → PassesAt found first stream j → ⊥

-- no block is live before the first transaction
abbrev pub none_live : ℕ → Option ℕ
none_live b = None

-- The number up to which an image keeps the transactions that its stream leaves, numbered from the base
-- count on. Which blocks were live before them does not matter.
abbrev pub IsKeptIn : (sum : List ℕ → ℕ) (first_data : ℕ) (image : List (List ℕ)) (base : ℕ)
    (txns : List (ℕ × List PlainItem)) → ℕ → Type 0
IsKeptIn sum first_data image base txns k =
    IsKeptUpTo (sum_found sum first_data image) base none_live (map txn_of txns) k

-- A loose block that a transaction of the stream wrote and that is live after `k` holds the bytes of
-- its last write.
abbrev pub HasTrueBlocks : (ℕ → Cell) → (ℕ → Option ℕ) → List Txn → ℕ → List (List ℕ) → Type 0
HasTrueBlocks cells first stream k image = (b x : ℕ) → live_after first stream k b ≡ Some x →
    IsTested stream k b → (cells b).loose ≡ true → image_block image b ≡ (cells b).bytes

-- The same of every loose block that is live after `k`, whoever wrote it.
abbrev pub HasTrueLiveBlocks : (ℕ → Cell) → (ℕ → Option ℕ) → List Txn → ℕ → List (List ℕ) → Type 0
HasTrueLiveBlocks cells first stream k image = (b x : ℕ) →
    live_after first stream k b ≡ Some x → (cells b).loose ≡ true →
    image_block image b ≡ (cells b).bytes

-- A superblock with this base count, and the stream from its start, are a stretch of the transactions.
-- What was live at the base count is flushed, and the stream has the settled ones.
pub record IsStretch (s : BlockUses) (base : ℕ) (first : ℕ → Option ℕ) (stream : List Txn) : Type 0
  where
    pub before : List Txn
    pub after : List Txn
    pub joined : s.txns ≡ before ++ (stream ++ after)
    pub base_is : base ≡ s.base + length before
    pub first_is : (b : ℕ) → first b ≡ live_after s.first s.txns base b
    pub flushed : base ≤ s.firm
    pub reaches : s.settled ≤ base + length stream

-- The image holds what was put last in each block that is live after `k`.
abbrev pub HasContents : BlockUses → DiskRecord → ℕ → List (List ℕ) → Type 0
HasContents s r k image = (b x : ℕ) → live_after s.first s.txns k b ≡ Some x →
    image_block image b ≡ bytes_now r b
