-- What is said of blocks that are read as blocks of a layer.
use Rattle.std.specs.Prelude.{◌≡◌, ℕ, List, [], ◌∷◌, ◌++◌, length, All, Result, Ok, Err}
use Rattle.std.specs.Borrow.{Bor}
use Rattle.fx_item.specs.Item.{PlainItem, item_bytes}
use Rattle.fx_item.specs.declared.item.ItemFault.{ItemFault}
use Rattle.fx_item.specs.declared.item.ItemFault.TheVariants as faults
use Rattle.fx_record.specs.Record.{items_bytes}
use Rattle.fx_layfile.specs.Block.{IsOfTree, IsIndexBlock, IsDataBlock}

-- An index block was read: the next one, and the data blocks. Or the block is none.
abbrev pub IndexDecoded : List ℕ → ℕ → Result (ℕ × List ℕ) ItemFault → Type 0
IndexDecoded block tree (Ok r) = IsIndexBlock block tree r.0 r.1
IndexDecoded block tree (Err faults.Bad) =
    (next : ℕ) (names : List ℕ) → IsIndexBlock block tree next names → ⊥
IndexDecoded block tree (Err faults.OutOfMemory) = Unit {0}

-- The items of a data block were appended. Or the block is none.
pub record AppendsData (block : List ℕ) (tree : ℕ) (old new : List PlainItem) : Type 0 where
  pub more : List PlainItem
  pub new_is : new ≡ old ++ more
  pub is_data : IsDataBlock block tree more

abbrev pub DataDecoded : List ℕ → ℕ → List PlainItem → List PlainItem
    → Result (Unit {0}) ItemFault → Type 0
DataDecoded block tree old new (Ok u) = AppendsData block tree old new
DataDecoded block tree old new (Err faults.Bad) =
    (items : List PlainItem) → IsDataBlock block tree items → ⊥
DataDecoded block tree old new (Err faults.OutOfMemory) = Unit {0}

-- Items were appended whose bytes stand first, and rest is left.
pub record AppendsItems (tree count : ℕ) (bytes : List ℕ) (old new : List PlainItem)
    (rest : List ℕ) : Type 0 where
  pub more : List PlainItem
  pub new_is : new ≡ old ++ more
  pub count_is : length more ≡ count
  pub parts : bytes ≡ items_bytes more ++ rest
  pub good : All (IsOfTree tree) more

-- The bytes are so many items of the tree.
abbrev pub ItemsDecoded : (tree count : ℕ) → List ℕ → List PlainItem → List PlainItem
    → Result (Unit {0}) ItemFault → Type 0
ItemsDecoded tree count bytes old new (Ok u) = AppendsItems tree count bytes old new []
ItemsDecoded tree count bytes old new (Err faults.Bad) =
    (items : List PlainItem) → length items ≡ count → bytes ≡ items_bytes items
    → All (IsOfTree tree) items → ⊥
ItemsDecoded tree count bytes old new (Err faults.OutOfMemory) = Unit {0}

-- One item was appended whose bytes stand first, and rest is left.
pub record AppendsItem (tree : ℕ) (bytes : List ℕ) (old new : List PlainItem) (rest : List ℕ)
    : Type 0 where
  pub item : PlainItem
  pub new_is : new ≡ old ++ item ∷ []
  pub good : IsOfTree tree item
  pub parts : bytes ≡ item_bytes item ++ rest

abbrev pub ItemDecoded : (tree : ℕ) → List ℕ → List PlainItem → List PlainItem
    → Result (Bor (List ℕ)) ItemFault → Type 0
ItemDecoded tree bytes old new (Ok rest) = AppendsItem tree bytes old new rest.now
ItemDecoded tree bytes old new (Err faults.Bad) =
    (item : PlainItem) (rest : List ℕ) → IsOfTree tree item → bytes ≡ item_bytes item ++ rest → ⊥
ItemDecoded tree bytes old new (Err faults.OutOfMemory) = Unit {0}
