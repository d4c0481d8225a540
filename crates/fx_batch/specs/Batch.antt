-- Where items are out of order.
use Rattle.std.specs.Prelude.{◌≡◌, ℕ, ◌+◌, ◌<◌, List, Some}
use Rattle.std.specs.List.{slice_get}
use Rattle.fx_item.specs.Item.{PlainItem}
use Rattle.fx_item.specs.Place.{Upto, Below, begins, ends}
use Rattle.fx_batch.specs.declared.batch.BuildFault.{BuildFault}
use Rattle.fx_batch.specs.declared.batch.BuildFault.TheVariants as faults

-- The item at i is the first that begins before the one before it ends.
pub record IsDisorder (items : List PlainItem) (i : ℕ) : Type 0 where
  pub before : (j : ℕ) (x y : PlainItem) → j + 1 < i
      → slice_get items j ≡ Some x → slice_get items (j + 1) ≡ Some y
      → Upto (ends x.key) (begins y.key)
  pub place : ℕ
  pub x : PlainItem
  pub y : PlainItem
  pub after : i ≡ place + 1
  pub earlier : slice_get items place ≡ Some x
  pub later : slice_get items i ≡ Some y
  pub wrong : Below (begins y.key) (ends x.key)

abbrev pub IsOrderFault : List PlainItem → BuildFault → Type 0
IsOrderFault items (faults.Order i) = IsDisorder items i
