-- Items in memory.
use Rattle.std.specs.Prelude.{◌≡◌, ◌≢◌, ℕ, List, map, min, All}
use Rattle.std.specs.List.Sorted.{IsStrictlySortedBy}
use Rattle.fx_item.specs.Item.{PlainItem, GoneValue, IsNameItem, key_of, value_of}
use Rattle.fx_item.specs.Order.{key_cmp}
use Rattle.fx_item.specs.declared.item.Key.{Key}
use Rattle.fx_item.specs.declared.item.Value.{Value}

-- What stands, in the order of the keys, and the first numbers that no item has used.
pub record PlainTable : Type 0 where
  pub items : List PlainItem
  pub next_id : ℕ
  pub next_store : ℕ

-- entries in memory as items
abbrev pub items_in : List (Key × Value) → List PlainItem
items_in entries = map (λ e. record { key = key_of e.0; value = value_of e.1 }) entries

-- What a table holds: items, each key below those after it, and no tombstone.
pub record AreKept (items : List PlainItem) : Type 0 where
  pub ascending : IsStrictlySortedBy key_cmp (map (λ x. x.key) items)
  pub each : All IsNameItem items
  pub alive : All (λ x. x.value ≢ GoneValue) items

-- A number rises as f says, and stands still at its type's end: where the old one is the lesser of
-- some n and the end, the new one is the lesser of f n and the end.
abbrev pub MovesOn : ℕ → ℕ → ℕ → (ℕ → ℕ) → Type 0
MovesOn end old new f = (n : ℕ) → old ≡ min n end → new ≡ min (f n) end
