-- Free runs that are found by their order: for each order a list of starts, and for each start its
-- place in that list.
use Rattle.std.specs.Prelude.{◌≡◌, ℕ, ◌^◌, ◌<◌, ◌≤◌, List, [], length, Option, Vec, map, All, vec_capacity, slice_index_or, slice_index, count_by}
use Rattle.std.specs.declared.alloc.Global.{Global}
use Rattle.fx_pool.specs.declared.pool.TheConstants.{MAX_ORDER}
use Rattle.fx_pool.specs.declared.free.TheConstants.{ORDERS}
use Rattle.fx_pool.specs.Region.{RunBegins, is_order}

-- the starts in the list of an order
abbrev pub starts : List (Vec ℕ Global) → ℕ → List ℕ
starts lists k = slice_index_or (map (λ v. v.items) lists) k []

-- the lists hold exactly the free runs, each once
pub record IsIndexed (orders : List (Option ℕ)) (places : List ℕ)
    (listed : ℕ → List ℕ) : Type 0 where
  pub free : (k i : ℕ) → i < length (listed k) → RunBegins orders (slice_index (listed k) i) k
  pub place : (k i : ℕ) → i < length (listed k) → slice_index places (slice_index (listed k) i) ≡ i
  pub within : (s k : ℕ) → RunBegins orders s k → slice_index places s < length (listed k)
  pub found : (s k : ℕ) → RunBegins orders s k → slice_index (listed k) (slice_index places s) ≡ s
  pub counted : (k : ℕ) → length (listed k) ≡ count_by (is_order k) orders

pub record IsKept (orders : List (Option ℕ)) (places : List ℕ)
    (lists : List (Vec ℕ Global)) : Type 0 where
  pub orders_len : length orders ≤ 2 ^ MAX_ORDER
  pub places_len : length places ≡ length orders
  pub lists_len : length lists ≡ ORDERS
  pub roomy : All (λ v. length orders ≤ vec_capacity v) lists
  pub indexed : IsIndexed orders places (starts lists)
