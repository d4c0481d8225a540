-- Loose blocks and the images left, by the places of the calls.
use Rattle.std.specs.Prelude.{◌≡◌, ℕ, ◌+◌, ◌≤◌, ◌<◌, ◌⊎◌, ◌↔◌, true, false, List, [], length, map, slice_index_or}
use Rattle.std.specs.List.{AllPairs, Contains}
use Rattle.fx_disk.specs.Record.{Call, Write, Flush, DiskRecord, IsBlock, call_at}

abbrev pub IsGoodFlush : Call → Type 0
IsGoodFlush (Write at bytes ok) = ⊥
IsGoodFlush (Flush ok) = ok ≡ true

abbrev pub IsWriteOf : ℕ → Call → Type 0
IsWriteOf b (Write at bytes ok) = at ≡ b
IsWriteOf b (Flush ok) = ⊥

abbrev pub HasFailed : Call → Type 0
HasFailed (Write at bytes ok) = ok ≡ false
HasFailed (Flush ok) = ok ≡ false

abbrev pub payload : Call → List ℕ
payload (Write at bytes ok) = bytes
payload (Flush ok) = []

-- Of the first `m` calls, `f` are those up to the last successful flush. The entry image counts as
-- flushed: where no flush was successful, `f` is 0.
pub record IsLastFlush (calls : List Call) (m f : ℕ) : Type 0 where
  pub within : f ≤ m
  pub flush : (k : ℕ) → f ≡ k + 1 → IsGoodFlush (call_at calls k)
  pub none_later : (k : ℕ) → f ≤ k → k < m → IsGoodFlush (call_at calls k) → ⊥

-- The last write of the block among the first `n` calls stands at the place `k`.
pub record IsLastWrite (calls : List Call) (b n k : ℕ) : Type 0 where
  pub below : k < n
  pub writes : IsWriteOf b (call_at calls k)
  pub none_later : (j : ℕ) → k < j → j < n → IsWriteOf b (call_at calls j) → ⊥

-- A write of the block stands from the place `f` on, among the first `n` calls.
abbrev pub IsWrittenFrom : List Call → ℕ → ℕ → ℕ → Type 0
IsWrittenFrom calls b f n = (k : ℕ) × (f ≤ k) × (k < n) × IsWriteOf b (call_at calls k)

-- The block's last write among the first `n` calls failed.
abbrev pub LastFailed : List Call → ℕ → ℕ → Type 0
LastFailed calls b n = (k : ℕ) × IsLastWrite calls b n k × HasFailed (call_at calls k)

-- A write of the block stands after the last successful flush of the first `m` calls, among the
-- first `n`, or its last write before that flush failed.
pub record IsLoose (calls : List Call) (b m n : ℕ) : Type 0 where
  pub flushes : ℕ
  pub last : IsLastFlush calls m flushes
  pub cause : IsWrittenFrom calls b flushes n ⊎ LastFailed calls b flushes

-- Loose at moment `m`: writes count up to call `m + 1`, flushes up to call `m`.
abbrev pub IsLooseAt : List Call → ℕ → ℕ → Type 0
IsLooseAt calls b m = IsLoose calls b m (m + 1)

-- The bytes of the block's last write among the first `n` calls, or those at entry where there was
-- none.
abbrev pub IsLastBytes : DiskRecord → ℕ → ℕ → List ℕ → Type 0
IsLastBytes r b n bytes =
    ((k : ℕ) × IsLastWrite r.calls b n k × (bytes ≡ payload (call_at r.calls k)))
    ⊎ (((k : ℕ) → k < n → IsWriteOf b (call_at r.calls k) → ⊥) ×
    (bytes ≡ slice_index_or r.entry b []))

-- The bytes of every write of the block among the first `n` calls, in the order of the calls.
pub record AreWrites (calls : List Call) (b n : ℕ) (written : List (List ℕ)) : Type 0 where
  pub places : List ℕ
  pub in_order : AllPairs (λ j k. j < k) places
  pub exact : (k : ℕ) → Contains places k ↔ ((k < n) × IsWriteOf b (call_at calls k))
  pub bytes : written ≡ map (λ k. payload (call_at calls k)) places

-- An image that a stop at moment `m` may leave: in each block that is not loose the bytes of its
-- last write, and any bytes in a loose one.
pub record IsLeft (r : DiskRecord) (m : ℕ) (image : List (List ℕ)) : Type 0 where
  pub size : length image ≡ length r.entry
  pub blocks : (b : ℕ) → b < length r.entry → IsBlock (slice_index_or image b [])
  pub kept : (b : ℕ) → b < length r.entry → (IsLooseAt r.calls b m → ⊥) →
      IsLastBytes r b (m + 1) (slice_index_or image b [])
