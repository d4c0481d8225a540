-- What a mounted core keeps inside, by the shared state and the tail.
use Rattle.std.specs.Prelude.{◌≡◌, ◌⊎◌, ℕ, ◌+◌, ◌-◌, ◌<◌, ◌≤◌, Option, None, Some, get_or, length, take}
use Rattle.std.specs.FinMap as finite
use Rattle.std.specs.Ordering.{nat_cmp}
use Rattle.fx_disk.specs.Seen.{DiskSeen}
use Rattle.fx_journal.specs.Ring.{texts, want}
use Rattle.fx_record.specs.Commits.{commits_bytes}
use Rattle.fx_image.specs.Standing.{StandsFor, Transactions, items_after}
use Rattle.fx_image.specs.Journal.{AreWritten, Journal, max_given, opening_id, opening_store}
use Rattle.fx_image.specs.Mounted.{IsMounted}
use Rattle.fx_parts.specs.Live.{MakesNames}
use Rattle.fx_parts.specs.Parts.{Part, Reservation, SharedState}
use Rattle.fx_parts.specs.Sound.{IsSharedSound}
use Rattle.fx_core.specs.Logged.{IsLogged}
use Rattle.fx_core.specs.Tail.{TailState, reach}

-- how many blocks of the ring a reservation wants, and how many the part of a number does
abbrev pub blocks_wanted : Option Reservation → ℕ
blocks_wanted None = 0
blocks_wanted (Some r) = want r.bytes

abbrev pub wanted_by : finite.FinMap nat_cmp Part → ℕ → ℕ
wanted_by parts who =
    elim (finite.get parts who) [ Some part ↦ blocks_wanted part.reserved | None ↦ 0 ]

-- the blocks since the mount, of so many in the ring
abbrev pub since_mount : Journal → ℕ → ℕ
since_mount j count = count - length j.log.head.read

-- The record of the i-th commit since the mount, counted from 0, lies in the first `count` blocks.
pub record LiesIn (j : Journal) (i count : ℕ) : Type 0 where
  pub there : i + 1 ≤ length j.commits.history
  pub whole : length (commits_bytes j.opening.base (take (i + 1) j.commits.records))
      ≤ length (texts (take (since_mount j count) j.log.tail.blocks))

-- Which commits lie in how many blocks: what is noted of a count that is closed is so; of one that
-- no byte reaches nothing is noted; and the last commit is noted at a count that is not written yet,
-- or lies in what is written.
pub record HoldsReached (j : Journal) (t : TailState) : Type 0 where
  pub count : ℕ
  pub done_is : t.done ≡ j.opening.base + count
  pub whole : AreWritten j count
  pub known : (k i : ℕ) → get_or t.reached k 0 ≡ j.opening.base + i + 1
      → i + 1 ≤ length j.commits.history
  pub lies : (k i : ℕ) → get_or t.reached k 0 ≡ j.opening.base + i + 1 → k ≤ t.ring.closed
      → LiesIn j i k
  pub ahead : (k : ℕ) → reach t.ring < k → get_or t.reached k 0 ≡ 0
  pub last : (t.done ≡ j.opening.base + length j.commits.history)
      ⊎ ((k : ℕ) × (t.written < k) × (k ≤ reach t.ring)
      × (get_or t.reached k 0 ≡ j.opening.base + length j.commits.history))

-- below which ids and stores are given out
pub record GivenLimits : Type 0 where
  pub ids : ℕ
  pub stores : ℕ

-- The state of a disk that was mounted after `from` calls, with these transactions.
pub record IsCore (seen : DiskSeen) (from : ℕ) (txns : Transactions) (end : GivenLimits)
    (s : SharedState) (t : TailState) : Type 0 where
  pub journal : Journal
  pub size_is : journal.log.size ≡ seen.size
  pub from_is : journal.log.from ≡ from
  pub txns_is : txns ≡ journal.opening.txns
  pub opens : StandsFor (items_after journal.opening.txns) journal.opening.tree
  pub mounted : IsMounted journal seen t.ring t.pool
  pub shared : IsSharedSound MakesNames s
  pub logged : IsLogged seen.calls s journal
  pub end_is : end ≡ record {
    ids = opening_id journal + max_given;
    stores = opening_store journal + max_given;
  }
  pub ids : s.ids ≤ end.ids
  pub stores : s.stores ≤ end.stores
  pub wants : (who : ℕ) → get_or t.wants who 0 ≡ wanted_by s.parts who
  pub reached : HoldsReached journal t
  pub faults : s.faults ≡ seen.faults
