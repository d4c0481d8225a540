-- The transactions of a mounted disk beside its log, and the base counts of its superblocks.
use Rattle.std.specs.Prelude.{◌≡◌, ◌⊎◌, ℕ, ◌+◌, ◌^◌, ◌≤◌, ◌<◌, Some, None, List, [], ◌∷◌, ◌++◌, length, take}
use Rattle.fx_disk.specs.Record.{DiskRecord, LeftNow}
use Rattle.fx_item.specs.Item.{PlainItem}
use Rattle.fx_contents.specs.Points.{Points}
use Rattle.fx_record.specs.Record.{DiscardRecord, record_bytes}
use Rattle.fx_record.specs.Commits.{commits_bytes, numbered}
use Rattle.fx_record.specs.Txns.{IsTxns}
use Rattle.fx_journal.specs.Ring.{texts}
use Rattle.fx_log.specs.Chosen.{ChoosesSuper}
use Rattle.fx_supers.specs.Supers.{SuperCut, Supers}
use Rattle.fx_supers.specs.SessionLog.{SessionLog}
use Rattle.fx_logcuts.specs.Cuts.{AreAppended, IsCutSuper, pieces_in}
use Rattle.fx_cuts.specs.Joined.{JoinedState, NumberedItems, points_at}
use Rattle.fx_cuts.specs.Images.{ImageMeanings, IsShownCut, IsSoundFrom}
use Rattle.fx_shown.specs.Meanings.{LayerReading}

-- The transactions that a mount found in the stream, those of them that it kept, the record bytes that it
-- appended, and the items of each commit since.
pub record LogTxns : Type 0 where
  pub found : NumberedItems
  pub kept : NumberedItems
  pub opened : List ℕ
  pub commits : List (List PlainItem)

-- the number of the last transaction that the mount kept
abbrev pub last_kept : (base : ℕ) → LogTxns → ℕ
last_kept base t = base + length t.kept

-- the number of the last commit
abbrev pub newest_commit : (base : ℕ) → LogTxns → ℕ
newest_commit base t = last_kept base t + length t.commits

-- The first of the transactions are kept, and a record drops those beyond.
pub record DropsAfter (base : ℕ) (t : LogTxns) : Type 0 where
  pub beyond : NumberedItems
  pub found_are : t.found ≡ t.kept ++ beyond
  pub opened_is : t.opened ≡ record_bytes (DiscardRecord (last_kept base t))

-- Nothing was appended by the mount, and all is kept; or a record that drops what is not.
abbrev pub IsOpenedBy : (base : ℕ) → LogTxns → Type 0
IsOpenedBy base t = ((t.opened ≡ []) × (t.kept ≡ t.found)) ⊎ DropsAfter base t

-- The log has them: what the mount found stands in the stream that it read, and what was appended since
-- in the closed blocks and in the unfinished one.
pub record HasLogTxns (log : SessionLog) (t : LogTxns) : Type 0 where
  pub found : IsTxns log.head.super.base (pieces_in log.head.read) t.found
  pub opens : IsOpenedBy log.head.super.base t
  pub appended : AreAppended t.opened (last_kept log.head.super.base t) log.tail.blocks
      log.tail.text t.commits
  pub fits : last_kept log.head.super.base t + length t.commits < 2 ^ 64

-- The state's transactions are those that the mount kept and the commits since. The records of the mount
-- and of the first `marks` commits lie in settled blocks, and no later commit is settled.
pub record IsLogState (s : JoinedState) (log : SessionLog) (t : LogTxns) (marks : ℕ) : Type 0 where
  pub base : s.blocks.base ≡ log.head.super.base
  pub txns : s.txns ≡ t.kept ++ numbered (last_kept log.head.super.base t) t.commits
  pub few : marks ≤ length t.commits
  pub settled : s.blocks.settled ≤ last_kept log.head.super.base t + marks
  pub stand : length t.opened
      + length (commits_bytes (last_kept log.head.super.base t) (take marks t.commits))
      ≤ length (texts (take log.tail.settled log.tail.blocks))

-- ---- superblocks

-- The superblock is the current one, or the one that is coming.
abbrev pub IsSuperIn : Supers → SuperCut → Type 0
IsSuperIn supers cut = (cut ≡ supers.current) ⊎ (supers.coming ≡ Some cut)

-- Its stream begins where that of the mount's superblock does, at the same base.
pub record HasMountBase (log : SessionLog) (cut : SuperCut) : Type 0 where
  pub origin : cut.origin ≡ None
  pub base : cut.super.base ≡ log.head.super.base

-- It is a cut of the blocks and the commits, and what stands at its base is flushed.
pub record HasLaterBase (s : JoinedState) (log : SessionLog) (t : LogTxns) (cut : SuperCut) : Type 0
  where
    pub cut_is : IsCutSuper t.opened (last_kept log.head.super.base t) log.tail.blocks t.commits cut
    pub flushed : cut.super.base ≤ s.blocks.firm

-- Each of the superblocks is one of these.
abbrev pub HaveBases : JoinedState → SessionLog → LogTxns → Type 0
HaveBases s log t = (cut : SuperCut) → IsSuperIn log.supers cut →
    HasMountBase log cut ⊎ HasLaterBase s log t cut

-- Each of them has the mount's base.
abbrev pub HaveMountBase : SessionLog → Type 0
HaveMountBase log = (cut : SuperCut) → IsSuperIn log.supers cut → HasMountBase log cut

-- None of them has a lower base than the last one that was settled.
abbrev pub HaveNoLowerBase : JoinedState → SessionLog → Type 0
HaveNoLowerBase s log = (cut : SuperCut) → IsSuperIn log.supers cut → s.based ≤ cut.super.base

-- The state and its transactions beside the log.
pub record IsBesideLog (s : JoinedState) (log : SessionLog) (t : LogTxns) (marks : ℕ) : Type 0 where
  pub has : HasLogTxns log t
  pub state : IsLogState s log t marks
  pub bases : HaveBases s log t
  pub above : HaveNoLowerBase s log

-- The other state has the same base counts and transactions, and what was firm stays so.
pub record GoesOnFrom (s later : JoinedState) : Type 0 where
  pub base : later.blocks.base ≡ s.blocks.base
  pub txns : later.txns ≡ s.txns
  pub based : later.based ≡ s.based
  pub firm : s.blocks.firm ≤ later.blocks.firm

-- ---- what layers and allocations owe

-- In each image left now the layers of the superblock that is chosen say what stands at its base count.
abbrev pub LayersSayNow : LayerReading → JoinedState → SessionLog → DiskRecord → Type 0
LayersSayNow l s log r = (cut : SuperCut) → IsSuperIn log.supers cut → (image : List (List ℕ)) →
    LeftNow r image → ChoosesSuper cut.super image →
    l.LayersSay image cut.super (points_at s cut.super.base)

-- Each image left now that shows a cut is sound from the settled number on.
abbrev pub AreSoundNow : ImageMeanings → JoinedState → DiskRecord → Type 0
AreSoundNow w s r = (image : List (List ℕ)) → LeftNow r image → (base : ℕ) (points : Points)
    (txns : NumberedItems) → w.Shows image base points txns → IsShownCut s base points txns →
    IsSoundFrom w s.blocks.settled image base points txns

-- ---- while a mount drops transactions

-- Nothing is committed yet. What was found are the state's transactions and those beyond; the record that
-- drops these is appended, or it is not.
pub record IsDropping (s : JoinedState) (log : SessionLog) (t : LogTxns) (beyond : NumberedItems)
    : Type 0 where
  pub base : s.blocks.base ≡ log.head.super.base
  pub found : t.found ≡ s.txns ++ beyond
  pub kept : (t.kept ≡ s.txns) ⊎ (t.kept ≡ t.found)
  pub none : t.commits ≡ []

-- Each image left now that shows the state's transactions, or those beyond them too, is sound from the
-- settled number on.
abbrev pub AreSoundFound : ImageMeanings → JoinedState → NumberedItems → DiskRecord → Type 0
AreSoundFound w s beyond r = (image : List (List ℕ)) → LeftNow r image → (points : Points)
    (txns : NumberedItems) → w.Shows image s.blocks.base points txns →
    (txns ≡ s.txns) ⊎ (txns ≡ s.txns ++ beyond) →
    IsSoundFrom w s.blocks.settled image s.blocks.base points txns

-- ---- what happens to them

-- A mount found these transactions, and nothing is appended yet.
abbrev pub found_txns : NumberedItems → LogTxns
found_txns found = record { found = found; kept = found; opened = []; commits = [] }

-- The record that drops those beyond is appended.
abbrev pub dropped_txns : (base : ℕ) → (kept beyond : NumberedItems) → LogTxns
dropped_txns base kept beyond = record {
  found = kept ++ beyond;
  kept = kept;
  opened = record_bytes (DiscardRecord (base + length kept));
  commits = [];
}

-- One more commit.
abbrev pub committed_txns : LogTxns → List PlainItem → LogTxns
committed_txns t items = record t { commits = t.commits ++ items ∷ [] }
