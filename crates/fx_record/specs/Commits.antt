-- Commits that are appended to a stream: their transactions are numbered one after another, and
-- their records are put in blocks of one epoch. A stop leaves the first bytes of the records.
use Rattle.std.specs.Prelude.{◌≡◌, ℕ, ◌+◌, ◌^◌, ◌<◌, ◌≤◌, List, [], ◌∷◌, ◌++◌, length, map, take, All}
use Rattle.std.specs.List.{flat_map}
use Rattle.fx_item.specs.Item.{PlainItem}
use Rattle.fx_record.specs.Record.{PlainRecord, TransactionRecord, AreItems, items_bytes, record_bytes}
use Rattle.fx_record.specs.Reading.{IsCut}

-- A commit is the items of one transaction, which a record can hold.
pub record IsCommit (items : List PlainItem) : Type 0 where
  pub are_items : AreItems items
  pub short : 13 + length (items_bytes items) < 2 ^ 32

-- ---- numbers and records

-- commits numbered one after another, the first with the number after `last`
abbrev pub numbered : (last : ℕ) → List (List PlainItem) → List (ℕ × List PlainItem)
numbered last [] = []
numbered last (items ∷ commits) = (last + 1, items) ∷ numbered (last + 1) commits

-- their records
abbrev pub records_of : (last : ℕ) → List (List PlainItem) → List PlainRecord
records_of last [] = []
records_of last (items ∷ commits) =
    TransactionRecord (last + 1) items ∷ records_of (last + 1) commits

-- records one after the other
abbrev pub records_bytes : List PlainRecord → List ℕ
records_bytes records = flat_map record_bytes records

abbrev pub commits_bytes : (last : ℕ) → List (List PlainItem) → List ℕ
commits_bytes last commits = records_bytes (records_of last commits)

-- ---- blocks

-- blocks of one epoch that hold these texts
abbrev pub blocks_of : (epoch : ℕ) → List (List ℕ) → List (ℕ × List ℕ)
blocks_of epoch texts = map (λ text. (epoch, text)) texts

abbrev pub AreBefore : (epoch : ℕ) → List (ℕ × List ℕ) → Type 0
AreBefore epoch blocks = All (λ block. block.0 < epoch) blocks

abbrev pub AreOf : (epoch : ℕ) → List (ℕ × List ℕ) → Type 0
AreOf epoch blocks = All (λ block. block.0 ≡ epoch) blocks

-- ---- what a cut keeps

-- The bytes are the first `count` of the records, and a cut record or nothing. No more of the
-- records are whole.
pub record CutsRecords (records : List PlainRecord) (bytes : List ℕ) (count : ℕ) : Type 0 where
  pub tail : List ℕ
  pub most : count ≤ length records
  pub parts : bytes ≡ records_bytes (take count records) ++ tail
  pub is_cut : IsCut tail
  pub whole : (n : ℕ) → n ≤ length records
      → length (records_bytes (take n records)) ≤ length bytes → n ≤ count

-- The same of commits: the bytes are the records of the first `count`, and a cut record or nothing.
pub record CutsCommits (last : ℕ) (commits : List (List PlainItem)) (bytes : List ℕ)
    (count : ℕ) : Type 0 where
  pub tail : List ℕ
  pub most : count ≤ length commits
  pub parts : bytes ≡ commits_bytes last (take count commits) ++ tail
  pub is_cut : IsCut tail
  pub whole : (n : ℕ) → n ≤ length commits
      → length (commits_bytes last (take n commits)) ≤ length bytes → n ≤ count
