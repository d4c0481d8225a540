-- The uses of blocks after a mount.
use Rattle.std.specs.Prelude.{◌≡◌, ◌⊎◌, ℕ, ◌+◌, ◌<◌, ◌≤◌, false, if◌then◌else◌, nat_lt, Option, Some, None, List, [], ◌∷◌, length}
use Rattle.fx_disk.specs.Record.{DiskRecord, cell_now}
use Rattle.fx_uses.specs.Live.{Txn, IsPut, put_in, live_after}
use Rattle.fx_uses.specs.Uses.{Use, Free, Live, System, Layer, BlockUses, image_block}

-- the number of the last transaction that wrote the block, or that before the first
abbrev pub writer_over : ℕ → Option ℕ → ℕ → ℕ
writer_over n None old = old
writer_over n (Some x) old = n

abbrev pub last_writer : ℕ → List Txn → ℕ → ℕ
last_writer b [] old = old
last_writer b (t ∷ ts) old = last_writer b ts (writer_over t.number (put_in b t.puts) old)

-- a live block, or one that is not: then `other` says what it is used for
abbrev pub use_since : Option ℕ → ℕ → Use → Use
use_since None since other = other
use_since (Some x) since other = Live since

abbrev pub sum_or_0 : Option ℕ → ℕ
sum_or_0 None = 0
sum_or_0 (Some x) = x

abbrev pub opened_use : (ℕ → Option ℕ) → ℕ → List Txn → (ℕ → Use) → ℕ → Use
opened_use first base txns others b =
    use_since (live_after first txns (base + length txns) b) (last_writer b txns base) (others b)

-- The state after a mount that keeps all of these transactions. `others` says what the blocks that are
-- not live are used for.
abbrev pub opened_uses : ℕ → ℕ → (ℕ → Option ℕ) → ℕ → List Txn → (ℕ → Use) → BlockUses
opened_uses first_data right first base txns others = record {
  first_data = first_data;
  right = right;
  first = first;
  base = base;
  txns = txns;
  settled = base + length txns;
  firm = base + length txns;
  uses = λ b. opened_use first base txns others b;
  sums = λ b. sum_or_0 (live_after first txns (base + length txns) b);
}

-- What the blocks that are not live are used for: superblocks and ring for the system, and others for
-- nothing or for a layer. No number is in use, no checkpoint is open and no pin is made, so none of them is
-- drawn, staged, freed, set aside, laid down or kept for pins.
pub record AreOthers (first_data : ℕ) (others : ℕ → Use) : Type 0 where
  pub system : (b : ℕ) → b < first_data → others b ≡ System
  pub unused : (b : ℕ) → first_data ≤ b → (others b ≡ Free) ⊎ (others b ≡ Layer)

-- Nothing is loose, and the disk holds the image.
abbrev pub HoldsImage : DiskRecord → List (List ℕ) → Type 0
HoldsImage r image = (b : ℕ) → b < length r.entry → ((cell_now r b).failed ≡ false) ×
    ((cell_now r b).loose ≡ false) × ((cell_now r b).bytes ≡ image_block image b)

-- The state where only names are kept: no block is in use but those of the system.
abbrev pub without_blocks : ℕ → ℕ → List Txn → ℕ → ℕ → BlockUses
without_blocks first_data base txns settled firm = record {
  first_data = first_data;
  right = base;
  first = λ b. None;
  base = base;
  txns = txns;
  settled = settled;
  firm = firm;
  uses = λ b. if nat_lt b first_data then System else Free;
  sums = λ b. 0;
}

-- No transaction of the list writes a block.
abbrev pub WritesNoBlock : List Txn → Type 0
WritesNoBlock txns = (n b : ℕ) → IsPut txns n b → ⊥
