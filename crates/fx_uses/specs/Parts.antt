-- What a number has of the blocks.
use Rattle.std.specs.Prelude.{◌≡◌, ℕ, Option, Some, None, ◌==◌, if◌then◌else◌, List}
use Rattle.fx_disk.specs.Record.{DiskRecord}
use Rattle.fx_uses.specs.Uses.{Use, Drawn, Staged, BlockUses, bytes_now}

-- Of a block that is not the number's, None; of one that it has drawn, what a good staging put there, if
-- one did.
abbrev pub part_in : ℕ → Use → List ℕ → Option (Option (List ℕ))
part_in who (Drawn w) bytes = if w == who then Some None else None
part_in who (Staged w) bytes = if w == who then Some (Some bytes) else None
part_in who _ bytes = None

abbrev pub part_of : ℕ → BlockUses → DiskRecord → ℕ → Option (Option (List ℕ))
part_of who s r b = part_in who (s.uses b) (bytes_now r b)

-- All numbers but this one have what they had.
abbrev pub KeepsOtherParts : ℕ → BlockUses → DiskRecord → BlockUses → DiskRecord → Type 0
KeepsOtherParts who s r t q = (w b : ℕ) → (w ≡ who → ⊥) → part_of w t q b ≡ part_of w s r b

-- All numbers have what they had.
abbrev pub KeepsParts : BlockUses → DiskRecord → BlockUses → DiskRecord → Type 0
KeepsParts s r t q = (w b : ℕ) → part_of w t q b ≡ part_of w s r b
