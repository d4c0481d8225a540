-- A text that is written into a file, block by block.
use Rattle.std.specs.Prelude.{◌≡◌, ◌≢◌, ◌⊎◌, ℕ, ◌+◌, ◌-◌, ◌*◌, ◌<◌, Bool, true, false, ◌&&◌, nat_lt, max, List, length, take, drop, get_or, Some, if◌then◌else◌}
use Rattle.fx_item.specs.Item.{ObjectKey, FileValue}
use Rattle.fx_item.specs.Overlay.{Point, AtFileBlock}
use Rattle.fx_plain.specs.Node.{overwritten}
use Rattle.fx_base.specs.declared.block.TheConstants.{BLOCK_BYTES}
use Rattle.fx_namespace.specs.Nodes.{NodeId}
use Rattle.fx_contents.specs.Points.{Points, value_under, named, device_block}
use Rattle.fx_contents.specs.Files.{byte_at}
use Rattle.fx_contents.specs.Rewrites.{IsBeside}

-- byte i with the text from `at` on, where `old` gives the byte without it
abbrev pub written_byte : ℕ → List ℕ → (ℕ → ℕ) → ℕ → ℕ
written_byte at text old i =
    if nat_lt i at then old i
    else if nat_lt i (at + length text) then get_or text (i - at) 0
    else old i

-- block n holds a byte of the text
abbrev pub is_covered : ℕ → List ℕ → ℕ → Bool
is_covered at text n =
    nat_lt at ((n + 1) * BLOCK_BYTES) && nat_lt (n * BLOCK_BYTES) (at + length text)

-- where in block n the text begins
abbrev pub from_in : ℕ → ℕ → ℕ
from_in at n = at - n * BLOCK_BYTES

-- the part of the text that block n gets
abbrev pub piece_in : ℕ → List ℕ → ℕ → List ℕ
piece_in at text n = take (BLOCK_BYTES - from_in at n) (drop (n * BLOCK_BYTES - at) text)

-- what a covered block n holds after the write, where it held `block`
unfoldable pub patched : ℕ → List ℕ → ℕ → List ℕ → List ℕ
patched at text n block = overwritten (from_in at n) (piece_in at text n) block

-- The block's entry does not change by the write: it is another file's, or the text does not cover
-- it.
abbrev pub IsUncovered : NodeId → ℕ → List ℕ → NodeId → ℕ → Type 0
IsUncovered node at text other k = (other ≢ node) ⊎ (is_covered at text k ≡ false)

-- A text is written: the file's Object tells its length, each covered block has a block of the
-- device with the old bytes and its part of the text, and nothing else changes. The block of the
-- device may be the one that was there, where an earlier step of the same line had put it there.
pub record IsWriting (m n : Points) (f g : ℕ → List ℕ) (node : NodeId) (at : ℕ) (text : List ℕ)
    (len : ℕ) : Type 0 where
  pub before : named m (ObjectKey node.store node.id) ≡ Some (FileValue len)
  pub after : value_under n (ObjectKey node.store node.id)
      ≡ Some (FileValue (max len (at + length text)))
  pub put : (k : ℕ) → is_covered at text k ≡ true
      → (block : ℕ) × (device_block n node k ≡ Some block)
      × ((j : ℕ) → j < BLOCK_BYTES → get_or (g block) j 0
      ≡ written_byte at text (byte_at f (device_block m node)) (k * BLOCK_BYTES + j))
  pub kept : (k : ℕ) → is_covered at text k ≡ false
      → n (AtFileBlock node.store node.id k) ≡ m (AtFileBlock node.store node.id k)
  pub others : (p : Point) → IsBeside node p → n p ≡ m p
  pub same : (other : NodeId) (k block : ℕ) → device_block m other k ≡ Some block
      → IsUncovered node at text other k → g block ≡ f block
