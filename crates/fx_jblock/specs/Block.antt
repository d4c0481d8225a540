-- A block of the journal: what stands in it, and what is said of a block that is read.
use Rattle.std.specs.Prelude.{◌≡◌, ◌≢◌, ◌<◌, ◌≤◌, ℕ, ◌-◌, ◌^◌, List, ◌++◌, length, take, drop, replicate}
use Rattle.byteorder.specs.Endian.{little_bytes, little_number}
use Rattle.fx_sum.specs.Checksum.{fletch}
use Rattle.fx_jblock.specs.declared.TheConstants.{RECORD_BYTES, SUM_AT}
use Rattle.fx_jblock.specs.declared.Fit.{Fit}
use Rattle.fx_jblock.specs.declared.Fit.TheVariants.{Torn, Stale, Fits}

-- sequence, epoch, the number of record bytes, six zeros, the record bytes, and zeros
unfoldable pub body : ℕ → ℕ → List ℕ → List ℕ
body sequence epoch text =
    little_bytes 8 sequence
    ++ (little_bytes 8 epoch
    ++ (little_bytes 2 (length text)
    ++ (replicate 6 0
    ++ (text ++ replicate (RECORD_BYTES - length text) 0))))

-- the body, and its sum from the chain before
abbrev pub journal_block : ℕ → ℕ → ℕ → List ℕ → List ℕ
journal_block sequence epoch chain text =
    body sequence epoch text ++ little_bytes 8 (fletch chain (body sequence epoch text))

-- The bytes before the sum are of the form, with this sequence, epoch and record bytes.
pub record IsBody (bytes : List ℕ) (sequence epoch : ℕ) (text : List ℕ) : Type 0 where
  pub filled : 1 ≤ length text
  pub room : length text ≤ RECORD_BYTES
  pub begun : 1 ≤ epoch
  pub fits : epoch < 2 ^ 64
  pub bytes_are : bytes ≡ body sequence epoch text

-- The block is of the form: it holds these record bytes under this sequence and epoch, in this
-- chain.
pub record Holds (block : List ℕ) (sequence epoch chain : ℕ) (text : List ℕ) : Type 0 where
  pub filled : 1 ≤ length text
  pub room : length text ≤ RECORD_BYTES
  pub begun : 1 ≤ epoch
  pub bytes : block ≡ journal_block sequence epoch chain text

-- the sum that a block states, and the sum that it has
abbrev pub stated_sum : List ℕ → ℕ
stated_sum block = little_number 8 (drop SUM_AT block)

abbrev pub sum_from : ℕ → List ℕ → ℕ
sum_from chain block = fletch chain (take SUM_AT block)

-- The block stands in the stream after the chain: it is of the form, and its epoch lies in the
-- range.
pub record Continues (block : List ℕ) (sequence floor generation chain epoch : ℕ) (text : List ℕ)
    : Type 0 where
  pub holds : Holds block sequence epoch chain text
  pub least : floor ≤ epoch
  pub most : epoch ≤ generation

-- What is said of a block. Torn: its sum is wrong. Stale: its sum is right, and it does not stand
-- in the stream. Fits: it does, with this epoch, this many record bytes, and this chain after it.
abbrev pub Judged : List ℕ → ℕ → ℕ → ℕ → ℕ → Fit → Type 0
Judged block sequence floor generation chain Torn = stated_sum block ≢ sum_from chain block
Judged block sequence floor generation chain Stale =
    (stated_sum block ≡ sum_from chain block)
    × ((epoch : ℕ) (text : List ℕ) → Continues block sequence floor generation chain epoch text → ⊥)
Judged block sequence floor generation chain (Fits after epoch used) =
    (text : List ℕ) × (length text ≡ used) × (after ≡ sum_from chain block)
    × Continues block sequence floor generation chain epoch text
