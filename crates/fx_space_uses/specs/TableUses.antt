-- What the allocator's table calls the uses of blocks.
use Rattle.std.specs.Prelude.{◌≡◌, ◌⊎◌, ◌↔◌, ℕ, ◌<◌, true, Some, List, [], ◌∷◌, length}
use Rattle.fx_alloc.specs.declared.uses.Use as table
use Rattle.fx_alloc.specs.declared.uses.Use.TheVariants as called
use Rattle.fx_alloc.specs.declared.uses.Waiting.{Waiting}
use Rattle.fx_alloc.specs.Uses.{use_at}
use Rattle.fx_alloc.specs.Holders.{held_seat}
use Rattle.fx_alloc.specs.Pins.{is_among}
use Rattle.fx_alloc.specs.Space.{Space}
use Rattle.fx_uses.specs.Uses.{Use, Free, Drawn, Staged, Live, Freed, System, Layer, Aside, Laid, Coming, Pinned}

-- The block waits until the number is settled.
abbrev pub WaitsAs : List Waiting → (b n : ℕ) → Type 0
WaitsAs [] b n = ⊥
WaitsAs (w ∷ ws) b n = ((w.block ≡ b) × (w.number ≡ n)) ⊎ WaitsAs ws b n

-- It is drawn from the seat that the number has.
abbrev pub IsDrawnFrom : Space → (who : ℕ) → table.Use → Type 0
IsDrawnFrom s who v = (seat : ℕ) × (held_seat s.holders who ≡ Some seat) × (v ≡ called.Drawn seat)

-- The table calls a use of a block so. What a number has drawn it calls drawn, whether it was staged or
-- not; what a checkpoint has taken it calls laid, whether it was written, flushed, or neither.
abbrev pub IsCalled : Space → (b : ℕ) → Use → table.Use → Type 0
IsCalled s b Free v = v ≡ called.Free
IsCalled s b (Drawn who) v = IsDrawnFrom s who v
IsCalled s b (Staged who) v = IsDrawnFrom s who v
IsCalled s b (Live since) v = v ≡ called.Live
IsCalled s b (Freed since until) v = (v ≡ called.Freed) × WaitsAs s.waiting b until
IsCalled s b System v = v ≡ called.System
IsCalled s b Layer v = v ≡ called.Layer
IsCalled s b Aside v = v ≡ called.Laid
IsCalled s b Laid v = v ≡ called.Laid
IsCalled s b Coming v = v ≡ called.Laid
IsCalled s b Pinned v = v ≡ called.Pinned

-- The allocator's table is that of these uses.
pub record IsTableOf (uses : ℕ → Use) (s : Space) : Type 0 where
  pub each : (b : ℕ) → b < length s.uses → IsCalled s b (uses b) (use_at s.uses b)

-- Of the blocks of a disk, these two lists have just those that are live and those of layers.
pub record AreListed (blocks : ℕ) (uses : ℕ → Use) (live layers : List ℕ) : Type 0 where
  pub live_are : (b : ℕ) → b < blocks →
      (is_among b live ≡ true) ↔ ((since : ℕ) × (uses b ≡ Live since))
  pub layers_are : (b : ℕ) → b < blocks → (is_among b layers ≡ true) ↔ (uses b ≡ Layer)
