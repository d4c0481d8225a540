-- What is so of the parts of every allocator.
use Rattle.std.specs.Prelude.{◌≡◌, ℕ, ◌+◌, ◌^◌, ◌<◌, ◌≤◌, true, false, List, ◌∷◌, length, map, slice_index_or, count_by, Option}
use Rattle.fx_item.specs.declared.space.TheConstants.{MAX_GIVEN}
use Rattle.fx_alloc.specs.declared.uses.Use.{Use}
use Rattle.fx_alloc.specs.declared.uses.Use.TheVariants.{Drawn, Freed, Layer, Laid}
use Rattle.fx_alloc.specs.declared.uses.Waiting.{Waiting}
use Rattle.fx_alloc.specs.declared.holders.Holder.{Holder}
use Rattle.fx_alloc.specs.declared.holders.TheConstants.{VACANT}
use Rattle.fx_alloc.specs.declared.chain.Chain.{Chain}
use Rattle.fx_alloc.specs.Uses.{is_system, is_free, is_drawn_by, is_live, is_freed, is_layer, is_laid, is_pinned, blocks_from, AreUsed}
use Rattle.fx_alloc.specs.Layers.{FitPins}
use Rattle.fx_alloc.specs.PinCounts.{IsSoundTable}
use Rattle.fx_alloc.specs.Space.{Space, free_count, live_of, laid_of, holder_at, undrawn, held_nodes, held_attributes, left_aside, aside_count, drawn, settled_blocks, left_waiting, AreRising}

-- the kept counts are the sizes of the sets, and each block is counted once
pub record AreCounts (uses : List Use) (ring free live pinned : ℕ)
    (holders : List Holder) (layers laid : ℕ) (waiting : List Waiting) : Type 0 where
  pub of_system : count_by is_system uses ≡ ring + 2
  pub of_free : count_by is_free uses ≡ free
  pub of_live : count_by is_live uses ≡ live
  pub of_freed : count_by is_freed uses ≡ length waiting
  pub of_layers : count_by is_layer uses ≡ layers
  pub of_laid : count_by is_laid uses ≡ laid
  pub of_pinned : count_by is_pinned uses ≡ pinned
  pub of_all :
      ring + 2 + free + live + length waiting + layers + laid + pinned + drawn holders ≡ length uses

abbrev pub waiting_blocks : List Waiting → List ℕ
waiting_blocks waiting = map (λ w. w.block) waiting

-- so many blocks from a head are what a seat drew
pub record IsDrawn (uses : List Use) (links : List ℕ) (head count seat : ℕ) : Type 0 where
  pub chain : AreUsed (Drawn seat) uses (blocks_from links head count)
  pub counted : count_by (is_drawn_by seat) uses ≡ count

pub record AreHolders (holders : List Holder) (heads : List ℕ) : Type 0 where
  pub seats : length holders ≡ 32
  pub heads_len : length heads ≡ 32
  -- a number has one seat
  pub apart : (i j : ℕ) → i < 32 → j < 32 →
      (holder_at holders i).sits ≡ true → (holder_at holders j).sits ≡ true →
      (holder_at holders i).who ≡ (holder_at holders j).who → i ≡ j
  -- a seat that nobody has holds nothing
  pub vacant : (i : ℕ) → (holder_at holders i).sits ≡ false → holder_at holders i ≡ VACANT
  -- the sums are far below the bounds of the numbers
  pub nodes : held_nodes holders < 2 ^ 33
  pub attributes : held_attributes holders < 2 ^ 34

-- The parts of an allocator fit one another.
pub record IsSpace (uses : List Use) (links : List ℕ) (ring given free live pinned : ℕ)
    (holders : List Holder) (heads : List ℕ) (layers laid : Chain)
    (waiting : List Waiting) (aside : Option ℕ) : Type 0 where
  pub small : length uses < 2 ^ 32
  pub linked : length links ≡ length uses
  pub ids : given ≤ MAX_GIVEN
  pub counts : AreCounts uses ring free live pinned holders layers.len laid.len waiting
  pub seats : AreHolders holders heads
  pub of_seats : (seat : ℕ) →
      IsDrawn uses links (slice_index_or heads seat 0) (holder_at holders seat).drawn seat
  pub of_layers : AreUsed Layer uses (blocks_from links layers.head layers.len)
  pub of_laid : AreUsed Laid uses (blocks_from links laid.head laid.len)
  pub of_freed : AreUsed Freed uses (waiting_blocks waiting)
  pub rising : AreRising waiting
  -- no more blocks are laid than were set aside
  pub few_laid : laid.len ≤ aside_count aside
  -- what is still to be drawn and laid is free
  pub fits : undrawn holders + left_aside aside laid.len ≤ free

-- the first of those that wait is one that a number settles, and is taken
pub record TakesSettled (number : ℕ) (old new : List Waiting) (block : ℕ) : Type 0 where
  pub blocks : settled_blocks number old ≡ block ∷ settled_blocks number new
  pub left : left_waiting number old ≡ left_waiting number new
  pub all : waiting_blocks old ≡ block ∷ waiting_blocks new

-- What is so of every allocator, as its callers see it.
pub record IsSoundSpace (s : Space) : Type 0 where
  -- what numbers may still draw, and what is set aside and not yet laid, is free
  pub held : undrawn s.holders + left_aside s.aside (laid_of s) ≤ free_count s
  -- no more blocks are laid than were set aside
  pub laid : laid_of s ≤ aside_count s.aside
  -- each block is counted once
  pub whole :
      s.ring + 2 + free_count s + live_of s + count_by is_freed s.uses + count_by is_layer s.uses
      + laid_of s + count_by is_pinned s.uses + drawn s.holders ≡ length s.uses
  -- of each seat as many blocks are drawn as its holder counts
  pub of_seats : (seat : ℕ) →
      count_by (is_drawn_by seat) s.uses ≡ (holder_at s.holders seat).drawn
  -- what waits is what was freed, each block once, in the order of the numbers
  pub waits : AreUsed Freed s.uses (waiting_blocks s.waiting)
  pub all_wait : count_by is_freed s.uses ≡ length s.waiting
  pub rising : AreRising s.waiting
  -- pins keep layer blocks and pinned ones, and each pinned block; a layer set has pins
  pub pins : FitPins s.uses s.pins
  pub sets : IsSoundTable s.pins
