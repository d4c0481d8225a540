-- The use of each block, and lists of blocks of one use.
use Rattle.std.specs.Prelude.{◌≡◌, ◌≢◌, ℕ, zero, suc, ◌==◌, Bool, true, false, List, [], ◌∷◌, slice_index_or, slice_set, replicate, ◌++◌, ◌+◌, ◌-◌}
use Rattle.fx_alloc.specs.declared.uses.Use.{Use}
use Rattle.fx_alloc.specs.declared.uses.Use.TheVariants.{System, Free, Drawn, Live, Freed, Layer, Laid, Pinned}

abbrev pub is_system : Use → Bool
is_system System = true
is_system _ = false

abbrev pub is_free : Use → Bool
is_free Free = true
is_free _ = false

abbrev pub is_drawn_by : ℕ → Use → Bool
is_drawn_by seat (Drawn s) = s == seat
is_drawn_by seat _ = false

abbrev pub is_live : Use → Bool
is_live Live = true
is_live _ = false

abbrev pub is_freed : Use → Bool
is_freed Freed = true
is_freed _ = false

abbrev pub is_layer : Use → Bool
is_layer Layer = true
is_layer _ = false

abbrev pub is_laid : Use → Bool
is_laid Laid = true
is_laid _ = false

abbrev pub is_pinned : Use → Bool
is_pinned Pinned = true
is_pinned _ = false

-- What a block is used for. A block past the disk is the system's.
abbrev pub use_at : List Use → ℕ → Use
use_at uses block = slice_index_or uses block System

-- all these blocks have another use, one after another
unfoldable pub put_all : Use → List ℕ → List Use → List Use
put_all to [] uses = uses
put_all to (b ∷ bs) uses = put_all to bs (slice_set uses b to)

-- so many blocks along the links
unfoldable pub blocks_from : List ℕ → ℕ → ℕ → List ℕ
blocks_from links block zero = []
blocks_from links block (suc n) = block ∷ blocks_from links (slice_index_or links block 0) n

-- all these blocks have this use
unfoldable pub HaveUse : Use → List Use → List ℕ → Type 0
HaveUse u uses [] = Unit {0}
HaveUse u uses (b ∷ bs) = (use_at uses b ≡ u) × HaveUse u uses bs

abbrev pub IsApartFrom : ℕ → List ℕ → Type 0
IsApartFrom b [] = Unit {0}
IsApartFrom b (c ∷ cs) = (b ≢ c) × IsApartFrom b cs

-- no block stands twice
abbrev pub StandOnce : List ℕ → Type 0
StandOnce [] = Unit {0}
StandOnce (b ∷ bs) = IsApartFrom b bs × StandOnce bs

-- these blocks have this use, each once
pub record AreUsed (u : Use) (uses : List Use) (blocks : List ℕ) : Type 0 where
  pub used : HaveUse u uses blocks
  pub apart : StandOnce blocks

-- a disk where all past the superblocks and the ring is free
abbrev pub blank : ℕ → ℕ → List Use
blank blocks ring = replicate (ring + 2) System ++ replicate (blocks - (ring + 2)) Free
