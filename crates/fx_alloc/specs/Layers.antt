-- What a change of layers, and the end of a pin, make of the blocks.
use Rattle.std.specs.Prelude.{◌≡◌, ◌≢◌, ℕ, ◌+◌, Bool, true, if◌then◌else◌, List, [], ◌∷◌, length, slice_set, count_by, ◌||◌, IfSome}
use Rattle.fx_alloc.specs.declared.uses.Use.{Use}
use Rattle.fx_alloc.specs.declared.uses.Use.TheVariants.{Free, Layer, Laid, Pinned}
use Rattle.fx_alloc.specs.declared.chain.Chain.{Chain}
use Rattle.fx_alloc.specs.Uses.{use_at, is_free, is_layer, is_pinned, blocks_from, AreUsed}
use Rattle.fx_alloc.specs.Pins.{PinTable, is_kept, set_has}

-- ---- one block

-- of a block before and after a change of layers, where it stays a layer's or not, and pins keep it
-- or not
abbrev pub switched_use : (stays kept : Bool) → Use → Use
switched_use stays kept Layer = if stays then Layer else (if kept then Pinned else Free)
switched_use stays kept Laid = Layer
switched_use stays kept u = u

-- of a block after a pin has ended, where another one keeps it or not
abbrev pub unpinned_use : (kept : Bool) → Use → Use
unpinned_use kept Pinned = if kept then Pinned else Free
unpinned_use kept u = u

abbrev pub pinned_use : Use → Use
pinned_use Free = Pinned
pinned_use u = u

abbrev pub freed_use : Use → Use
freed_use Pinned = Free
freed_use u = u

abbrev pub layer_use : Use → Use
layer_use Free = Layer
layer_use u = u

-- ---- block after block

abbrev pub change_use : (Use → Use) → ℕ → List Use → List Use
change_use f b uses = slice_set uses b (f (use_at uses b))

unfoldable pub change_all : (Use → Use) → List ℕ → List Use → List Use
change_all f [] uses = uses
change_all f (b ∷ bs) uses = change_all f bs (change_use f b uses)

-- Free blocks were made layer blocks, and put before a chain of these.
pub record ChainsUp (uses after : List Use) (links later : List ℕ) (old new : Chain) : Type 0 where
  pub free : count_by is_free after + new.len ≡ count_by is_free uses + old.len
  pub layers : count_by is_layer after + old.len ≡ count_by is_layer uses + new.len
  pub chain : AreUsed Layer uses (blocks_from links old.head old.len) →
      AreUsed Layer after (blocks_from later new.head new.len)
  -- no other chain changes
  pub others : (u : Use) (head n : ℕ) → u ≢ Free → AreUsed u uses (blocks_from links head n) →
      AreUsed u after (blocks_from later head n)
  pub uses_len : length after ≡ length uses
  pub links_len : length later ≡ length links

-- ---- which blocks pins keep

abbrev pub is_held : Use → Bool
is_held u = is_layer u || is_pinned u

-- What pins keep are layer blocks, or blocks kept for pins alone; and each of these has a pin.
pub record FitPins (uses : List Use) (t : PinTable) : Type 0 where
  pub held : (b : ℕ) → is_kept t.kept b ≡ true → is_held (use_at uses b) ≡ true
  pub owned : (b : ℕ) → is_pinned (use_at uses b) ≡ true → is_kept t.kept b ≡ true
  pub present : IfSome t.present
      (λ set. (b : ℕ) → set_has t.kept set b ≡ is_layer (use_at uses b))
