-- What a node holds: its attributes by name, and its blocks in runs.
use Rattle.std.specs.Prelude.{◌≡◌, ◌⊎◌, ℕ, ◌+◌, ◌-◌, ◌<◌, ◌≤◌, ◌==◌, ◌&&◌, max, Bool, true, false, List, length, Option, Some, None, IsTrue, slice_get, if◌then◌else◌}
use Rattle.std.specs.Ordering.{is_le}
use Rattle.std.specs.declared.cmp.Ordering.TheVariants.{Less}
use Rattle.fx_item.specs.Item.{PlainKey, AttributeKey, ExtentKey, PlainItem, PlainValue, ExtentValue}
use Rattle.fx_item.specs.Name.{is_name, name_cmp}
use Rattle.fx_item.specs.Overlay.{AtFileBlock}
use Rattle.fx_item.specs.declared.item.TheConstants.{MAX_DEVICE_BLOCKS, MAX_EXTENT_BLOCKS, MAX_FILE_BLOCKS}
use Rattle.fx_namespace.specs.Nodes.{NodeId}
use Rattle.fx_contents.specs.Points.{Points, device_block, value_under}
use Rattle.fx_node.specs.declared.holding.BlockRun.{BlockRun}

-- ---- attributes

abbrev pub HasAttribute : Points → NodeId → List ℕ → Type 0
HasAttribute m node name = (value : PlainValue)
    × (value_under m (AttributeKey node.store node.id name) ≡ Some value)

-- The first attribute from a name on: there is none, or this one, and every other is before that
-- name or after this one.
abbrev pub IsNextAttribute : Points → NodeId → List ℕ → Option (List ℕ) → Type 0
IsNextAttribute m node from None =
    (other : List ℕ) → HasAttribute m node other → name_cmp other from ≡ Less
IsNextAttribute m node from (Some name) = HasAttribute m node name × IsTrue (is_name name)
    × IsTrue (is_le (name_cmp from name))
    × ((other : List ℕ) → HasAttribute m node other
    → (name_cmp other from ≡ Less) ⊎ IsTrue (is_le (name_cmp name other)))

-- the name under which a key is an attribute of a node, if it is
abbrev pub attribute_under : NodeId → PlainKey → Option (List ℕ)
attribute_under node (AttributeKey store id name) =
    if store == node.store && id == node.id then Some name else None
attribute_under node _ = None

abbrev pub attribute_name_at : NodeId → Option PlainItem → Option (List ℕ)
attribute_name_at node None = None
attribute_name_at node (Some item) = attribute_under node item.key

-- Names of attributes of a node, in order: at most so many. They are all, or so many and some are
-- left.
pub record AreFirstNames (m : Points) (node : NodeId) (most : ℕ) (names : List (List ℕ))
    (all : Bool) : Type 0 where
  pub there : (i : ℕ) (name : List ℕ) → slice_get names i ≡ Some name
      → HasAttribute m node name × IsTrue (is_name name)
  pub rising : (i j : ℕ) (x y : List ℕ) → i < j → slice_get names i ≡ Some x
      → slice_get names j ≡ Some y → name_cmp x y ≡ Less
  pub few : length names ≤ most
  pub every : all ≡ true → (name : List ℕ) → HasAttribute m node name
      → (i : ℕ) × (slice_get names i ≡ Some name)
  pub full : all ≡ false → length names ≡ most
  pub left : all ≡ false → (name : List ℕ) × HasAttribute m node name
      × ((i : ℕ) → slice_get names i ≡ Some name → ⊥)

-- ---- runs of blocks

-- The places of a file from `start` on, up to `end`, lie in blocks of the device that follow each
-- other from `block` on.
pub record IsRunOf (m : Points) (node : NodeId) (run : BlockRun) : Type 0 where
  pub some : run.start < run.end
  pub most : run.end ≤ MAX_FILE_BLOCKS
  pub few : run.end ≤ run.start + MAX_EXTENT_BLOCKS
  pub inside : run.block + (run.end - run.start) ≤ MAX_DEVICE_BLOCKS
  pub held : (n : ℕ) → run.start ≤ n → n < run.end
      → device_block m node n ≡ Some (run.block + (n - run.start))

-- a place of a file has no block
abbrev pub IsHole : Points → NodeId → ℕ → Type 0
IsHole m node n = m (AtFileBlock node.store node.id n) ≡ None

-- the first run from a place on: all before it are holes
abbrev pub IsNextRun : Points → NodeId → ℕ → Option BlockRun → Type 0
IsNextRun m node from None = (n : ℕ) → from ≤ n → IsHole m node n
IsNextRun m node from (Some run) = IsRunOf m node run × (from ≤ run.start)
    × ((n : ℕ) → from ≤ n → n < run.start → IsHole m node n)

-- the run of an extent of a node, from a place on
abbrev pub run_under : NodeId → ℕ → PlainKey → PlainValue → Option BlockRun
run_under node from (ExtentKey store id start stop) (ExtentValue block sums) =
    if store == node.store && id == node.id then Some (record {
      start = max start from;
      end = stop;
      block = block + (max start from - start);
    }) else None
run_under node from _ _ = None

abbrev pub extent_run : NodeId → ℕ → PlainItem → Option BlockRun
extent_run node from x = run_under node from x.key x.value

abbrev pub IsInRun : List BlockRun → ℕ → Type 0
IsInRun runs n = (i : ℕ) × (run : BlockRun) × (slice_get runs i ≡ Some run)
    × (run.start ≤ n) × (n < run.end)

-- Runs of a node's blocks, in order and apart: at most so many. They are all, or so many and some
-- are left.
pub record AreFirstRuns (m : Points) (node : NodeId) (most : ℕ) (runs : List BlockRun)
    (all : Bool) : Type 0 where
  pub there : (i : ℕ) (run : BlockRun) → slice_get runs i ≡ Some run → IsRunOf m node run
  pub apart : (i j : ℕ) (x y : BlockRun) → i < j → slice_get runs i ≡ Some x
      → slice_get runs j ≡ Some y → x.end ≤ y.start
  pub few : length runs ≤ most
  pub every : all ≡ true → (n : ℕ) → IsHole m node n ⊎ IsInRun runs n
  pub full : all ≡ false → length runs ≡ most
  pub left : all ≡ false
      → (n block : ℕ) × (device_block m node n ≡ Some block) × (IsInRun runs n → ⊥)
