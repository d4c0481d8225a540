-- What the items of a portion say.
use Rattle.std.specs.Prelude.{◌≡◌, ◌≢◌, ◌⊎◌, ℕ, Bool, true, List, Option, Some, None, if◌then◌else◌}
use Rattle.fx_item.specs.Item.{ObjectKey, AttributeKey, GraveKey}
use Rattle.fx_item.specs.Overlay.{Point, AtKey, AtFileBlock, AtDeviceBlock, Entry, Said}
use Rattle.fx_namespace.specs.Nodes.{NodeId}
use Rattle.fx_contents.specs.Points.{Points, points_after}
use Rattle.fx_contents.specs.Removal.{IsBesideNode}
use Rattle.fx_node.specs.Held.{HasAttribute, IsHole}

-- Only tombstones are said, and of a node alone: of its attributes and blocks, and with the last of
-- them of its Object and its grave.
pub record SaysReaped (m : Points) (said : Said) (node : NodeId) (last : Bool) : Type 0 where
  pub gone : (p : Point) (o : Option Entry) → said p ≡ Some o → o ≡ None
  pub beside : (p : Point) → IsBesideNode node p → said p ≡ None
  pub device : (block : ℕ) → said (AtDeviceBlock block) ≡ None
  pub object : said (AtKey (ObjectKey node.store node.id)) ≡ (if last then Some None else None)
  pub grave : said (AtKey (GraveKey node.store node.id)) ≡ (if last then Some None else None)
  pub attribute : last ≡ true → (name : List ℕ) → HasAttribute m node name
      → said (AtKey (AttributeKey node.store node.id name)) ≡ Some None
  pub block : last ≡ true → (n : ℕ)
      → IsHole m node n ⊎ (said (AtFileBlock node.store node.id n) ≡ Some None)

-- These are the points after what is said, but for blocks of the device.
abbrev pub AreAfterBeside : Points → Said → Points → Type 0
AreAfterBeside m said n =
    (p : Point) → ((b : ℕ) → p ≢ AtDeviceBlock b) → n p ≡ points_after m said p
