-- What lies in the graveyard, counted.
use Rattle.std.specs.Prelude.{◌≡◌, ◌⊎◌, ℕ, ◌+◌, List, [], ◌∷◌, length, Some}
use Rattle.fx_item.specs.declared.Sizes.{Sizes}
use Rattle.fx_namespace.specs.Nodes.{NodeId}
use Rattle.fx_contents.specs.Points.{Points, device_block, value_under}
use Rattle.fx_node.specs.Held.{HasAttribute}
use Rattle.fx_node.specs.Waiting.{Waits}

-- the value stands in the list
abbrev pub IsAmong : {A : Type 0} → List A → A → Type 0
IsAmong [] x = ⊥
IsAmong (y ∷ ys) x = (y ≡ x) ⊎ IsAmong ys x

-- no value stands in the list twice
abbrev pub AreOnce : {A : Type 0} → List A → Type 0
AreOnce [] = Unit {0}
AreOnce (x ∷ xs) = (IsAmong xs x → ⊥) × AreOnce xs

-- the values of which something holds, each once
pub record AreAllOf {A : Type 0} (P : A → Type 0) (xs : List A) : Type 0 where
  pub every : (x : A) → P x → IsAmong xs x
  pub only : (x : A) → IsAmong xs x → P x
  pub once : AreOnce xs

-- an attribute of a node in the graveyard
abbrev pub IsBuriedAttribute : Points → NodeId × List ℕ → Type 0
IsBuriedAttribute m a = Waits (value_under m) a.0 × HasAttribute m a.0 a.1

-- a place of a node in the graveyard that has a block
abbrev pub IsBuriedBlock : Points → NodeId × ℕ → Type 0
IsBuriedBlock m b = Waits (value_under m) b.0
    × ((block : ℕ) × (device_block m b.0 b.1 ≡ Some block))

-- the sizes of the graveyard: its nodes, their attributes and their blocks
pub record AreGraveyardSizes (m : Points) (sizes : Sizes) : Type 0 where
  pub nodes : List NodeId
  pub attributes : List (NodeId × List ℕ)
  pub blocks : List (NodeId × ℕ)
  pub nodes_are : AreAllOf (Waits (value_under m)) nodes
  pub attributes_are : AreAllOf (IsBuriedAttribute m) attributes
  pub blocks_are : AreAllOf (IsBuriedBlock m) blocks
  pub node_count : length nodes ≡ sizes.nodes
  pub attribute_count : length attributes ≡ sizes.attributes
  pub block_count : length blocks ≡ sizes.blocks

-- the graveyard has these sizes, and with those that it lost it had the old ones
pub record LosesSizes (m : Points) (old reaped : Sizes) : Type 0 where
  pub sizes : Sizes
  pub are : AreGraveyardSizes m sizes
  pub nodes : sizes.nodes + reaped.nodes ≡ old.nodes
  pub attributes : sizes.attributes + reaped.attributes ≡ old.attributes
  pub blocks : sizes.blocks + reaped.blocks ≡ old.blocks
