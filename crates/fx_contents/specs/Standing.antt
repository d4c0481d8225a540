-- The tree that items stand for, with what the blocks of the device hold.
use Rattle.std.specs.Prelude.{◌≡◌, ℕ, ◌+◌, ◌*◌, ◌/◌, ◌%◌, ◌<◌, ◌≤◌, List, get_or, Option, None, Some}
use Rattle.std.specs.FinMap as map
use Rattle.fx_item.specs.Item.{ObjectKey, ExtentKey, AllocationKey, AttributeKey, GraveKey, PlainValue, FileValue}
use Rattle.fx_item.specs.Look.{ItemMap}
use Rattle.fx_item.specs.Overlay.{AtFileBlock, Entry}
use Rattle.fx_plain.specs.Node.{Attributes, Contents, no_contents}
use Rattle.fx_plain.specs.Tree.{Tree}
use Rattle.fx_base.specs.declared.block.TheConstants.{BLOCK_BYTES}
use Rattle.fx_plain.specs.declared.kind.Kind.{Kind}
use Rattle.fx_namespace.specs.Nodes.{NodeId, Stands, told_kind}
use Rattle.fx_namespace.specs.Trees.{Holdings, IsTreeOf}
use Rattle.fx_contents.specs.Points.{Points, value_under, named, device_block, attribute_at}
use Rattle.fx_contents.specs.Files.{file_of, byte_at}

-- what a node holds by its Object's value and its blocks
abbrev pub contents_by : (ℕ → List ℕ) → Option PlainValue → (ℕ → Option ℕ) → Contents
contents_by blocks (Some (FileValue len)) held = file_of blocks len held
contents_by blocks _ held = no_contents

-- what the nodes hold: files the bytes of their blocks, and each node these attributes
abbrev pub holdings_of : Points → (ℕ → List ℕ) → (NodeId → Attributes) → Holdings
holdings_of m blocks attributes = record {
  contents = λ node.
      contents_by blocks (named m (ObjectKey node.store node.id)) (device_block m node);
  attributes = attributes;
}

-- The node has an Object, of either kind. It may wait in the graveyard.
abbrev pub HasObject : Points → (store id : ℕ) → Type 0
HasObject m store id = (kind : Kind) × (told_kind (value_under m (ObjectKey store id)) ≡ Some kind)

-- The node has the Object of a file, and its block n begins within the file's length.
abbrev pub IsInFile : Points → (store id n : ℕ) → Type 0
IsInFile m store id n = (len : ℕ) × (value_under m (ObjectKey store id) ≡ Some (FileValue len))
    × (n * BLOCK_BYTES < len)

-- Each block is of a file and begins within it, graves and attributes are of nodes that have an
-- Object, and the root has no grave. The graveyard counts.
pub record AreWithin (m : Points) : Type 0 where
  pub root : value_under m (GraveKey 0 0) ≡ None
  pub extent : (store id n : ℕ) (entry : Entry) → m (AtFileBlock store id n) ≡ Some entry
      → IsInFile m store id n
  pub grave : (store id : ℕ) (value : PlainValue) → value_under m (GraveKey store id) ≡ Some value
      → HasObject m store id
  pub attribute : (store id : ℕ) (name : List ℕ) (value : PlainValue)
      → value_under m (AttributeKey store id name) ≡ Some value → HasObject m store id

-- Each node has the attributes that the items tell. They are a witness, since what stands at points
-- lists no names.
pub record AreAttributesOf (m : Points) (attributes : NodeId → Attributes) : Type 0 where
  pub at : (node : NodeId) (name : List ℕ)
      → map.get (attributes node) name ≡ attribute_at m node name

-- The names stand, all else is of nodes that have an Object, and the tree has at each path what the
-- path leads to: a file with the bytes of its blocks, and each node with its attributes.
pub record StandForTree (m : Points) (blocks : ℕ → List ℕ) (tree : Tree) : Type 0 where
  pub stands : Stands (named m)
  pub within : AreWithin m
  pub attributes : NodeId → Attributes
  pub attributes_are : AreAttributesOf m attributes
  pub tree_is : IsTreeOf (named m) (holdings_of m blocks attributes) tree

-- Past its length each file of the tree has zeros.
pub record AreClear (m : Points) (blocks : ℕ → List ℕ) : Type 0 where
  pub zero : (node : NodeId) (len i : ℕ)
      → named m (ObjectKey node.store node.id) ≡ Some (FileValue len)
      → len ≤ i → byte_at blocks (device_block m node) i ≡ 0

-- The same, of blocks: the held block in which a file's length ends is zero past that length.
pub record AreClearEnds (m : Points) (blocks : ℕ → List ℕ) : Type 0 where
  pub zero : (node : NodeId) (len block j : ℕ)
      → named m (ObjectKey node.store node.id) ≡ Some (FileValue len)
      → device_block m node (len / BLOCK_BYTES) ≡ Some block
      → len % BLOCK_BYTES ≤ j → j < BLOCK_BYTES → get_or (blocks block) j 0 ≡ 0

-- Each block of a file lies on the disk past the superblocks and the ring, which have so many
-- blocks.
pub record AreOnDisk (ring disk : ℕ) (m : Points) : Type 0 where
  pub block : (node : NodeId) (n block : ℕ) → device_block m node n ≡ Some block
      → (ring + 2 ≤ block) × (block < disk)

-- Names alone: no ranges, no attributes, no graves, and files without bytes.
pub record AreNamesAlone (items : ItemMap) : Type 0 where
  pub extent : (store id start stop : ℕ) → items (ExtentKey store id start stop) ≡ None
  pub allocation : (start stop : ℕ) → items (AllocationKey start stop) ≡ None
  pub attribute : (store id : ℕ) (name : List ℕ) → items (AttributeKey store id name) ≡ None
  pub grave : (store id : ℕ) → items (GraveKey store id) ≡ None
  pub empty : (store id len : ℕ) → items (ObjectKey store id) ≡ Some (FileValue len) → len ≡ 0
