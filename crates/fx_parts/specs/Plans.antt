-- Which items a step makes over what stands, which keys that rests on, and what a commit asks of
-- the part of its number.
use Rattle.std.specs.Prelude.{◌≡◌, ◌≢◌, ◌⊎◌, ℕ, ◌+◌, ◌<◌, ◌≤◌, List, [], ◌∷◌, ◌++◌, length, Option, None, Some, Ok, slice_get}
use Rattle.std.specs.FinMap as finite
use Rattle.fx_item.specs.Item.{ChildKey, ObjectKey, PlainItem}
use Rattle.fx_item.specs.Look.{ItemMap, after, no_items}
use Rattle.fx_item.specs.Overlay.{AtKey, Point, says}
use Rattle.fx_item.specs.declared.lock.Mode.{Mode}
use Rattle.fx_item.specs.declared.lock.Mode.TheVariants.{Share, Change, Write as ForWrite}
use Rattle.fx_plain.specs.declared.contents.TheConstants.{MAX_FILE}
use Rattle.fx_plain.specs.declared.kind.Kind.{Kind}
use Rattle.fx_plain.specs.declared.kind.Kind.TheVariants as kinds
use Rattle.fx_plain.specs.declared.path.TheConstants.{MAX_NAMES}
use Rattle.fx_plain.specs.declared.step.Step.{Step}
use Rattle.fx_plain.specs.declared.step.Step.TheVariants.{Mkdir, Create, Write, Read, List as ListStep, Stat as StatStep}
use Rattle.fx_history.specs.declared.entry.Entry.{Entry}
use Rattle.fx_namespace.specs.Commits.{IsNextNode, new_items, written_items}
use Rattle.fx_namespace.specs.Nodes.{NodeId, kind_of, node_at, object_kind}
use Rattle.fx_plain.specs.Table.{do_step}
use Rattle.fx_plain.specs.Tree.{Tree}
use Rattle.fx_plain.specs.declared.step.Answer.TheVariants.{Done}
use Rattle.fx_parts.specs.Live.{IsNodeThere, LiveMap, MakesNames, laid_over, live_in_lists, name_map, node_of_point}
use Rattle.fx_parts.specs.Parts.{Grant, IsGivenNode, Part, Reservation, TakenSnapshot}

-- ---- the items of a step

-- A new node may come under the name, by what stands: the path leads to a directory in which the
-- name is free, and the node is the next one that was given.
pub record IsRoomFor (m : ItemMap) (r : Reservation) (above : List (List ℕ)) (name : List ℕ)
    (parent node : NodeId) (kind : Kind) : Type 0 where
  pub depth : length above < MAX_NAMES
  pub way : node_at m above ≡ Some parent
  pub directory : kind_of m parent ≡ Some kinds.Dir
  pub free : m (ChildKey parent.store parent.id name) ≡ None
  pub next : IsNextNode parent node kind r.id r.store
  pub given : 1 ≤ r.need.nodes

-- The items that the step makes over what stands, with the ids that were given.
pub data IsPlanOf (m : ItemMap) (r : Reservation) (step : Step) (items : List PlainItem)
    : Type 0 where
  PlansDirectory : (above : List (List ℕ)) (name : List ℕ) (parent node : NodeId)
      → step ≡ Mkdir (above ++ name ∷ []) → IsRoomFor m r above name parent node kinds.Dir
      → items ≡ new_items parent name node kinds.Dir → IsPlanOf m r step items
  PlansFile : (above : List (List ℕ)) (name : List ℕ) (parent node : NodeId)
      → step ≡ Create (above ++ name ∷ []) → above ≢ []
      → IsRoomFor m r above name parent node kinds.File
      → items ≡ new_items parent name node kinds.File → IsPlanOf m r step items
  PlansWrite : (path : List (List ℕ)) (at : ℕ) (text : List ℕ) (node : NodeId)
      → step ≡ Write path at text → at + length text ≤ MAX_FILE → node_at m path ≡ Some node
      → object_kind m node ≡ Some kinds.File → items ≡ written_items node
      → IsPlanOf m r step items

-- The step is done on the tree, and what stands with the items makes the tree after it.
pub record DoesStep (live : LiveMap) (tree : Tree) (step : Step) (items : List PlainItem)
    : Type 0 where
  pub done : (do_step tree step).0 ≡ Ok Done
  pub makes : MakesNames (laid_over items live) (do_step tree step).1

-- ---- the keys of a step

-- the path that a changing step is about
pub data IsPathOf (step : Step) (path : List (List ℕ)) : Type 0 where
  OfMkdir : step ≡ Mkdir path → IsPathOf step path
  OfCreate : step ≡ Create path → IsPathOf step path
  OfWrite : (at : ℕ) (text : List ℕ) → step ≡ Write path at text → IsPathOf step path

-- the path goes through the node on the way to its last name
pub record IsWalkedBy (m : ItemMap) (path : List (List ℕ)) (node : NodeId) : Type 0 where
  pub before : List (List ℕ)
  pub name : List ℕ
  pub rest : List (List ℕ)
  pub path_is : path ≡ before ++ name ∷ rest
  pub way : node_at m before ≡ Some node

-- The step asks for the key of this node in this mode: of each directory that it walks, to share
-- it, and of the parent of a new node and of a file that is written, to change it.
pub data IsPlanKey (m : ItemMap) (step : Step) (node : NodeId) (mode : Mode) : Type 0 where
  KeyOfWay : (path : List (List ℕ)) → IsPathOf step path → IsWalkedBy m path node → mode ≡ Share
      → IsPlanKey m step node mode
  KeyOfParent : (above : List (List ℕ)) (name : List ℕ)
      → (step ≡ Mkdir (above ++ name ∷ [])) ⊎ (step ≡ Create (above ++ name ∷ []))
      → node_at m above ≡ Some node → mode ≡ Change → IsPlanKey m step node mode
  KeyOfFile : (path : List (List ℕ)) (at : ℕ) (text : List ℕ) → step ≡ Write path at text
      → node_at m path ≡ Some node → mode ≡ Change → IsPlanKey m step node mode

-- The key is held since this number or before, raised where it is for a change.
pub record IsHeldSince (part : Part) (number : ℕ) (node : NodeId) (mode : Mode) : Type 0 where
  pub grant : Grant
  pub held : finite.get part.grants node ≡ Some grant
  pub since : grant.number ≤ number
  pub raised : mode ≡ Change → grant.mode ≡ ForWrite

-- ---- what a step meets

-- the path that a step that only looks is about
pub data LooksAt (step : Step) (path : List (List ℕ)) : Type 0 where
  ByRead : (at count : ℕ) → step ≡ Read path at count → LooksAt step path
  ByList : step ≡ ListStep path → LooksAt step path
  ByStat : step ≡ StatStep path → LooksAt step path

-- the path leads to the node, or through it
pub record IsOnPath (m : ItemMap) (path : List (List ℕ)) (node : NodeId) : Type 0 where
  pub before : List (List ℕ)
  pub rest : List (List ℕ)
  pub path_is : path ≡ before ++ rest
  pub way : node_at m before ≡ Some node

-- ---- what a commit asks of the part of its number

-- The node may be changed: its key is raised and was granted no later than the snapshot was taken,
-- and the node is there in the snapshot; or it is new, and was given to the number.
pub data IsChangeable (part : Part) (snapshot : TakenSnapshot) (node : NodeId) : Type 0 where
  ByKey : (grant : Grant) → finite.get part.grants node ≡ Some grant → grant.mode ≡ ForWrite
      → grant.number ≤ snapshot.point → IsNodeThere (live_in_lists snapshot.lists) node
      → IsChangeable part snapshot node
  ByGift : (r : Reservation) → part.reserved ≡ Some r → IsGivenNode r node
      → IsChangeable part snapshot node

-- the node is new: it was given to the number
abbrev pub IsGiftTo : Part → NodeId → Type 0
IsGiftTo part node = (r : Reservation) × (part.reserved ≡ Some r) × IsGivenNode r node

-- the kind of the Object that the items put under the node's key; None where they put none there,
-- or take it away
abbrev pub put_kind : List PlainItem → NodeId → Option Kind
put_kind items node = object_kind (after no_items items) node

-- The items are of nodes alone that the number may change, by one of its snapshots, since which it
-- has not committed. An Object that they put has the kind that its node has in the snapshot, or its
-- node is new. Blocks of the device belong to no node.
pub record IsCommitBacked (part : Part) (items : List PlainItem) : Type 0 where
  pub index : ℕ
  pub snapshot : TakenSnapshot
  pub taken : slice_get part.snapshots index ≡ Some snapshot
  pub since : part.last ≤ snapshot.point
  pub changes : (point : Point) (node : NodeId) → node_of_point point ≡ Some node
      → says items point ≢ None → IsChangeable part snapshot node
  pub kinds : (node : NodeId) (kind : Kind) → put_kind items node ≡ Some kind
      → (object_kind (name_map (live_in_lists snapshot.lists)) node ≡ Some kind)
      ⊎ IsGiftTo part node

-- The items are those that the entry's one step makes over one of the number's snapshots, since
-- which it has not committed, and the number holds all keys of the step since then.
pub record IsPlannedCommit (part : Part) (entry : Entry) (items : List PlainItem) : Type 0 where
  pub index : ℕ
  pub snapshot : TakenSnapshot
  pub taken : slice_get part.snapshots index ≡ Some snapshot
  pub since : part.last ≤ snapshot.point
  pub r : Reservation
  pub reserved : part.reserved ≡ Some r
  pub step : Step
  pub alone : entry.steps ≡ step ∷ []
  pub plan : IsPlanOf (name_map (live_in_lists snapshot.lists)) r step items
  pub keys : (node : NodeId) (mode : Mode)
      → IsPlanKey (name_map (live_in_lists snapshot.lists)) step node mode
      → IsHeldSince part snapshot.point node mode

-- ---- what a commit of upkeep asks

-- The items leave the names as they stand: an Object of which they say something is put anew with
-- the kind that it has, and what they say of a child is what stands there.
pub record LeavesNames (m : ItemMap) (items : List PlainItem) : Type 0 where
  pub objects : (node : NodeId) → says items (AtKey (ObjectKey node.store node.id)) ≢ None
      → (kind : Kind) × (put_kind items node ≡ Some kind) × (object_kind m node ≡ Some kind)
  pub children : (node : NodeId) (name : List ℕ)
      → after m items (ChildKey node.store node.id name)
      ≡ m (ChildKey node.store node.id name)

-- The items leave the names of one of the number's snapshots, since which it has not committed. Each
-- node that they are about is there in it, and the number holds its raised key since then.
pub record IsUpkeepCommit (part : Part) (items : List PlainItem) : Type 0 where
  pub index : ℕ
  pub snapshot : TakenSnapshot
  pub taken : slice_get part.snapshots index ≡ Some snapshot
  pub since : part.last ≤ snapshot.point
  pub keys : (point : Point) (node : NodeId) → node_of_point point ≡ Some node
      → says items point ≢ None → IsHeldSince part snapshot.point node Change
      × IsNodeThere (live_in_lists snapshot.lists) node
  pub names : LeavesNames (name_map (live_in_lists snapshot.lists)) items
