-- An image is sound exactly where no fault is the first.
use Rattle.std.proofs.Common.{◌≡◌, ℕ, inl, inr, List, []}
use Rattle.fx_namespace.specs.Nodes.{NodeId}
use Rattle.fx_nodes.proofs.NothingWrong.{nothing_wrong}
use Rattle.fx_contents.specs.Points.{named}
use Rattle.fx_contents.proofs.Amiss.{names_amiss}
use Rattle.fx_sound.specs.declared.image.ImageFault.{ImageFault}
use Rattle.fx_sound.specs.declared.image.ImageFault.TheVariants.{BadTree, Unsound, Cramped}
use Rattle.fx_sound.specs.Image.{AreStanding, PlainImage, points_in}
use Rattle.fx_sound.specs.Parts.{HasTree, IsSoundImage}
use Rattle.fx_sound.specs.Faults.{HasNoBadNode, HasNoUnsoundBlock, IsBadNode, IsCrampedBy, IsFirstFault, IsUnsoundAt}
use Rattle.fx_sound.proofs.First.{no_node, no_number, node_of}
use Rattle.fx_sound.proofs.Grown.{has_tree}
use Rattle.fx_sound.proofs.Owned.{none_unsound, true_blocks}
use Rattle.fx_sound.proofs.Rooms.{numbers_left, rooms_left}

-- an image with a tree has no bad node
pub none_bad : (image : PlainImage) → HasTree image → HasNoBadNode image
none_bad image t node bad =
    let s = (t.tree (λ b. [])).1 in
    nothing_wrong (named (points_in image.items)) s.stands node (names_amiss image.ring image.disk (points_in image.items) node s.within t.on_disk bad)

not_cramped : (image : PlainImage) → IsSoundImage image → (n : ℕ) → IsCrampedBy image n → ⊥
not_cramped image s n (inl a) = a.0 s.numbers
not_cramped image s n (inr a) = a.1 (s.layers, s.drops)

pub none_first : (image : PlainImage) (fault : ImageFault) → IsSoundImage image → IsFirstFault image fault → ⊥
none_first image (BadTree store id) s f = none_bad image s.tree (node_of store id) f.amiss
none_first image (Unsound b) s f = none_unsound image s.blocks b f.1.unsound
none_first image (Cramped n) s f = not_cramped image s n f.2

-- the parts from what is not wrong
pub sound_from : (image : PlainImage) → AreStanding image.items → HasNoBadNode image → HasNoUnsoundBlock image → ((n : ℕ) → IsCrampedBy image n → ⊥) → IsSoundImage image
sound_from image s tree blocks rooms = record {
  tree = has_tree image s tree;
  blocks = true_blocks image s blocks;
  layers = (rooms_left image rooms).0;
  drops = (rooms_left image rooms).1;
  numbers = numbers_left image rooms;
}

pub sound_if : (image : PlainImage) → AreStanding image.items → ((fault : ImageFault) → IsFirstFault image fault → ⊥) → IsSoundImage image
sound_if image s none = sound_from image s tree blocks rooms
  where
    tree : HasNoBadNode image
    tree = no_node (IsBadNode image) (λ node bad least. none (BadTree node.store node.id) (record { amiss = bad; least = least }))

    blocks : HasNoUnsoundBlock image
    blocks = no_number (IsUnsoundAt image) (λ b wrong least. none (Unsound b) (tree, record { unsound = wrong; least = least }))

    rooms : (n : ℕ) → IsCrampedBy image n → ⊥
    rooms n cramped = none (Cramped n) (tree, blocks, cramped)
