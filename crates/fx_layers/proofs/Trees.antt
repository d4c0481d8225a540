-- The tree of an item in blocks, and as a level.
use Rattle.std.proofs.Common.{◌≡◌, List, refl, arith}
use Rattle.std.specs.List.{All}
use Rattle.std.proofs.lemmas.List.Elements.{All-weaker}
use Rattle.fx_item.specs.Item.{PlainKey, ObjectKey, AttributeKey, ExtentKey, ChildKey, GraveKey, AllocationKey}
use Rattle.fx_item.specs.Place.{begins}
use Rattle.fx_layfile.specs.Block.{IsOfTree, tree_of_key}
use Rattle.fx_layerset.specs.Levels.{PlainLevel}
use Rattle.fx_layerset.specs.Alike.{AreOfTree}

object_tree : (k : PlainKey) → tree_of_key k ≡ 1 → (begins k).tree ≡ 0
object_tree (ObjectKey s i) e = refl
object_tree (AttributeKey s i name) e = refl
object_tree (ExtentKey s i start stop) e = refl
object_tree (ChildKey s i name) e = refl
object_tree (GraveKey s i) e = refl
object_tree (AllocationKey start stop) e = absurd (omega arith)

alloc_tree : (k : PlainKey) → tree_of_key k ≡ 2 → (begins k).tree ≡ 1
alloc_tree (ObjectKey s i) e = absurd (omega arith)
alloc_tree (AttributeKey s i name) e = absurd (omega arith)
alloc_tree (ExtentKey s i start stop) e = absurd (omega arith)
alloc_tree (ChildKey s i name) e = absurd (omega arith)
alloc_tree (GraveKey s i) e = absurd (omega arith)
alloc_tree (AllocationKey start stop) e = refl

pub objects_lie : (levels : List PlainLevel) → All (λ l. All (IsOfTree 1) l.items) levels → AreOfTree 0 levels
objects_lie levels h = All-weaker (λ (l : PlainLevel). All (IsOfTree 1) l.items) (λ l. All (λ x. (begins x.key).tree ≡ 0) l.items) (λ l items. All-weaker (IsOfTree 1) (λ x. (begins x.key).tree ≡ 0) (λ x good. object_tree x.key good.tree_is) l.items items) levels h

pub allocs_lie : (levels : List PlainLevel) → All (λ l. All (IsOfTree 2) l.items) levels → AreOfTree 1 levels
allocs_lie levels h = All-weaker (λ (l : PlainLevel). All (IsOfTree 2) l.items) (λ l. All (λ x. (begins x.key).tree ≡ 1) l.items) (λ l items. All-weaker (IsOfTree 2) (λ x. (begins x.key).tree ≡ 1) (λ x good. alloc_tree x.key good.tree_is) l.items items) levels h
