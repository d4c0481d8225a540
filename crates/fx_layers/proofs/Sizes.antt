-- What the items of an image with a tree and true allocations count.
use Rattle.std.proofs.Common.{◌≡◌, ◌⊎◌, inl, inr, ℕ, ◌+◌, ◌-◌, ◌≤◌, ◌==◌, Bool, true, false, cond, List, [], ◌∷◌, ◌++◌, length, refl, sym, ap, subst, ◌∙◌, arith, eqb-true, length-append}
use Rattle.std.specs.Prelude.{All, Option, Some, None, filter}
use Rattle.std.specs.List.{sum_by}
use Rattle.std.proofs.lemmas.List.Sums.{sum_by-cons}
use Rattle.std.proofs.lemmas.List.Elements.{All-cons, All-nil}
use Rattle.fx_item.specs.Item.{PlainKey, ObjectKey, AttributeKey, ExtentKey, ChildKey, GraveKey, AllocationKey, PlainValue, GoneValue, ChildValue, WaitingValue, ExtentValue, TakenValue, PlainItem, IsItem, Suits}
use Rattle.fx_item.specs.Overlay.{Point, AtKey, AtDeviceBlock, AtFileBlock, Entry, ValueEntry, BlockEntry, covers}
use Rattle.fx_item.specs.Look.{AllApart, is_gone, is_point_key}
use Rattle.fx_namespace.specs.Nodes.{NodeId, Stands, child, led_to, told_kind}
use Rattle.fx_nodes.specs.Lists.{IsIn}
use Rattle.fx_contents.specs.Points.{block_in, device_block, named, unless_waiting, value_under}
use Rattle.fx_contents.specs.Standing.{HasObject}
use Rattle.fx_plain.specs.declared.kind.Kind.{Kind}
use Rattle.fx_layfile.specs.Block.{IsOfTree, tree_of_key}
use Rattle.fx_layfile.specs.Bound.{blocks_in_range, is_naming_key}
use Rattle.fx_layfile.proofs.Bounds.{layer_bound_holds}
use Rattle.fx_sound.specs.Image.{AreStanding, blocks_under, is_attribute, is_object, points_in}
use Rattle.fx_sound.proofs.Listed.{alive_in, allocation_block, apart_tail, covers_device, covers_self, file_block, good_in, not_head, value_listed, value_stands}
use Rattle.fx_layers.proofs.Pigeons.{AreDifferent, different_append, in_back, in_either, in_front, no_more, numbers_different, numbers_from, numbers_have, numbers_length, numbers_within}
use Rattle.fx_layers.specs.StandingSizes.{NewLayersFitLaw, StandingSizesLaw, items_in_tree}

abbrev one : Bool → ℕ
one b = cond b 1 0

abbrev keyed : PlainKey → PlainValue → PlainItem
keyed k v = record { key = k; value = v }

-- ---- sums over some of the items

kept_sum : (f g : PlainItem → ℕ) (keep : PlainItem → Bool) → ((x : PlainItem) → keep x ≡ true → f x ≤ g x) → (xs : List PlainItem) → sum_by f (filter keep xs) ≤ sum_by g xs
kept_sum f g keep h [] = omega arith
kept_sum f g keep h (x ∷ xs) = by (keep x) refl (kept_sum f g keep h xs)
  where
    by : (b : Bool) → keep x ≡ b → sum_by f (filter keep xs) ≤ sum_by g xs → sum_by f (cond b (x ∷ filter keep xs) (filter keep xs)) ≤ sum_by g (x ∷ xs)
    by true e ih = let here = h x e in omega (arith, ih, here, sum_by-cons f x (filter keep xs), sum_by-cons g x xs)
    by false e ih = omega (arith, ih, sum_by-cons g x xs)

-- the items of one tree are items of it
of_one_tree : (tree : ℕ) (xs : List PlainItem) → ((x : PlainItem) → IsIn xs x → IsItem x) → All (IsOfTree tree) (items_in_tree tree xs)
of_one_tree tree [] good = All-nil (IsOfTree tree)
of_one_tree tree (x ∷ xs) good = by (tree_of_key x.key == tree) refl (of_one_tree tree xs (λ y i. good y (inr i)))
  where
    by : (b : Bool) → (tree_of_key x.key == tree) ≡ b → All (IsOfTree tree) (items_in_tree tree xs) → All (IsOfTree tree) (cond b (x ∷ items_in_tree tree xs) (items_in_tree tree xs))
    by true e ih = All-cons (IsOfTree tree) x (items_in_tree tree xs) (record { item = good x (inl refl); tree_is = eqb-true (tree_of_key x.key) tree e }) ih
    by false e ih = ih

-- ---- lists over items

gathered : {X : Type 0} → (PlainKey → PlainValue → List X) → List PlainItem → List X
gathered f [] = []
gathered f (x ∷ xs) = f x.key x.value ++ gathered f xs

in_gathered : {X : Type 0} (f : PlainKey → PlainValue → List X) (xs : List PlainItem) (n : X) → IsIn (gathered f xs) n → (x : PlainItem) × IsIn xs x × IsIn (f x.key x.value) n
unfolding gathered
in_gathered f [] n h = absurd h
in_gathered f (x ∷ xs) n h = elim (in_either (f x.key x.value) (gathered f xs) n h) [
  | inl a ↦ (x, inl refl, a)
  | inr b ↦ (let r = in_gathered f xs n b in (r.0, inr r.1, r.2))
]

gathered_in : {X : Type 0} (f : PlainKey → PlainValue → List X) (xs : List PlainItem) (x : PlainItem) (n : X) → IsIn xs x → IsIn (f x.key x.value) n → IsIn (gathered f xs) n
unfolding gathered
gathered_in f [] x n i h = absurd i
gathered_in f (y ∷ ys) x n (inl e) h = in_front (f y.key y.value) (gathered f ys) n (subst (λ (z : PlainItem). IsIn (f z.key z.value) n) (sym e) h)
gathered_in f (y ∷ ys) x n (inr i) h = in_back (f y.key y.value) (gathered f ys) n (gathered_in f ys x n i h)

-- each item adds at least so many
gathered_long : {X : Type 0} (f : PlainKey → PlainValue → List X) (g : PlainItem → ℕ) (xs : List PlainItem) → ((x : PlainItem) → IsIn xs x → g x ≤ length (f x.key x.value)) → sum_by g xs ≤ length (gathered f xs)
unfolding gathered
gathered_long f g [] h = omega arith
gathered_long f g (x ∷ xs) h =
    let ih = gathered_long f g xs (λ y i. h y (inr i)) in
    let here = h x (inl refl) in
    omega (arith, ih, here, sum_by-cons g x xs, length-append (f x.key x.value) (gathered f xs))

-- or at most
gathered_short : {X : Type 0} (f : PlainKey → PlainValue → List X) (g : PlainItem → ℕ) (xs : List PlainItem) → ((x : PlainItem) → IsIn xs x → length (f x.key x.value) ≤ g x) → length (gathered f xs) ≤ sum_by g xs
unfolding gathered
gathered_short f g [] h = omega arith
gathered_short f g (x ∷ xs) h =
    let ih = gathered_short f g xs (λ y i. h y (inr i)) in
    let here = h x (inl refl) in
    omega (arith, ih, here, sum_by-cons g x xs, length-append (f x.key x.value) (gathered f xs))

-- what items that cover no point together add is different
gathered_different : {X : Type 0} (f : PlainKey → PlainValue → List X) (xs : List PlainItem) → AllApart xs → ((x : PlainItem) → IsIn xs x → AreDifferent (f x.key x.value))
    → ((x y : PlainItem) (n : X) → IsIn xs x → IsIn xs y → IsIn (f x.key x.value) n → IsIn (f y.key y.value) n → (p : Point) × (covers x.key p ≡ true) × (covers y.key p ≡ true))
    → AreDifferent (gathered f xs)
unfolding gathered
gathered_different f [] a each meet = tt
gathered_different f (x ∷ xs) a each meet =
    different_append (f x.key x.value) (gathered f xs) (each x (inl refl))
    (gathered_different f xs (apart_tail x xs a) (λ y i. each y (inr i)) (λ y z n i j. meet y z n (inr i) (inr j)))
    (λ n h k. let r = in_gathered f xs n k in let m = meet x r.0 n (inl refl) (inr r.1) h r.2 in let no = not_head x xs a r.0 m.0 r.1 m.2 in absurd (cc (m.1, no)))

-- ---- what items name, and what they hold

abbrev node : ℕ → ℕ → NodeId
node s i = record { store = s; id = i }

abbrev names_of : PlainKey → PlainValue → List NodeId
names_of (ChildKey s i name) (ChildValue t j) = node t j ∷ []
names_of (GraveKey s i) WaitingValue = node s i ∷ []
names_of k v = []

abbrev objects_of : PlainKey → PlainValue → List NodeId
objects_of (ObjectKey s i) v = node s i ∷ []
objects_of k v = []

abbrev taken_of : PlainKey → PlainValue → List ℕ
taken_of (AllocationKey a b) v = numbers_from a (b - a)
taken_of k v = []

abbrev held_of : PlainKey → PlainValue → List ℕ
held_of (ExtentKey s i a b) (ExtentValue block sums) = numbers_from block (b - a)
held_of k v = []

naming_one : (k : PlainKey) (v : PlainValue) → Suits k v → is_gone v ≡ false → one (is_naming_key k) ≤ length (names_of k v)
naming_one (ChildKey s i name) (ChildValue t j) h a = omega arith
naming_one (ChildKey s i name) GoneValue h a = absurd (cc a)
naming_one (ChildKey s i name) v h a = absurd h
naming_one (GraveKey s i) WaitingValue h a = omega arith
naming_one (GraveKey s i) GoneValue h a = absurd (cc a)
naming_one (GraveKey s i) v h a = absurd h
naming_one (ObjectKey s i) v h a = omega arith
naming_one (AttributeKey s i name) v h a = omega arith
naming_one (ExtentKey s i x y) v h a = omega arith
naming_one (AllocationKey x y) v h a = omega arith

object_one : (k : PlainKey) (v : PlainValue) → length (objects_of k v) ≤ one (is_object k)
object_one (ObjectKey s i) v = omega arith
object_one (AttributeKey s i name) v = omega arith
object_one (ExtentKey s i a b) v = omega arith
object_one (ChildKey s i name) v = omega arith
object_one (GraveKey s i) v = omega arith
object_one (AllocationKey a b) v = omega arith

held_one : (k : PlainKey) (v : PlainValue) → length (held_of k v) ≤ blocks_under k
held_one (ExtentKey s i a b) (ExtentValue block sums) = omega (arith, numbers_length block (b - a))
held_one (ExtentKey s i a b) v = omega arith
held_one k v = omega arith

taken_one : (k : PlainKey) (v : PlainValue) → (tree_of_key k == 2) ≡ true → blocks_in_range k ≤ length (taken_of k v)
taken_one (AllocationKey a b) v e = omega (arith, numbers_length a (b - a))
taken_one (ObjectKey s i) v e = absurd (cc e)
taken_one (AttributeKey s i name) v e = absurd (cc e)
taken_one (ExtentKey s i a b) v e = absurd (cc e)
taken_one (ChildKey s i name) v e = absurd (cc e)
taken_one (GraveKey s i) v e = absurd (cc e)

-- a node is named by a child or by a grave
record ByChild (k : PlainKey) (v : PlainValue) (n : NodeId) : Type 0 where
  above : NodeId
  name : List ℕ
  key_is : k ≡ ChildKey above.store above.id name
  value_is : v ≡ ChildValue n.store n.id

record ByGrave (k : PlainKey) (v : PlainValue) (n : NodeId) : Type 0 where
  key_is : k ≡ GraveKey n.store n.id
  value_is : v ≡ WaitingValue

named_by : (k : PlainKey) (v : PlainValue) (n : NodeId) → IsIn (names_of k v) n → ByChild k v n ⊎ ByGrave k v n
named_by (ChildKey s i name) (ChildValue t j) n (inl e) = inl (record { above = node s i; name = name; key_is = refl; value_is = ap (λ (q : NodeId). ChildValue q.store q.id) e })
named_by (ChildKey s i name) (ChildValue t j) n (inr h) = absurd h
named_by (GraveKey s i) WaitingValue n (inl e) = inr (record { key_is = ap (λ (q : NodeId). GraveKey q.store q.id) e; value_is = refl })
named_by (GraveKey s i) WaitingValue n (inr h) = absurd h
named_by (ChildKey s i name) v n h = absurd h
named_by (GraveKey s i) v n h = absurd h
named_by k v n h = absurd h

told_value : (o : Option PlainValue) (kind : Kind) → told_kind o ≡ Some kind → (v : PlainValue) × (o ≡ Some v)
told_value None kind e = absurd (cc e)
told_value (Some v) kind e = (v, refl)

shown : (grave value : Option PlainValue) (v : PlainValue) → unless_waiting grave value ≡ Some v → (grave ≡ None) × (value ≡ Some v)
shown None value v e = (refl, e)
shown (Some g) value v e = absurd (cc e)

block_entry : (o : Option Entry) (b : ℕ) → block_in o ≡ Some b → (sum : ℕ) × (o ≡ Some (BlockEntry b sum))
block_entry (Some (BlockEntry block sum)) b e = let same : block ≡ b = cc in (sum, ap (λ x. Some (BlockEntry x sum)) same)
block_entry (Some (ValueEntry v)) b e = absurd (cc e)
block_entry None b e = absurd (cc e)

entry_block : (b block sum other : ℕ) → BlockEntry b sum ≡ BlockEntry block other → b ≡ block
entry_block b block sum other e = cc

module _ (items : List PlainItem) (s : AreStanding items) (stands : Stands (named (points_in items))) (graves : (store id : ℕ) (value : PlainValue) → value_under (points_in items) (GraveKey store id) ≡ Some value → HasObject (points_in items) store id) where
  child_is : (x : PlainItem) (n : NodeId) → IsIn items x → (b : ByChild x.key x.value n) → child (named (points_in items)) b.above b.name ≡ Some n
  child_is x n i b =
      let listed : IsIn items (keyed (ChildKey b.above.store b.above.id b.name) (ChildValue n.store n.id)) = subst (IsIn items) (λ j. keyed (b.key_is j) (b.value_is j)) i in
      ap led_to (value_stands items s (keyed (ChildKey b.above.store b.above.id b.name) (ChildValue n.store n.id)) listed refl)

  grave_is : (x : PlainItem) (n : NodeId) → IsIn items x → ByGrave x.key x.value n → value_under (points_in items) (GraveKey n.store n.id) ≡ Some WaitingValue
  grave_is x n i b =
      let listed : IsIn items (keyed (GraveKey n.store n.id) WaitingValue) = subst (IsIn items) (λ j. keyed (b.key_is j) (b.value_is j)) i in
      value_stands items s (keyed (GraveKey n.store n.id) WaitingValue) listed refl

  -- what a child leads to has an Object, and does not wait
  child_object : (n : NodeId) (a : NodeId) (name : List ℕ) → child (named (points_in items)) a name ≡ Some n → (v : PlainValue) × (value_under (points_in items) (GraveKey n.store n.id) ≡ None) × (value_under (points_in items) (ObjectKey n.store n.id) ≡ Some v)
  child_object n a name e =
      let k = stands.objects a name n e in
      let v = told_value (named (points_in items) (ObjectKey n.store n.id)) k.0 k.1 in
      let u = shown (value_under (points_in items) (GraveKey n.store n.id)) (value_under (points_in items) (ObjectKey n.store n.id)) v.0 v.1 in
      (v.0, u.0, u.1)

  named_object : (x : PlainItem) (n : NodeId) → IsIn items x → ByChild x.key x.value n ⊎ ByGrave x.key x.value n → (v : PlainValue) × (value_under (points_in items) (ObjectKey n.store n.id) ≡ Some v)
  named_object x n i (inl b) = let o = child_object n b.above b.name (child_is x n i b) in (o.0, o.2)
  named_object x n i (inr b) =
      let k = graves n.store n.id WaitingValue (grave_is x n i b) in
      told_value (value_under (points_in items) (ObjectKey n.store n.id)) k.0 k.1

  no_grave : (n : NodeId) (a : NodeId) (name : List ℕ) → child (named (points_in items)) a name ≡ Some n → value_under (points_in items) (GraveKey n.store n.id) ≡ Some WaitingValue → ⊥
  no_grave n a name e g = let o = child_object n a name e in absurd (cc (o.1, g))

  one_name : (x y : PlainItem) (n : NodeId) → IsIn items x → IsIn items y → ByChild x.key x.value n ⊎ ByGrave x.key x.value n → ByChild y.key y.value n ⊎ ByGrave y.key y.value n
      → (x.key ≡ y.key) × (is_point_key y.key ≡ true)
  one_name x y n i j (inl a) (inl b) =
      let same = stands.once a.above b.above a.name b.name n (child_is x n i a) (child_is y n j b) in
      (a.key_is ∙ (λ k. ChildKey (same.0 k).store (same.0 k).id (same.1 k)) ∙ sym b.key_is, ap is_point_key b.key_is)
  one_name x y n i j (inl a) (inr b) = absurd (no_grave n a.above a.name (child_is x n i a) (grave_is y n j b))
  one_name x y n i j (inr a) (inl b) = absurd (no_grave n b.above b.name (child_is y n j b) (grave_is x n i a))
  one_name x y n i j (inr a) (inr b) = (a.key_is ∙ sym b.key_is, ap is_point_key b.key_is)

  names_different : AreDifferent (gathered names_of items)
  names_different = gathered_different names_of items s.apart (λ x i. few x.key x.value)
      (λ x y n i j h k. let same = one_name x y n i j (named_by x.key x.value n h) (named_by y.key y.value n k) in
      (AtKey y.key, ap (λ (q : PlainKey). covers q (AtKey y.key)) same.0 ∙ covers_self y.key same.1, covers_self y.key same.1))
    where
      few : (k : PlainKey) (v : PlainValue) → AreDifferent (names_of k v)
      few (ChildKey t j name) (ChildValue t2 j2) = (λ h. h, tt)
      few (GraveKey t j) WaitingValue = (λ h. h, tt)
      few (ChildKey t j name) v = tt
      few (GraveKey t j) v = tt
      few k v = tt

  names_have_objects : (n : NodeId) → IsIn (gathered names_of items) n → IsIn (gathered objects_of items) n
  names_have_objects n h =
      let r = in_gathered names_of items n h in
      let o = named_object r.0 n r.1 (named_by r.0.key r.0.value n r.2) in
      gathered_in objects_of items (keyed (ObjectKey n.store n.id) o.0) n (value_listed items s (ObjectKey n.store n.id) o.0 o.1) (inl refl)

  -- each node has one item that names it
  names_counted : sum_by (λ (x : PlainItem). one (is_naming_key x.key)) items ≤ sum_by (λ (x : PlainItem). one (is_object x.key)) items
  names_counted =
      let a = gathered_long names_of (λ (x : PlainItem). one (is_naming_key x.key)) items (λ x i. naming_one x.key x.value (good_in items s x i).value (alive_in items s x i)) in
      let b = no_more (gathered names_of items) (gathered objects_of items) names_different names_have_objects in
      let d = gathered_short objects_of (λ (x : PlainItem). one (is_object x.key)) items (λ x i. object_one x.key x.value) in
      omega (arith, a, b, d)

-- ---- the blocks that are taken

taken_covers : (k : PlainKey) (v : PlainValue) (n : ℕ) → IsIn (taken_of k v) n → covers k (AtDeviceBlock n) ≡ true
taken_covers (AllocationKey a b) v n h = let w = numbers_within a (b - a) n h in covers_device a b n w.0 (omega (arith, w.0, w.1))
taken_covers (ObjectKey s i) v n h = absurd h
taken_covers (AttributeKey s i name) v n h = absurd h
taken_covers (ExtentKey s i a b) v n h = absurd h
taken_covers (ChildKey s i name) v n h = absurd h
taken_covers (GraveKey s i) v n h = absurd h

module _ (items : List PlainItem) (s : AreStanding items) (live : (block : ℕ) (entry : Entry) → points_in items (AtDeviceBlock block) ≡ Some entry → (node : NodeId) × (n : ℕ) × (device_block (points_in items) node n ≡ Some block)) where
  taken_different : AreDifferent (gathered taken_of items)
  taken_different = gathered_different taken_of items s.apart (λ x i. each x.key x.value)
      (λ x y n i j h k. (AtDeviceBlock n, taken_covers x.key x.value n h, taken_covers y.key y.value n k))
    where
      each : (k : PlainKey) (v : PlainValue) → AreDifferent (taken_of k v)
      each (AllocationKey a b) v = numbers_different a (b - a)
      each (ObjectKey t i) v = tt
      each (AttributeKey t i name) v = tt
      each (ExtentKey t i a b) v = tt
      each (ChildKey t i name) v = tt
      each (GraveKey t i) v = tt

  taken_entry : (k : PlainKey) (v : PlainValue) (n : ℕ) → IsIn items (keyed k v) → Suits k v → is_gone v ≡ false → IsIn (taken_of k v) n → points_in items (AtDeviceBlock n) ≡ Some (ValueEntry TakenValue)
  taken_entry (AllocationKey a b) TakenValue n i h alive m = let w = numbers_within a (b - a) n m in allocation_block items s a b n i w.0 (omega (arith, w.0, w.1))
  taken_entry (AllocationKey a b) GoneValue n i h alive m = absurd (cc alive)
  taken_entry (AllocationKey a b) v n i h alive m = absurd h
  taken_entry (ObjectKey t j) v n i h alive m = absurd m
  taken_entry (AttributeKey t j name) v n i h alive m = absurd m
  taken_entry (ExtentKey t j a b) v n i h alive m = absurd m
  taken_entry (ChildKey t j name) v n i h alive m = absurd m
  taken_entry (GraveKey t j) v n i h alive m = absurd m

  taken_held : (n : ℕ) → IsIn (gathered taken_of items) n → IsIn (gathered held_of items) n
  taken_held n h =
      let r = in_gathered taken_of items n h in
      let e = taken_entry r.0.key r.0.value n r.1 (good_in items s r.0 r.1).value (alive_in items s r.0 r.1) r.2 in
      let l = live n (ValueEntry TakenValue) e in
      let o = block_entry (points_in items (AtFileBlock l.0.store l.0.id l.1)) n l.2 in
      let f = file_block items s l.0.store l.0.id l.1 (BlockEntry n o.0) o.1 in
      let at : n ≡ f.block + (l.1 - f.start) = entry_block n (f.block + (l.1 - f.start)) o.0 _ f.is in
      let low = f.low in
      let high = f.high in
      gathered_in held_of items (keyed (ExtentKey l.0.store l.0.id f.start f.stop) (ExtentValue f.block f.sums)) n f.listed (numbers_have f.block (f.stop - f.start) n (omega (arith, at)) (omega (arith, at, low, high)))

  -- each block that is taken lies in one extent
  blocks_counted : sum_by (λ (x : PlainItem). length (taken_of x.key x.value)) items ≤ sum_by (λ (x : PlainItem). blocks_under x.key) items
  blocks_counted =
      let a = gathered_long taken_of (λ (x : PlainItem). length (taken_of x.key x.value)) items (λ x i. omega arith) in
      let b = no_more (gathered taken_of items) (gathered held_of items) taken_different taken_held in
      let d = gathered_short held_of (λ (x : PlainItem). blocks_under x.key) items (λ x i. held_one x.key x.value) in
      omega (arith, a, b, d)

-- ---- together

pub sizes_stand : StandingSizesLaw
sizes_stand image s tree blocks =
    let t = tree.tree (λ b. []) in
    let named_few = names_counted image.items s t.1.stands t.1.within.grave in
    let taken_few = blocks_counted image.items s blocks.allocated.live in
    let names = kept_sum (λ (x : PlainItem). one (is_naming_key x.key)) (λ (x : PlainItem). one (is_naming_key x.key)) (λ (x : PlainItem). tree_of_key x.key == 1) (λ x e. omega arith) image.items in
    let ranges = kept_sum (λ (x : PlainItem). blocks_in_range x.key) (λ (x : PlainItem). length (taken_of x.key x.value)) (λ (x : PlainItem). tree_of_key x.key == 2) (λ x e. taken_one x.key x.value e) image.items in
    record {
      objects_good = of_one_tree 1 image.items (good_in image.items s);
      allocs_good = of_one_tree 2 image.items (good_in image.items s);
      of_nodes = kept_sum (λ (x : PlainItem). one (is_object x.key)) (λ (x : PlainItem). one (is_object x.key)) (λ (x : PlainItem). tree_of_key x.key == 1) (λ x e. omega arith) image.items;
      of_names = omega (arith, named_few, names);
      of_attributes = kept_sum (λ (x : PlainItem). one (is_attribute x.key)) (λ (x : PlainItem). one (is_attribute x.key)) (λ (x : PlainItem). tree_of_key x.key == 1) (λ x e. omega arith) image.items;
      of_extents = kept_sum (λ (x : PlainItem). blocks_under x.key) (λ (x : PlainItem). blocks_under x.key) (λ (x : PlainItem). tree_of_key x.key == 1) (λ x e. omega arith) image.items;
      of_ranges = omega (arith, taken_few, ranges);
    }

pub new_layers_fit : NewLayersFitLaw
new_layers_fit image s tree blocks = layer_bound_holds _ _ _ _ _ (sizes_stand image s tree blocks)
