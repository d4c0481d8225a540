-- The nodes that are gathered are bad, and the least bad node is among them.
use Rattle.std.proofs.Common.{◌≡◌, ◌⊎◌, inl, inr, ℕ, ◌+◌, ◌-◌, ◌*◌, ◌<◌, ◌≤◌, Bool, true, false, cond, List, [], ◌∷◌, ◌++◌, map, get_or, refl, sym, ap, subst, ◌∙◌, arith}
use Rattle.std.specs.Prelude.{Option, Some, None, ◌==◌, ◌&&◌, ◌||◌, not, nat_le, nat_lt, is_some, IsTrue, IfNone, IfSome}
use Rattle.std.specs.List.{flat_map}
use Rattle.std.specs.Ordering.{is_le}
use Rattle.std.proofs.lemmas.Bool.{and_parts, cases_lt, eqb-true, le-leb, leb-true, lt-ltb, ltb-true}
use Rattle.fx_base.specs.declared.block.TheConstants.{BLOCK_BYTES}
use Rattle.fx_item.specs.Item.{PlainItem, PlainKey, ObjectKey, AttributeKey, ExtentKey, ChildKey, GraveKey, AllocationKey, PlainValue, GoneValue, DirectoryValue, FileValue, AttributeValue, ChildValue, WaitingValue, ExtentValue, TakenValue, IsItem, items_of}
use Rattle.fx_item.specs.LockKey.{key_cmp}
use Rattle.fx_item.specs.Look.{ItemMap}
use Rattle.fx_item.specs.Overlay.{AtFileBlock, BlockEntry, Entry}
use Rattle.fx_plain.specs.declared.kind.Kind.{Kind}
use Rattle.fx_namespace.specs.Nodes.{NodeId, Stands, root_node, told_kind}
use Rattle.fx_namespace.specs.Wrong.{IsLeastWrong, IsWrongAt}
use Rattle.fx_nodes.specs.Faults.{IsLeastNode}
use Rattle.fx_nodes.specs.Lists.{IsIn}
use Rattle.fx_nodes.proofs.Lists.{flat_in, in_cases, in_flat, in_left, in_right}
use Rattle.fx_nodes.proofs.Nodes.{up_to_itself, up_to_trans}
use Rattle.fx_nodes.proofs.NothingWrong.{nothing_wrong}
use Rattle.fx_contents.specs.Amiss.{IsLeastAmiss, NamesAmiss, WaitingRoot, EmptyGrave, AttributeOfNone, BlockOutside, BlockOffDisk}
use Rattle.fx_contents.specs.Points.{Points, block_in, device_block, named, value_under}
use Rattle.fx_contents.specs.Standing.{HasObject, IsInFile}
use Rattle.fx_sound.specs.Image.{AreStanding, PlainImage, points_in}
use Rattle.fx_sound.specs.Faults.{HasNoBadNode, IsBadNode}
use Rattle.fx_sound.proofs.First.{node_of}
use Rattle.fx_sound.proofs.Listed.{InExtent, extent_block, file_block, good_in, value_listed, value_stands}
use Rattle.fx_sound.proofs.Owned.{IsHeldBy, held_by}
use Rattle.fx_audit.specs.Nodes.{AreSeen, LeadBadNodes, amiss_by, is_item_amiss, is_kind, is_off_disk, is_past_end, node_under, one_or_none}
use Rattle.fx_audit.proofs.Seen.{seen_all}

-- ---- truth values

or_cases : (a b : Bool) → (a || b) ≡ true → (a ≡ true) ⊎ (b ≡ true)
or_cases true b e = inl refl
or_cases false b e = inr e

or_left : (a b : Bool) → a ≡ true → (a || b) ≡ true
or_left true b e = refl
or_left false b e = absurd (cc)

or_right : (a b : Bool) → b ≡ true → (a || b) ≡ true
or_right true b e = refl
or_right false b e = e

not_true : (b : Bool) → not b ≡ true → b ≡ false
not_true true e = absurd (cc)
not_true false e = refl

in_one : (b : Bool) (x y : NodeId) → IsIn (cond b (x ∷ []) []) y → (b ≡ true) × (x ≡ y)
in_one true x y i = (refl, elim i [ inl e ↦ e | inr f ↦ absurd f ])
in_one false x y i = absurd i

one_in : (b : Bool) (x : NodeId) → b ≡ true → IsIn (cond b (x ∷ []) []) x
one_in b x e = subst (λ c. IsIn (cond c (x ∷ []) []) x) (sym e) (inl refl)

-- ---- the tests, and what they say

no_object : (m : Points) (s i : ℕ) → not (is_kind (value_under m (ObjectKey s i))) ≡ true → HasObject m s i → ⊥
no_object m s i e h =
    let f : is_some (told_kind (value_under m (ObjectKey s i))) ≡ true = ap is_some h.1 in
    let g : is_some (told_kind (value_under m (ObjectKey s i))) ≡ false = not_true (is_kind (value_under m (ObjectKey s i))) e in
    let q : true ≡ false = sym f ∙ g in cc

is_none_kind : (o : Option Kind) → ((kind : Kind) → o ≡ Some kind → ⊥) → not (is_some o) ≡ true
is_none_kind None h = refl
is_none_kind (Some kind) h = absurd (h kind refl)

object_missing : (m : Points) (s i : ℕ) → (HasObject m s i → ⊥) → not (is_kind (value_under m (ObjectKey s i))) ≡ true
object_missing m s i h = is_none_kind (told_kind (value_under m (ObjectKey s i))) (λ kind e. h (kind, e))

not_in_file : (o : Option PlainValue) (n : ℕ) → is_past_end o n ≡ true → (len : ℕ) → o ≡ Some (FileValue len) → n * BLOCK_BYTES < len → ⊥
not_in_file o n e len is l =
    let past : nat_le len (n * BLOCK_BYTES) ≡ true = sym (ap (λ z. is_past_end z n) is) ∙ e in
    let low : len ≤ n * BLOCK_BYTES = leb-true len (n * BLOCK_BYTES) past in
    omega (arith, low, l)

past_end : (o : Option PlainValue) (n last : ℕ) → n ≤ last → ((len : ℕ) → o ≡ Some (FileValue len) → n * BLOCK_BYTES < len → ⊥) → is_past_end o last ≡ true
past_end (Some (FileValue len)) n last l h = le-leb len (last * BLOCK_BYTES) (elim (cases_lt (n * BLOCK_BYTES) len) [
  | inl k ↦ absurd (h len refl k)
  | inr k ↦ omega (arith, k, l)
])
past_end None n last l h = refl
past_end (Some v) n last l h = refl

module _ (image : PlainImage) (s : AreStanding image.items) where
  abbrev gathered : List NodeId
  gathered = flat_map (amiss_by image.ring image.disk (points_in image.items)) image.items

  extent_range : (t j a b block : ℕ) (sums : List ℕ) → IsIn image.items (record { key = ExtentKey t j a b; value = ExtentValue block sums }) → a < b
  extent_range t j a b block sums i = (good_in image.items s (record { key = ExtentKey t j a b; value = ExtentValue block sums }) i).key.2.0

  held_here : (t j a b n block : ℕ) (sums : List ℕ) → IsIn image.items (record { key = ExtentKey t j a b; value = ExtentValue block sums }) → a ≤ n → n < b
      → device_block (points_in image.items) (node_of t j) n ≡ Some (block + (n - a))
  held_here t j a b n block sums i l h = ap block_in (extent_block image.items s t j a b n block sums i l h)

  -- what is amiss by an item is amiss at its node
  item_bad : (k : PlainKey) (v : PlainValue) → IsIn image.items (record { key = k; value = v }) → is_item_amiss image.ring image.disk (points_in image.items) k v ≡ true → IsBadNode image (node_under k)
  item_bad (GraveKey t j) v i e = elim (or_cases ((t == 0) && (j == 0)) (not (is_kind (value_under (points_in image.items) (ObjectKey t j)))) e) [
    | inl a ↦
        let p = and_parts (t == 0) (j == 0) a in
        let store : t ≡ 0 = eqb-true t 0 p.0 in
        let id : j ≡ 0 = eqb-true j 0 p.1 in
        WaitingRoot v (λ d. record { store = store d; id = id d })
        (ap (λ z. value_under (points_in image.items) (GraveKey z 0)) (sym store) ∙ ap (λ z. value_under (points_in image.items) (GraveKey t z)) (sym id) ∙ value_stands image.items s (record { key = GraveKey t j; value = v }) i refl)
    | inr a ↦ EmptyGrave v (value_stands image.items s (record { key = GraveKey t j; value = v }) i refl) (no_object (points_in image.items) t j a)
  ]
  item_bad (AttributeKey t j name) v i e = AttributeOfNone name v (value_stands image.items s (record { key = AttributeKey t j name; value = v }) i refl) (no_object (points_in image.items) t j e)
  item_bad (ExtentKey t j a b) (ExtentValue block sums) i e =
      let range : a < b = extent_range t j a b block sums i in
      elim (or_cases (is_past_end (value_under (points_in image.items) (ObjectKey t j)) (b - 1)) (is_off_disk image.ring image.disk block (b - a)) e) [
        | inl p ↦ BlockOutside (b - 1) (BlockEntry (block + (b - 1 - a)) (get_or sums (b - 1 - a) 0)) (extent_block image.items s t j a b (b - 1) block sums i (omega (arith, range)) (omega (arith, range)))
            (λ inside. not_in_file (value_under (points_in image.items) (ObjectKey t j)) (b - 1) p inside.0 inside.1 inside.2)
        | inr p ↦ elim (or_cases (nat_lt block (image.ring + 2)) (nat_lt image.disk (block + (b - a))) p) [
          | inl q ↦ BlockOffDisk a (block + (a - a)) (held_here t j a b a block sums i (omega arith) range) (inl (let l : block < image.ring + 2 = ltb-true block (image.ring + 2) q in omega (arith, l)))
          | inr q ↦ BlockOffDisk (b - 1) (block + (b - 1 - a)) (held_here t j a b (b - 1) block sums i (omega (arith, range)) (omega (arith, range)))
              (inr (let l : image.disk < block + (b - a) = ltb-true image.disk (block + (b - a)) q in omega (arith, l, range)))
        ]
      ]
  item_bad (ExtentKey t j a b) v i e = absurd (cc e)
  item_bad k v i e = absurd (cc e)

  in_gathered : (k : PlainKey) (v : PlainValue) → IsIn image.items (record { key = k; value = v }) → is_item_amiss image.ring image.disk (points_in image.items) k v ≡ true → IsIn gathered (node_under k)
  in_gathered k v i e = in_flat (amiss_by image.ring image.disk (points_in image.items)) image.items (record { key = k; value = v }) (node_under k) i
      (one_in (is_item_amiss image.ring image.disk (points_in image.items) k v) (node_under k) e)

  gathered_bad : (node : NodeId) → IsIn gathered node → IsBadNode image node
  gathered_bad node i =
      let x = flat_in (amiss_by image.ring image.disk (points_in image.items)) image.items node i in
      let o = in_one (is_item_amiss image.ring image.disk (points_in image.items) x.0.key x.0.value) (node_under x.0.key) node x.2 in
      subst (IsBadNode image) o.1 (item_bad x.0.key x.0.value x.1 o.0)

  module _ (table : ItemMap) (seen : AreSeen (points_in image.items) image.items table) (found : Option NodeId)
      (none : IfNone found (Stands table)) (some : IfSome found (IsLeastWrong table)) where
    same : table ≡ named (points_in image.items)
    same = seen_all image.items s table seen

    here : (node : NodeId) → IsIn gathered node → (first : NodeId) × IsIn (gathered ++ one_or_none found) first × IsTrue (is_le (key_cmp first node))
    here node i = (node, in_left gathered (one_or_none found) node i, up_to_itself node)

    sound : (o : Option NodeId) → IfSome o (IsLeastWrong table) → (node : NodeId) → IsIn (one_or_none o) node → IsBadNode image node
    sound None h node i = absurd i
    sound (Some first) h node (inl e) = subst (IsBadNode image) e (NamesAmiss (subst (λ (z : ItemMap). IsLeastWrong z first) same h).wrong)
    sound (Some first) h node (inr f) = absurd f

    by_names : (o : Option NodeId) → IfNone o (Stands table) → IfSome o (IsLeastWrong table) → (node : NodeId) → IsBadNode image node → IsWrongAt (named (points_in image.items)) node
        → (first : NodeId) × IsIn (gathered ++ one_or_none o) first × IsTrue (is_le (key_cmp first node))
    by_names None h k node bad wrong = absurd (nothing_wrong (named (points_in image.items)) (subst Stands same h) node wrong)
    by_names (Some first) h k node bad wrong = (first, in_right gathered (first ∷ []) first (inl refl), (subst (λ (z : ItemMap). IsLeastWrong z first) same k).least node wrong)

    whole : (node : NodeId) → IsBadNode image node → (first : NodeId) × IsIn (gathered ++ one_or_none found) first × IsTrue (is_le (key_cmp first node))
    whole node (NamesAmiss wrong) = by_names found none some node (NamesAmiss wrong) wrong
    whole node (WaitingRoot v is e) = here node (subst (IsIn gathered) (sym is) (in_gathered (GraveKey 0 0) v (value_listed image.items s (GraveKey 0 0) v e) refl))
    whole node (EmptyGrave v e lacks) = here node (in_gathered (GraveKey node.store node.id) v (value_listed image.items s (GraveKey node.store node.id) v e)
        (or_right ((node.store == 0) && (node.id == 0)) (not (is_kind (value_under (points_in image.items) (ObjectKey node.store node.id)))) (object_missing (points_in image.items) node.store node.id lacks)))
    whole node (AttributeOfNone name v e lacks) = here node (in_gathered (AttributeKey node.store node.id name) v (value_listed image.items s (AttributeKey node.store node.id name) v e) (object_missing (points_in image.items) node.store node.id lacks))
    whole node (BlockOutside n entry e lacks) =
        let x = file_block image.items s node.store node.id n entry e in
        here node (in_gathered (ExtentKey node.store node.id x.start x.stop) (ExtentValue x.block x.sums) x.listed
        (or_left (is_past_end (value_under (points_in image.items) (ObjectKey node.store node.id)) (x.stop - 1)) (is_off_disk image.ring image.disk x.block (x.stop - x.start))
        (past_end (value_under (points_in image.items) (ObjectKey node.store node.id)) n (x.stop - 1) (omega (arith, x.high)) (λ len is l. lacks (len, is, l)))))
    whole node (BlockOffDisk n b e off) =
        let x = held_by image.items s node n b e in
        here node (in_gathered (ExtentKey node.store node.id x.extent.0 x.extent.1) (ExtentValue x.block x.sums) x.listed
        (or_right (is_past_end (value_under (points_in image.items) (ObjectKey node.store node.id)) (x.extent.1 - 1)) (is_off_disk image.ring image.disk x.block (x.extent.1 - x.extent.0))
        (elim off [
          | inl l ↦ or_left (nat_lt x.block (image.ring + 2)) (nat_lt image.disk (x.block + (x.extent.1 - x.extent.0))) (lt-ltb x.block (image.ring + 2) (omega (arith, l, x.is)))
          | inr l ↦ or_right (nat_lt x.block (image.ring + 2)) (nat_lt image.disk (x.block + (x.extent.1 - x.extent.0))) (lt-ltb image.disk (x.block + (x.extent.1 - x.extent.0)) (omega (arith, l, x.is, x.low, x.high)))
        ])))

    pub leads : LeadBadNodes image (flat_map (amiss_by image.ring image.disk (points_in image.items)) image.items ++ one_or_none found)
    leads = record {
      sound = λ node i. elim (in_cases gathered (one_or_none found) node i) [ inl a ↦ gathered_bad node a | inr a ↦ sound found some node a ];
      whole = whole;
    }

-- ---- the least of them

pub least_bad : (image : PlainImage) (nodes : List NodeId) (found : Option NodeId) → LeadBadNodes image nodes → IsLeastNode nodes found → IfSome found (IsLeastAmiss image.ring image.disk (points_in image.items))
least_bad image nodes None l h = tt
least_bad image nodes (Some node) l h = record {
  amiss = l.sound node h.0;
  least = λ other bad. let w = l.whole other bad in up_to_trans node w.0 other (h.1 w.0 w.1) w.2;
}

pub none_bad : (image : PlainImage) (nodes : List NodeId) (found : Option NodeId) → LeadBadNodes image nodes → IsLeastNode nodes found → IfNone found (HasNoBadNode image)
none_bad image nodes (Some node) l h = tt
none_bad image nodes None l h = λ node bad. let w = l.whole node bad in subst (λ xs. IsIn xs w.0) h w.1
