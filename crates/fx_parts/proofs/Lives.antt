-- What stands, with one list of items more: where it stays, and which nodes it is about.
use Rattle.std.proofs.Common.{◌≡◌, ◌≢◌, ◌⊎◌, inl, inr, ℕ, Bool, true, false, cond, List, ◌∷◌, Option, Some, None, refl, sym, ap, ◌∙◌}
use Rattle.fx_item.specs.Item.{PlainKey, ObjectKey, ChildKey, PlainValue, PlainItem}
use Rattle.fx_item.specs.Look.{ItemMap, after, is_point_key, value_of_entry}
use Rattle.fx_item.specs.Overlay.{Point, AtKey, Entry, or_older, overlay, says, standing}
use Rattle.std.specs.Prelude.{map}
use Rattle.fx_item.proofs.Overlays.{range_silent}
use Rattle.fx_plain.specs.declared.kind.Kind.{Kind}
use Rattle.fx_plain.specs.declared.kind.Kind.TheVariants.{Dir}
use Rattle.fx_namespace.specs.Nodes.{NodeId, is_root, kind_of, object_kind, root_node, told_kind}
use Rattle.fx_namespace.proofs.Walks.{root_not, same_node}
use Rattle.fx_parts.specs.Live.{AgreeAt, IsNodeThere, IsUnusedNode, LiveMap, laid_over, live_in_lists, name_map}
use Rattle.fx_parts.specs.Plans.{put_kind}

-- a list before others
pub laid_first : (items : List PlainItem) (lists : List (List PlainItem)) (point : Point) → live_in_lists (items ∷ lists) point ≡ laid_over items (live_in_lists lists) point
laid_first items lists point = by (says items point)
  where
    by : (o : Option (Option Entry)) → standing (or_older o (overlay (map says lists) point)) ≡ elim o [ Some entry ↦ entry | None ↦ standing (overlay (map says lists) point) ]
    by None = refl
    by (Some entry) = refl

-- the map of point keys after a list is that list after the map
pub names_after : (items : List PlainItem) (live : LiveMap) (key : PlainKey) → name_map (laid_over items live) key ≡ after (name_map live) items key
names_after items live key = by_kind (is_point_key key) refl
  where
    word : (o : Option (Option Entry)) → (let a : Option PlainValue = value_of_entry (elim o [ Some entry ↦ entry | None ↦ live (AtKey key) ]) in a) ≡ elim o [ Some entry ↦ value_of_entry entry | None ↦ value_of_entry (live (AtKey key)) ]
    word None = refl
    word (Some e) = refl

    by_kind : (b : Bool) → is_point_key key ≡ b → name_map (laid_over items live) key ≡ after (name_map live) items key
    by_kind true h =
        ap (λ b. cond b (value_of_entry (laid_over items live (AtKey key))) None) h ∙ word (says items (AtKey key))
        ∙ ap (λ z. elim (says items (AtKey key)) [ Some entry ↦ value_of_entry entry | None ↦ z ]) (sym (ap (λ b. cond b (value_of_entry (live (AtKey key))) None) h))
    by_kind false h =
        ap (λ b. cond b (value_of_entry (laid_over items live (AtKey key))) None) h
        ∙ sym (ap (λ b. cond b (value_of_entry (live (AtKey key))) None) h)
        ∙ sym (ap (λ o. elim o [ Some entry ↦ value_of_entry entry | None ↦ name_map live key ]) (range_silent items key h))

-- what stands under a key after a list before others
pub names_first : (items : List PlainItem) (lists : List (List PlainItem)) (key : PlainKey) → name_map (live_in_lists (items ∷ lists)) key ≡ after (name_map (live_in_lists lists)) items key
names_first items lists key = ap (λ o. cond (is_point_key key) (value_of_entry o) None) (laid_first items lists (AtKey key)) ∙ names_after items (live_in_lists lists) key

-- what a list says nothing of stays
pub laid_silent : (items : List PlainItem) (live : LiveMap) (point : Point) → says items point ≡ None → laid_over items live point ≡ live point
laid_silent items live point e = ap (λ o. let a : Option Entry = elim o [ Some entry ↦ entry | None ↦ live point ] in a) e

-- a list says something of a point, or it stays
pub said_or_same : (items : List PlainItem) (live : LiveMap) (point : Point) → (says items point ≢ None) ⊎ (laid_over items live point ≡ live point)
said_or_same items live point = by (says items point) refl
  where
    some_none : (e : Option Entry) → (let a : Option (Option Entry) = Some e in a ≡ None) → ⊥
    some_none e h = cc

    by : (o : Option (Option Entry)) → says items point ≡ o → (says items point ≢ None) ⊎ (laid_over items live point ≡ live point)
    by None e = inr (laid_silent items live point e)
    by (Some entry) e = inl (λ h. some_none entry (sym e ∙ h))

-- ---- nodes

pub no_kind : (kind : Kind) → (let a : Option Kind = None in a ≡ Some kind) → ⊥
no_kind kind e = cc

-- a list says something of an Object, whose kind is then the one that it puts; or it stays, and the
-- list puts none
pub put_or_same : (m : ItemMap) (items : List PlainItem) (node : NodeId)
    → ((says items (AtKey (ObjectKey node.store node.id)) ≢ None) × (object_kind (after m items) node ≡ put_kind items node))
    ⊎ ((object_kind (after m items) node ≡ object_kind m node) × (put_kind items node ≡ None))
put_or_same m items node = by (says items (AtKey (ObjectKey node.store node.id))) refl
  where
    some_none : (e : Option Entry) → (let a : Option (Option Entry) = Some e in a ≡ None) → ⊥
    some_none e h = cc

    kind_after : Option PlainValue → Option (Option Entry) → Option Kind
    kind_after old o = told_kind (elim o [ Some entry ↦ value_of_entry entry | None ↦ old ])

    by : (o : Option (Option Entry)) → says items (AtKey (ObjectKey node.store node.id)) ≡ o
        → ((says items (AtKey (ObjectKey node.store node.id)) ≢ None) × (object_kind (after m items) node ≡ put_kind items node))
        ⊎ ((object_kind (after m items) node ≡ object_kind m node) × (put_kind items node ≡ None))
    by None e = inr (ap (kind_after (m (ObjectKey node.store node.id))) e, ap (kind_after None) e)
    by (Some entry) e = inl ((λ h. some_none entry (sym e ∙ h)), ap (kind_after (m (ObjectKey node.store node.id))) e ∙ sym (ap (kind_after None) e))

-- what stands under the key of an Object
object_at : LiveMap → NodeId → Option Entry
object_at live node = live (AtKey (ObjectKey node.store node.id))

kind_by : (node : NodeId) → Option Entry → Option Kind
kind_by node o = cond (is_root node) (Some Dir) (told_kind (value_of_entry o))

-- a node that two agree at is of one kind in both
pub kind_agrees : (m n : LiveMap) (node : NodeId) → AgreeAt node m n → kind_of (name_map n) node ≡ kind_of (name_map m) node
kind_agrees m n node agree = ap (λ o. cond (is_root node) (Some Dir) (told_kind (value_of_entry o))) (agree (AtKey (ObjectKey node.store node.id)) refl)

pub object_agrees : (m n : LiveMap) (node : NodeId) → AgreeAt node m n → object_kind (name_map n) node ≡ object_kind (name_map m) node
object_agrees m n node agree = ap (λ o. told_kind (value_of_entry o)) (agree (AtKey (ObjectKey node.store node.id)) refl)

pub entry_agrees : (m n : LiveMap) (node : NodeId) (name : List ℕ) → AgreeAt node m n → name_map n (ChildKey node.store node.id name) ≡ name_map m (ChildKey node.store node.id name)
entry_agrees m n node name agree = ap value_of_entry (agree (AtKey (ChildKey node.store node.id name)) refl)

-- and there in both
pub there_agrees : (m n : LiveMap) (node : NodeId) → AgreeAt node m n → IsNodeThere m node → IsNodeThere n node
there_agrees m n node agree there = (there.0, kind_agrees m n node agree ∙ there.1)

-- a node with no item that is there is the root
pub unused_there : (m : LiveMap) (node : NodeId) → IsUnusedNode m node → IsNodeThere m node → node ≡ root_node
unused_there m node unused there = by (same_node node root_node)
  where
    none_some : (kind : Kind) → (let a : Option Kind = None in a ≡ Some kind) → ⊥
    none_some kind e = cc

    by : (node ≡ root_node) ⊎ (node ≢ root_node) → node ≡ root_node
    by (inl e) = e
    by (inr ne) = absurd (none_some there.0 (
        sym (ap (λ b. cond b (Some Dir) (told_kind (value_of_entry (m (AtKey (ObjectKey node.store node.id)))))) (root_not node ne)
        ∙ ap (λ o. told_kind (value_of_entry o)) (unused (AtKey (ObjectKey node.store node.id)) refl)) ∙ there.1))
