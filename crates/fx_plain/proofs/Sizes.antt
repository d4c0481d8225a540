-- The entries of the map in memory are those of the tree.
use Rattle.std.proofs.Common.{◌≡◌, ℕ, List, [], ◌∷◌, refl, sym, ap, ◌∙◌, length, suc}
use Rattle.std.specs.Prelude.{map}
use Rattle.std.specs.declared.cmp.Ordering.TheVariants.{Less}
use Rattle.std.specs.List.{AllByRecursion}
use Rattle.std.specs.List.Sorted.{IsStrictlySortedBy}
use Rattle.std.specs.Map.{keys_of, values_of}
use Rattle.std.specs.FinMap as finite
use Rattle.std.specs.FinMap.Entries.{put, by_order}
use Rattle.fx_plain.specs.Node.{Node}
use Rattle.fx_item.specs.Name.{name_cmp}
use Rattle.fx_plain.specs.Kinds.{seen_node}
use Rattle.fx_plain.specs.declared.node.Kind.{Kind}
use Rattle.fx_plain.specs.declared.node.Kind.TheVariants.{Dir, File}
use Rattle.fx_plain.specs.Tree.{attribute_count, path_cmp}
use Rattle.fx_plain.specs.Memory.{path_entries, tree_of}
use Rattle.fx_plain.proofs.Paths.{paths_total}
use Rattle.fx_plain.proofs.Views.{Entries, Key, key_cmp}

put_first : (k : Key) (v : Node) (es : Entries) → AllByRecursion (λ y. key_cmp k y ≡ Less) (keys_of es) → put path_cmp k.items v (path_entries es) ≡ (k.items, v) ∷ path_entries es
put_first k v [] h = refl
put_first k v (e ∷ es) h = ap (λ o. by_order o ((k.items, v) ∷ path_entries (e ∷ es)) ((e.0.items, v) ∷ path_entries es) ((e.0.items, e.1) ∷ put path_cmp k.items v (path_entries es))) h.0

no_entries : {A : Type 0} (xs : List A) → length xs ≡ 0 → xs ≡ []
no_entries [] e = refl
no_entries (x ∷ xs) e = absurd (cc)

pub entries-tree_of : (es : Entries) → IsStrictlySortedBy key_cmp (keys_of es) → finite.entries (tree_of es) ≡ path_entries es
unfolding IsStrictlySortedBy
entries-tree_of [] h = no_entries _ (sym (finite.len-entries (tree_of [])) ∙ finite.len-empty path_cmp Node)
entries-tree_of (e ∷ es) h =
    finite.entries-insert paths_total (tree_of es) e.0.items e.1
    ∙ ap (put path_cmp e.0.items e.1) (entries-tree_of es h.1)
    ∙ put_first e.0 e.1 es h.0

length-path_entries : (es : Entries) → length (path_entries es) ≡ length es
length-path_entries [] = refl
length-path_entries (e ∷ es) = ap suc (length-path_entries es)

values-path_entries : (es : Entries) → map (λ e. e.1) (path_entries es) ≡ values_of es
values-path_entries [] = refl
values-path_entries (e ∷ es) = ap (λ vs. e.1 ∷ vs) (values-path_entries es)

-- there are as many entries as nodes
pub len-tree_of : (es : Entries) → IsStrictlySortedBy key_cmp (keys_of es) → finite.len (tree_of es) ≡ length es
len-tree_of es h = finite.len-entries (tree_of es) ∙ ap length (entries-tree_of es h) ∙ length-path_entries es

-- the nodes are the values
pub values-tree_of : (es : Entries) → IsStrictlySortedBy key_cmp (keys_of es) → finite.values (tree_of es) ≡ values_of es
values-tree_of es h = ap (map (λ e. e.1)) (entries-tree_of es h) ∙ values-path_entries es

-- no node in memory has attributes
pub attribute_count-seen_node : (kind : Kind) → 0 ≡ attribute_count (seen_node kind)
attribute_count-seen_node Dir = sym (finite.len-empty name_cmp (List ℕ))
attribute_count-seen_node (File contents) = sym (finite.len-empty name_cmp (List ℕ))
