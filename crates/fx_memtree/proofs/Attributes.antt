-- The attributes of a node in memory.
use Rattle.std.proofs.Common.{◌≡◌, ℕ, suc, List, [], ◌∷◌, refl, sym, ap, ◌∙◌, cond, Bool, true, false, length}
use Rattle.std.specs.Prelude.{Option, None, Some}
use Rattle.std.specs.Cmp.{eq_by_cmp_equiv}
use Rattle.std.specs.declared.cmp.Ordering.TheVariants.{Less}
use Rattle.std.specs.Ordering.{eq_by_cmp, is_eq}
use Rattle.std.specs.List.{AllByRecursion}
use Rattle.std.specs.List.Sorted.{IsStrictlySortedBy}
use Rattle.std.specs.Map.{lookup, keys_of}
use Rattle.std.specs.BTreeMap.{is_at}
use Rattle.std.specs.FinMap as finite
use Rattle.std.specs.FinMap.Entries.{find, put, by_order}
use Rattle.fx_item.specs.Name.{name_cmp}
use Rattle.fx_plain.specs.Node.{Attributes}
use Rattle.fx_plain.specs.Node as seen
use Rattle.fx_plain.specs.Tree.{attribute_count}
use Rattle.fx_plain.proofs.Children.{names_total, names_exact}
use Rattle.fx_contents.specs.Marks.{marked_node, with_attribute}
use Rattle.fx_steps.specs.Rows.{attributes_of_node}
use Rattle.fx_memtree.specs.Kinds.{node_in}
use Rattle.fx_memtree.specs.declared.node.Kind.{Kind}
use Rattle.fx_memtree.specs.declared.node.Kind.TheVariants.{Dir, File}

abbrev pub Texts : Type 0
Texts = List (List ℕ × List ℕ)

abbrev attributes_in : Texts → Attributes
attributes_in es = finite.from_entries es

find_lookup : (es : Texts) (q : List ℕ) → find name_cmp q es ≡ lookup (is_at (name_cmp q)) es
find_lookup [] q = refl
find_lookup (e ∷ es) q = ap (cond (is_at (name_cmp q) e.0) (Some e.1)) (find_lookup es q)

get-attributes : (es : Texts) (q : List ℕ) → finite.get (attributes_in es) q ≡ lookup (is_at (name_cmp q)) es
get-attributes es q = finite.get-from_entries names_total es q ∙ find_lookup es q

attributes-node_in : (kind : Kind) (es : Texts) → attributes_in es ≡ attributes_of_node (node_in kind es)
attributes-node_in Dir es = refl
attributes-node_in (File contents) es = refl

-- the text of an attribute
pub told : (kind : Kind) (es : Texts) (name : List ℕ) (node : seen.Node) → node_in kind es ≡ node → lookup (is_at (name_cmp name)) es ≡ finite.get (attributes_of_node node) name
told kind es name node is = sym (get-attributes es name) ∙ ap (λ (a : Attributes). finite.get a name) (attributes-node_in kind es ∙ ap attributes_of_node is)

put_first : (k : List ℕ) (v : List ℕ) (es : Texts) → AllByRecursion (λ y. name_cmp k y ≡ Less) (keys_of es) → put name_cmp k v es ≡ (k, v) ∷ es
put_first k v [] h = refl
put_first k v (e ∷ es) h = ap (λ o. by_order o ((k, v) ∷ e ∷ es) ((e.0, v) ∷ es) (e ∷ put name_cmp k v es)) h.0

no_entries : {A : Type 0} (xs : List A) → length xs ≡ 0 → xs ≡ []
no_entries [] e = refl
no_entries (x ∷ xs) e = absurd (cc)

entries-attributes : (es : Texts) → IsStrictlySortedBy name_cmp (keys_of es) → finite.entries (attributes_in es) ≡ es
unfolding IsStrictlySortedBy
entries-attributes [] h = no_entries _ (sym (finite.len-entries (attributes_in [])) ∙ finite.len-empty name_cmp (List ℕ))
entries-attributes (e ∷ es) h =
    finite.entries-insert names_total (attributes_in es) e.0 e.1
    ∙ ap (put name_cmp e.0 e.1) (entries-attributes es h.1)
    ∙ put_first e.0 e.1 es h.0

count-node_in : (kind : Kind) (es : Texts) → attribute_count (node_in kind es) ≡ finite.len (attributes_in es)
count-node_in Dir es = refl
count-node_in (File contents) es = refl

-- how many there are
pub counted : (kind : Kind) (es : Texts) (node : seen.Node) → IsStrictlySortedBy name_cmp (keys_of es) → node_in kind es ≡ node → length es ≡ attribute_count node
counted kind es node sorted is =
    sym (finite.len-entries (attributes_in es) ∙ ap length (entries-attributes es sorted))
    ∙ sym (count-node_in kind es) ∙ ap attribute_count is

marked-node_in : (kind : Kind) (old new : Texts) (name : List ℕ) (text : Option (List ℕ)) → attributes_in new ≡ with_attribute name text (attributes_in old) → node_in kind new ≡ marked_node name text (node_in kind old)
marked-node_in Dir old new name text e = ap seen.Dir e
marked-node_in (File contents) old new name text e = ap (seen.File contents.value) e

-- one attribute is set or taken away
abbrev pub Changed : Texts → Texts → List ℕ → Option (List ℕ) → Type 0
Changed old new name text = (q : List ℕ) → lookup (is_at (name_cmp q)) new ≡ cond (is_at (name_cmp name) q) text (lookup (is_at (name_cmp q)) old)

changed_attributes : (old new : Texts) (name : List ℕ) (text : Option (List ℕ)) → Changed old new name text → attributes_in new ≡ with_attribute name text (attributes_in old)
changed_attributes old new name None h = finite.same_map names_total names_exact _ _ (λ q.
    get-attributes new q ∙ h q
    ∙ (λ i. cond ((eq_by_cmp_equiv names_total).symm name q i) None (sym (get-attributes old q) i))
    ∙ sym (finite.get-remove names_total (attributes_in old) name q))
changed_attributes old new name (Some text) h = finite.same_map names_total names_exact _ _ (λ q.
    get-attributes new q ∙ h q
    ∙ (λ i. cond ((eq_by_cmp_equiv names_total).symm name q i) (Some text) (sym (get-attributes old q) i))
    ∙ sym (finite.get-insert names_total (attributes_in old) name text q))

pub marked_by : (kind : Kind) (old new : Texts) (name : List ℕ) (text : Option (List ℕ)) (node : seen.Node) → node_in kind old ≡ node → Changed old new name text → node_in kind new ≡ marked_node name text node
marked_by kind old new name text node is h = marked-node_in kind old new name text (changed_attributes old new name text h) ∙ ap (marked_node name text) is
