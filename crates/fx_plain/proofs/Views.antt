-- The map in memory and the tree that it is seen as.
use Rattle.std.proofs.Common.{◌≡◌, ℕ, List, [], ◌∷◌, refl, sym, ap, subst, ◌∙◌, cond, true, false}
use Rattle.std.specs.Prelude.{Some, Vec}
use Rattle.std.specs.Global.{Global}
use Rattle.std.specs.declared.cmp.Ordering.{Ordering}
use Rattle.std.specs.declared.cmp.Ordering.TheVariants.{Less, Equal, Greater}
use Rattle.std.specs.Ordering.{eq_by_cmp, is_eq, match_ordering}
use Rattle.std.specs.Cmp.{eq_by_cmp_equiv}
use Rattle.std.specs.FinMap.{get, insert, get-from_entries, get-insert, same_map}
use Rattle.std.specs.FinMap.Entries.{find, put, find-put, by_order}
use Rattle.std.specs.BTreeMap.{insert_entry, is_at}
use Rattle.std.specs.Map.{lookup, set_value}
use Rattle.std.specs.Option.{IsSome}
use Rattle.std.proofs.lemmas.Map.{lookup-set_value}
use Rattle.fx_plain.specs.Node.{Node}
use Rattle.fx_plain.specs.Tree.{Tree, path_cmp}
use Rattle.fx_plain.specs.Memory.{path_entries, tree_of}
use Rattle.fx_plain.proofs.Paths.{paths_total, paths_exact}

abbrev pub Key : Type 0
Key = Vec (List ℕ) Global

abbrev pub Entries : Type 0
Entries = List (Key × Node)

abbrev pub key_cmp : Key → Key → Ordering
key_cmp x y = path_cmp x.items y.items

find-path_entries : (es : Entries) (q : List (List ℕ)) → find path_cmp q (path_entries es) ≡ lookup (is_at (λ k. path_cmp q k.items)) es
find-path_entries [] q = refl
find-path_entries (e ∷ es) q = ap (cond (is_at (path_cmp q) e.0.items) (Some e.1)) (find-path_entries es q)

-- what the tree has at a path
pub get-tree_of : (es : Entries) (q : List (List ℕ)) → get (tree_of es) q ≡ lookup (is_at (λ k. path_cmp q k.items)) es
get-tree_of es q = get-from_entries paths_total (path_entries es) q ∙ find-path_entries es q

path_entries-insert_entry : (es : Entries) (k : Key) (v : Node) → path_entries (insert_entry key_cmp es k v) ≡ put path_cmp k.items v (path_entries es)
path_entries-insert_entry [] k v = refl
path_entries-insert_entry (e ∷ es) k v =
    elim (path_cmp k.items e.0.items) as (λ o. path_entries (match_ordering o ((k, v) ∷ e ∷ es) ((e.0, v) ∷ es) (e ∷ insert_entry key_cmp es k v)) ≡ by_order o ((k.items, v) ∷ path_entries (e ∷ es)) ((e.0.items, v) ∷ path_entries es) ((e.0.items, e.1) ∷ put path_cmp k.items v (path_entries es))) [
      | Less ↦ refl
      | Equal ↦ refl
      | Greater ↦ ap (λ r. (e.0.items, e.1) ∷ r) (path_entries-insert_entry es k v)
    ]

-- an insertion into the map is one into the tree
pub tree_of-insert_entry : (es : Entries) (k : Key) (v : Node) → tree_of (insert_entry key_cmp es k v) ≡ insert (tree_of es) k.items v
tree_of-insert_entry es k v = same_map paths_total paths_exact _ _ (λ q.
    get-from_entries paths_total _ q
    ∙ ap (find path_cmp q) (path_entries-insert_entry es k v)
    ∙ find-put path_cmp paths_total q k.items v (path_entries es)
    ∙ sym (get-insert paths_total (tree_of es) k.items v q ∙ ap (cond (eq_by_cmp path_cmp q k.items) (Some v)) (get-from_entries paths_total (path_entries es) q)))

path_entries-set_value : (es : Entries) (p : List (List ℕ)) (w : Node) → path_entries (set_value (is_at (λ k. path_cmp p k.items)) es w) ≡ set_value (is_at (path_cmp p)) (path_entries es) w
path_entries-set_value [] p w = refl
path_entries-set_value (e ∷ es) p w =
    elim (is_at (path_cmp p) e.0.items) as (λ b. path_entries (cond b ((e.0, w) ∷ es) (e ∷ set_value (is_at (λ k. path_cmp p k.items)) es w)) ≡ cond b ((e.0.items, w) ∷ path_entries es) ((e.0.items, e.1) ∷ set_value (is_at (path_cmp p)) (path_entries es) w)) [
      | true ↦ refl
      | false ↦ ap (λ r. (e.0.items, e.1) ∷ r) (path_entries-set_value es p w)
    ]

find_lookup : (es : List (List (List ℕ) × Node)) (q : List (List ℕ)) → find path_cmp q es ≡ lookup (is_at (path_cmp q)) es
find_lookup [] q = refl
find_lookup (e ∷ es) q = ap (cond (is_at (path_cmp q) e.0) (Some e.1)) (find_lookup es q)

-- a new value for a key that is there is an insertion into the tree
pub tree_of-set_value : (es : Entries) (p : List (List ℕ)) (w : Node) → IsSome (lookup (is_at (λ k. path_cmp p k.items)) es) → tree_of (set_value (is_at (λ k. path_cmp p k.items)) es w) ≡ insert (tree_of es) p w
tree_of-set_value es p w h =
    let laws = eq_by_cmp_equiv paths_total in
    let there : IsSome (lookup (is_at (path_cmp p)) (path_entries es)) = subst IsSome (sym (find-path_entries es p) ∙ find_lookup (path_entries es) p) h in
    same_map paths_total paths_exact _ _ (λ q.
    get-from_entries paths_total _ q
    ∙ ap (find path_cmp q) (path_entries-set_value es p w)
    ∙ find_lookup _ q
    ∙ lookup-set_value laws (is_at (path_cmp p)) (λ x y e. laws.congr p x y e) q w (path_entries es) there
    ∙ ap (λ b. cond b (Some w) (lookup (is_at (path_cmp q)) (path_entries es))) (laws.symm p q)
    ∙ sym (get-insert paths_total (tree_of es) p w q ∙ ap (cond (eq_by_cmp path_cmp q p) (Some w)) (get-from_entries paths_total (path_entries es) q ∙ find_lookup (path_entries es) q)))

-- an insertion of what lies at the path changes nothing
pub insert_same : (tree : Tree) (p : List (List ℕ)) (w : Node) → get tree p ≡ Some w → insert tree p w ≡ tree
insert_same tree p w h =
    same_map paths_total paths_exact _ _ (λ q. get-insert paths_total tree p w q ∙ at_path q (path_cmp q p) refl)
  where
    at_path : (q : List (List ℕ)) (o : Ordering) → path_cmp q p ≡ o → cond (is_eq o) (Some w) (get tree q) ≡ get tree q
    at_path q Less e = refl
    at_path q Equal e = sym h ∙ ap (get tree) (sym (paths_exact q p e))
    at_path q Greater e = refl
