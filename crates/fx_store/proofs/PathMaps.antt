-- A sorted map from paths in memory, and the finite map that it is seen as.
use Rattle.std.proofs.Common.{◌≡◌, ℕ, List, [], ◌∷◌, refl, sym, ap, ◌∙◌, cond}
use Rattle.std.specs.Prelude.{Some, Vec}
use Rattle.std.specs.Global.{Global}
use Rattle.std.specs.declared.cmp.Ordering.{Ordering}
use Rattle.std.specs.declared.cmp.Ordering.TheVariants.{Less, Equal, Greater}
use Rattle.std.specs.Ordering.{eq_by_cmp, match_ordering}
use Rattle.std.specs.FinMap.{get, insert, get-from_entries, get-insert, same_map}
use Rattle.std.specs.FinMap.Entries.{find, put, find-put, by_order}
use Rattle.std.specs.BTreeMap.{insert_entry, is_at}
use Rattle.std.specs.Map.{lookup}
use Rattle.fx_plain.specs.Tree.{path_cmp}
use Rattle.fx_plain.proofs.Paths.{paths_total, paths_exact}
use Rattle.fx_store.specs.Nodes.{node_entries, table_of}

abbrev pub Key : Type 0
Key = Vec (List ℕ) Global

abbrev pub key_cmp : Key → Key → Ordering
key_cmp x y = path_cmp x.items y.items

module _ (V : Type 0) where
  find-by_path : (es : List (Key × V)) (q : List (List ℕ)) → find path_cmp q (node_entries es) ≡ lookup (is_at (λ k. path_cmp q k.items)) es
  find-by_path [] q = refl
  find-by_path (e ∷ es) q = ap (cond (is_at (path_cmp q) e.0.items) (Some e.1)) (find-by_path es q)

  -- what the finite map has at a path
  pub get-table_of : (es : List (Key × V)) (q : List (List ℕ)) → get (table_of es) q ≡ lookup (is_at (λ k. path_cmp q k.items)) es
  get-table_of es q = get-from_entries paths_total (node_entries es) q ∙ find-by_path es q

  by_path-insert_entry : (es : List (Key × V)) (k : Key) (v : V) → node_entries (insert_entry key_cmp es k v) ≡ put path_cmp k.items v (node_entries es)
  by_path-insert_entry [] k v = refl
  by_path-insert_entry (e ∷ es) k v =
      elim (path_cmp k.items e.0.items) as (λ o. node_entries (match_ordering o ((k, v) ∷ e ∷ es) ((e.0, v) ∷ es) (e ∷ insert_entry key_cmp es k v)) ≡ by_order o ((k.items, v) ∷ node_entries (e ∷ es)) ((e.0.items, v) ∷ node_entries es) ((e.0.items, e.1) ∷ put path_cmp k.items v (node_entries es))) [
        | Less ↦ refl
        | Equal ↦ refl
        | Greater ↦ ap (λ r. (e.0.items, e.1) ∷ r) (by_path-insert_entry es k v)
      ]

  -- an insertion in memory is one into the finite map
  pub table_of-insert_entry : (es : List (Key × V)) (k : Key) (v : V) → table_of (insert_entry key_cmp es k v) ≡ insert (table_of es) k.items v
  table_of-insert_entry es k v = same_map paths_total paths_exact _ _ (λ q.
      get-from_entries paths_total _ q
      ∙ ap (find path_cmp q) (by_path-insert_entry es k v)
      ∙ find-put path_cmp paths_total q k.items v (node_entries es)
      ∙ sym (get-insert paths_total (table_of es) k.items v q ∙ ap (cond (eq_by_cmp path_cmp q k.items) (Some v)) (get-from_entries paths_total (node_entries es) q)))
