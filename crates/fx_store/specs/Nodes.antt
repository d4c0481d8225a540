-- The node of each path, as a finite map.
use Rattle.std.specs.Prelude.{ℕ, List, [], ◌∷◌, Vec, refl}
use Rattle.std.specs.Coded.{Coded, code_by, coded×, coded_ℕ, coded_list}
use Rattle.std.specs.Global.{Global}
use Rattle.std.specs.FinMap as map
use Rattle.fx_plain.specs.Tree.{path_cmp}
use Rattle.fx_namespace.specs.Nodes.{NodeId}

abbrev pub NodeTable : Type 0
NodeTable = map.FinMap path_cmp NodeId

-- the entries in memory, each path as the list of its names
abbrev pub node_entries : {V : Type 0} → List (Vec (List ℕ) Global × V) → List (List (List ℕ) × V)
node_entries [] = []
node_entries (e ∷ es) = (e.0.items, e.1) ∷ node_entries es

abbrev pub table_of : {V : Type 0} → List (Vec (List ℕ) Global × V) → map.FinMap path_cmp V
table_of es = map.from_entries (node_entries es)

abbrev pub node_id_code : Coded NodeId
node_id_code = code_by (ℕ × ℕ) (coded× coded_ℕ coded_ℕ)
    (λ n. (n.store, n.id)) (λ p. record { store = p.0; id = p.1 }) (λ _. refl)

abbrev pub table_code : Coded NodeTable
table_code = map.code (coded_list (coded_list coded_ℕ)) node_id_code
