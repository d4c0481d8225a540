-- How the values of the tree are told apart.
use Rattle.std.specs.Prelude.{◌≡◌, ◌⊎◌, ℕ, List, refl}
use Rattle.std.specs.Coded.{Coded, code_by, coded×, coded⊎, coded_ℕ, coded_list}
use Rattle.std.proofs.Common.{inl, inr}
use Rattle.std.specs.FinMap as map
use Rattle.std.specs.FinSet as set
use Rattle.fx_plain.specs.Node.{Attributes, Blocks, Contents, Node, Dir, File}
use Rattle.fx_plain.specs.Tree.{Tree}

abbrev pub attributes_code : Coded Attributes
attributes_code = map.code (coded_list coded_ℕ) (coded_list coded_ℕ)

abbrev pub contents_code : Coded Contents
contents_code =
    code_by (List ℕ × Blocks) (coded× (coded_list coded_ℕ) (set.code coded_ℕ))
    (λ c. (c.bytes, c.held)) (λ p. record { bytes = p.0; held = p.1 }) (λ _. refl)

abbrev pub parts : Node → Attributes ⊎ (Contents × Attributes)
parts (Dir attributes) = inl attributes
parts (File contents attributes) = inr (contents, attributes)

abbrev pub of_parts : Attributes ⊎ (Contents × Attributes) → Node
of_parts (inl attributes) = Dir attributes
of_parts (inr file) = File file.0 file.1

pub of_parts-parts : (node : Node) → of_parts (parts node) ≡ node
of_parts-parts (Dir attributes) = refl
of_parts-parts (File contents attributes) = refl

abbrev pub tree_node_code : Coded Node
tree_node_code =
    code_by (Attributes ⊎ (Contents × Attributes))
    (coded⊎ attributes_code (coded× contents_code attributes_code)) parts of_parts of_parts-parts

abbrev pub tree_code : Coded Tree
tree_code = map.code (coded_list (coded_list coded_ℕ)) tree_node_code
