-- How a node in memory is seen.
use Rattle.std.specs.Prelude.{ℕ, List}
use Rattle.std.specs.FinMap as finite
use Rattle.fx_plain.specs.Node as seen
use Rattle.fx_memtree.specs.declared.node.Kind.{Kind}
use Rattle.fx_memtree.specs.declared.node.Kind.TheVariants.{Dir, File}

abbrev pub node_in : Kind → List (List ℕ × List ℕ) → seen.Node
node_in Dir attributes = seen.Dir (finite.from_entries attributes)
node_in (File contents) attributes = seen.File contents.value (finite.from_entries attributes)
