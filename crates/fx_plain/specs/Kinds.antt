-- How a node in memory is seen.
use Rattle.fx_plain.specs.Node as seen
use Rattle.std.specs.FinMap as map
use Rattle.fx_plain.specs.declared.node.Kind.{Kind}
use Rattle.fx_plain.specs.declared.node.Kind.TheVariants.{Dir, File}

-- no node in memory has attributes
abbrev pub seen_node : Kind → seen.Node
seen_node Dir = seen.Dir map.empty
seen_node (File contents) = seen.File contents.value map.empty
