-- What values tell of a node.
use Rattle.std.specs.Prelude.{ℕ, length, Option, Some, None}
use Rattle.fx_item.specs.Item.{PlainValue, FileValue}
use Rattle.fx_plain.specs.Node.{Node, Dir, File}

-- the length that a file's Object tells
abbrev pub told_length : Option PlainValue → Option ℕ
told_length (Some (FileValue len)) = Some len
told_length _ = None

-- the length of a file of the tree
abbrev pub length_of_node : Node → Option ℕ
length_of_node (Dir attributes) = None
length_of_node (File contents attributes) = Some (length contents.bytes)
