-- What an image stands for.
use Rattle.std.specs.Prelude.{◌≡◌, ℕ, ◌+◌, ◌≤◌, ◌^◌, List, [], length, map}
use Rattle.fx_item.specs.Item.{PlainItem}
use Rattle.fx_item.specs.Look.{ItemMap, after_all, next_id_after, next_store_after}
use Rattle.fx_plain.specs.Tree.{Tree}
use Rattle.fx_namespace.specs.Nodes.{Stands}
use Rattle.fx_namespace.specs.Trees.{IsTreeOf, bare}
use Rattle.fx_super.specs.Super.{Fields}
use Rattle.fx_jblock.specs.declared.Start.{Start}
use Rattle.fx_journal.specs.declared.stream.StreamBlock.{StreamBlock}
use Rattle.fx_journal.specs.Stream.{IsStream}
use Rattle.fx_record.specs.Txns.{IsTxns}
use Rattle.fx_log.specs.Chosen.{ChoosesSuper, start_of, layers_of}

-- transactions: numbers and their items
abbrev pub Transactions : Type 0
Transactions = List (ℕ × List PlainItem)

-- the blocks of a stream as their epochs and record bytes
abbrev pub stream_pieces : List StreamBlock → List (ℕ × List ℕ)
stream_pieces blocks = map (λ block. (block.epoch, block.records)) blocks

-- the lists of items, the oldest first, and what stands after all of them
abbrev pub lists_of : Transactions → List (List PlainItem)
lists_of txns = map (λ txn. txn.1) txns

abbrev pub items_after : Transactions → ItemMap
items_after txns = after_all (lists_of txns)

-- The items stand, and make this tree, in which files hold nothing.
pub record StandsFor (items : ItemMap) (tree : Tree) : Type 0 where
  pub stands : Stands items
  pub tree_is : IsTreeOf items bare tree

-- the number of the last transaction that an image keeps
abbrev pub kept : Fields → Transactions → ℕ
kept f txns = f.base + length txns

-- The image of a disk of so many blocks has this superblock chosen and these transactions in its
-- journal, and stands for this tree.
pub record IsImage (size : ℕ) (image : List (List ℕ)) (f : Fields) (txns : Transactions)
    (tree : Tree) : Type 0 where
  pub chosen : ChoosesSuper f image
  pub blocks : f.blocks ≡ size
  pub layers : layers_of f ≡ []
  pub stream : List StreamBlock
  pub next : Start
  pub stream_is : IsStream image f.ring f.generation (start_of f) stream next
  pub txns_are : IsTxns f.base (stream_pieces stream) txns
  pub stands : StandsFor (items_after txns) tree

-- The numbers are so far below their bounds: those that count, and the ids and stores.
pub record HasMargin (counts ids : ℕ) (f : Fields) (txns : Transactions) : Type 0 where
  pub generations : f.generation + counts ≤ 2 ^ 63
  pub sequences : f.sequence + counts ≤ 2 ^ 62
  pub commits : kept f txns + counts ≤ 2 ^ 62
  pub ids_left : next_id_after f.next_id (lists_of txns) + ids ≤ 2 ^ 62
  pub stores_left : next_store_after f.next_store (lists_of txns) + ids ≤ 2 ^ 31

-- They leave room for a session.
abbrev pub HasSessionRoom : Fields → Transactions → Type 0
HasSessionRoom f txns = HasMargin (2 ^ 40) (2 ^ 23) f txns

-- They leave room for a session, and for another one on what a stop of it leaves.
abbrev pub HasAmpleRoom : Fields → Transactions → Type 0
HasAmpleRoom f txns = HasMargin (2 ^ 41) (2 ^ 24) f txns
