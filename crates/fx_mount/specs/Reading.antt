-- What a mount reads of a journal.
use Rattle.std.specs.Prelude.{◌≡◌, ℕ, ◌-◌, ◌^◌, ◌≤◌, min, List, length}
use Rattle.fx_item.specs.Item.{PlainKey}
use Rattle.fx_item.specs.Look.{next_id_after, next_store_after, value_in}
use Rattle.fx_disk.specs.Record.{DiskRecord}
use Rattle.fx_super.specs.Super.{Fields}
use Rattle.fx_plain.specs.Tree.{node_count}
use Rattle.fx_nodes.specs.Table.{PlainTable}
use Rattle.fx_jblock.specs.declared.Start.{Start}
use Rattle.fx_journal.specs.declared.stream.StreamBlock.{StreamBlock}
use Rattle.fx_journal.specs.Stream.{IsStream}
use Rattle.fx_log.specs.Chosen.{start_of}
use Rattle.fx_record.specs.Txns.{IsTxns, txns_of}
use Rattle.fx_image.specs.Standing.{Transactions, HasSessionRoom, StandsFor, items_after, kept, lists_of, stream_pieces}
use Rattle.fx_store.specs.Session.{KnowsNodes}
use Rattle.fx_store.specs.declared.opening.Contents.{Contents}
use Rattle.fx_store.specs.declared.opening.TheConstants.{MAX_OPENING_NODES}
use Rattle.fx_mount.specs.Found.{IsRefused}
use Rattle.fx_mount.specs.declared.fault.MountFault.{MountFault}
use Rattle.fx_mount.specs.declared.fault.MountFault.TheVariants.{OutOfMemory}

-- The table has what stands after all transactions, and the first numbers that nothing has used, as
-- far as their types go.
pub record IsGathered (f : Fields) (txns : Transactions) (table : PlainTable) : Type 0 where
  pub items : (key : PlainKey) → value_in table.items key ≡ items_after txns key
  pub next_id : table.next_id ≡ min (next_id_after f.next_id (lists_of txns)) (2 ^ 64 - 1)
  pub next_store :
      table.next_store ≡ min (next_store_after f.next_store (lists_of txns)) (2 ^ 32 - 1)

-- This is what the blocks of the superblock's stream hold, up to the next place: their
-- transactions, the tree that these make, which is small, with the node of each path, and the first
-- numbers that nothing has used. They leave room for a session.
pub record HoldsContents (f : Fields) (blocks : List StreamBlock) (place : Start) (c : Contents)
    : Type 0 where
  pub closed : c.closed ≡ length blocks
  pub next : c.next ≡ place
  pub txns : IsTxns f.base (stream_pieces blocks) (txns_of c.txns)
  pub base : kept f (txns_of c.txns) ≡ c.base
  pub room : HasSessionRoom f (txns_of c.txns)
  pub stands : StandsFor (items_after (txns_of c.txns)) c.tree
  pub small : node_count c.tree ≤ MAX_OPENING_NODES
  pub nodes : KnowsNodes (items_after (txns_of c.txns)) c.nodes
  pub next_id : c.next_id ≡ next_id_after f.next_id (lists_of (txns_of c.txns))
  pub next_store : c.next_store ≡ next_store_after f.next_store (lists_of (txns_of c.txns))

-- Why the stream of an image was not read: memory ran out, or the fault is the first that holds of
-- it.
abbrev pub IsReadFault : ℕ → List (List ℕ) → MountFault → Type 0
IsReadFault size image OutOfMemory = Unit {0}
IsReadFault size image fault = IsRefused size image fault

-- The blocks, up to the next place, are the stream of the superblock on the disk.
abbrev pub IsStreamOf : Fields → List StreamBlock → Start → DiskRecord → Type 0
IsStreamOf f blocks next r = IsStream r.contents f.ring f.generation (start_of f) blocks next
