-- What the blocks of a stream hold, or why they are refused.
use Rattle.std.proofs.Common.{◌≡◌, ◌≢◌, ℕ, ◌*◌, ◌≤◌, List, [], ◌∷◌, length, length-append, refl, sym, subst, arith}
use Rattle.std.specs.Prelude.{IfSome}
use Rattle.std.proofs.Math.Path.{fun_ext}
use Rattle.fx_item.specs.Look.{ItemMap, value_in}
use Rattle.fx_plain.specs.Tree.{Tree}
use Rattle.fx_namespace.specs.Nodes.{NodeId, Stands}
use Rattle.fx_namespace.specs.Trees.{IsTreeOf, bare}
use Rattle.fx_namespace.specs.Wrong.{IsLeastWrong}
use Rattle.fx_nodes.specs.Table.{PlainTable}
use Rattle.fx_nodes.specs.Tree.{AreTreeNodes}
use Rattle.fx_super.specs.Super.{Fields}
use Rattle.fx_super.specs.declared.superblock.TheConstants.{MAX_RING}
use Rattle.fx_disk.specs.Seen.{DiskSeen}
use Rattle.fx_jblock.specs.declared.Start.{Start}
use Rattle.fx_jblock.specs.declared.TheConstants.{RECORD_BYTES}
use Rattle.fx_journal.specs.Stream.{IsSeries, place_after}
use Rattle.fx_journal.specs.declared.stream.StreamBlock.{StreamBlock}
use Rattle.fx_record.specs.Txns.{IsTxns, all_bytes}
use Rattle.fx_image.specs.Standing.{HasSessionRoom, StandsFor, Transactions, items_after, stream_pieces}
use Rattle.fx_log.specs.Chosen.{ChoosesSuper, start_of}
use Rattle.fx_mount.specs.declared.fault.MountFault.{MountFault}
use Rattle.fx_mount.specs.declared.fault.MountFault.TheVariants as faults
use Rattle.fx_mount.specs.declared.fault.MountFault.TheVariants.{BadTree, Cramped}
use Rattle.fx_mount.specs.Found.{CanGoOn, HasReadWell, HasStream, HasSuper, IsMountCause, IsRefused}
use Rattle.fx_store.specs.Nodes.{NodeTable}
use Rattle.fx_store.specs.Session.{KnowsNodes}
use Rattle.fx_mount.specs.Reading.{HoldsContents, IsGathered, IsReadFault, IsStreamOf}
use Rattle.fx_store.specs.Opening.{IsRead}
use Rattle.fx_store.specs.declared.opening.Contents.{Contents}
use Rattle.fx_store.proofs.Keeps.{if-both}
use Rattle.fx_mount.specs.Growing.{HasFewNodes}
use Rattle.fx_mount.proofs.NodeCount.{few_nodes}

-- a stream has few record bytes
pub series_short : (generation : ℕ) (start next : Start) (blocks : List StreamBlock) → IsSeries generation start blocks next → length (all_bytes (stream_pieces blocks)) ≤ RECORD_BYTES * length blocks
series_short generation start next [] h = omega arith
series_short generation start next (b ∷ bs) h =
    omega (arith, length-append b.records (all_bytes (stream_pieces bs)), h.0.room, series_short generation (place_after start b) next bs h.1)

module _ (f : Fields) (blocks : List StreamBlock) (txns : Transactions) (table : PlainTable) (are : IsTxns f.base (stream_pieces blocks) txns) (gathered : IsGathered f txns table) where
  same_items : value_in table.items ≡ items_after txns
  same_items = fun_ext gathered.items

  pub stands_for : (tree : Tree) → Stands (value_in table.items) → IsTreeOf (value_in table.items) bare tree → StandsFor (items_after txns) tree
  stands_for tree stands is = subst (λ (m : ItemMap). StandsFor m tree) same_items (record { stands = stands; tree_is = is })

  pub few_after : (generation : ℕ) (start next : Start) → IsSeries generation start blocks next → length blocks ≤ MAX_RING → Stands (value_in table.items) → HasFewNodes (value_in table.items)
  few_after generation start next series few stands nodes of =
      let least = few_nodes f.base (stream_pieces blocks) txns nodes are (subst Stands same_items stands) (subst (λ (m : ItemMap). AreTreeNodes m nodes) same_items of) in
      omega (arith, least, series_short generation start next blocks series, few)

  pub knows_after : (nodes : NodeTable) → KnowsNodes (value_in table.items) nodes → KnowsNodes (items_after txns) nodes
  knows_after nodes knows = subst (λ (m : ItemMap). KnowsNodes m nodes) same_items knows

  module _ (size : ℕ) (image : List (List ℕ)) (super : HasSuper size image f) (stream : HasStream image f blocks) where
    pub refused_tree : (node : NodeId) → IsLeastWrong (value_in table.items) node → IsRefused size image (BadTree node.store node.id)
    refused_tree node wrong = (f, blocks, txns, super, stream, are, subst (λ (m : ItemMap). IsLeastWrong m node) same_items wrong)

    pub refused_room : (tree : Tree) → StandsFor (items_after txns) tree → (HasSessionRoom f txns → ⊥) → IsRefused size image (Cramped 0)
    refused_room tree stands cramped = (
      super.slots,
      refl,
      (
        f,
        txns,
        tree,
        record {
          chosen = super.chosen;
          blocks = super.blocks;
          layers = super.layers;
          stream = blocks;
          next = stream.0;
          stream_is = stream.1;
          txns_are = are;
          stands = stands;
        },
        cramped,
      ),
    )

-- a fault of what was read is a cause
pub cause_read : (before after : DiskSeen) (fault : MountFault) → fault ≢ faults.Device → HasReadWell before after → IfSome before.told (λ r. IsReadFault before.size r.contents fault) → IsMountCause before after fault
cause_read before after faults.NoSuper other well h = (well, h)
cause_read before after (faults.Version v) other well h = (well, h)
cause_read before after (faults.DiskSize n) other well h = (well, h)
cause_read before after (faults.BadLayer b) other well h = (well, h)
cause_read before after (faults.BadRecord place) other well h = (well, h)
cause_read before after (faults.BadTree store id) other well h = (well, h)
cause_read before after (faults.Cramped n) other well h = (well, h)
cause_read before after faults.Device other well h = absurd (other refl)
cause_read before after faults.OutOfMemory other well h = well

-- a fault of the superblock's stream holds of the image of a disk that tells it
pub refused_told : (seen : DiskSeen) (f : Fields) (blocks : List StreamBlock) (next : Start) (fault : MountFault) → CanGoOn seen.size f → IfSome seen.told (λ r. ChoosesSuper f r.contents) → IfSome seen.told (IsStreamOf f blocks next)
    → ((size : ℕ) (image : List (List ℕ)) → HasSuper size image f → HasStream image f blocks → IsReadFault size image fault) → IfSome seen.told (λ r. IsReadFault seen.size r.contents fault)
refused_told seen f blocks next fault on chosen stream refused =
    if-both seen.told (λ r. ChoosesSuper f r.contents) (IsStreamOf f blocks next) (λ r. IsReadFault seen.size r.contents fault)
    (λ r a b. refused seen.size r.contents (record { slots = on.slots; chosen = a; blocks = on.blocks; layers = on.layers }) (next, b)) chosen stream

-- what was read of the stream is what a store begins with
pub read_told : (seen : DiskSeen) (f : Fields) (blocks : List StreamBlock) (next : Start) (c : Contents) → CanGoOn seen.size f → IfSome seen.told (IsStreamOf f blocks next) → IsSeries f.generation (start_of f) blocks next → length blocks ≤ f.ring
    → HoldsContents f blocks next c → IsRead seen f c
read_told seen f blocks next c on stream series few h = record {
  blocks = blocks;
  closed_is = sym h.closed;
  few = few;
  reading = record {
    head = record { rules = on.rules; blocks = on.blocks; series = subst (λ (s : Start). IsSeries f.generation (start_of f) blocks s) (sym h.next) series };
    layers = on.layers;
    txns_are = h.txns;
    base_is = h.base;
    room = h.room;
  };
  stands = h.stands;
  small = h.small;
  stream = subst (λ (s : Start). IfSome seen.told (IsStreamOf f blocks s)) (sym h.next) stream;
  knows = h.nodes;
  next_id = h.next_id;
  next_store = h.next_store;
}
