use Rattle.std.proofs.Common.{rules, ◌≡◌, ◌+◌, ℕ, List, length, sym, ap, subst, ◌∙◌, arith}
use Rattle.std.specs.Prelude.{IfNone, IfSome, Option}
use Rattle.std.proofs.lemmas.List.{length-map}
use Rattle.fx_item.specs.Item.{PlainItem, items_of}
use Rattle.fx_item.specs.Look.{value_in}
use Rattle.fx_item.specs.declared.item.Item.{Item}
use Rattle.fx_item.specs.declared.lock.LockKey.{LockKey}
use Rattle.fx_namespace.specs.Nodes.{Stands}
use Rattle.fx_namespace.specs.Wrong.{IsLeastWrong}
use Rattle.fx_record.specs.Txns as records
use Rattle.fx_record.specs.Txns.{IsTxns, all_bytes, txns_of}
use Rattle.fx_record.proofs.Sessions.{txns_hold}
use Rattle.fx_super.specs.Super.{fields_of}
use Rattle.fx_log.specs.Chosen.{start_of}
use Rattle.fx_image.specs.Standing.{StandsFor, items_after, kept, stream_pieces}
use Rattle.fx_mount.proofs.Contents.{few_after, knows_after, refused_room, refused_tree, series_short, stands_for}
use Rattle.fx_mount.proofs.reading.read_contents.Goals as goal
use Rattle.fx_mount.proofs.reading.read_contents.Goals.{In-Ok, In_ok-made, After-as_slice}

are : (c : In-Ok) → IsTxns c.args.sup.now.base (stream_pieces c.args.stream.blocks) (txns_of c.in-Ok.txns)
are c = subst (λ (blocks : List (ℕ × List ℕ)). IsTxns c.args.sup.now.base blocks (txns_of c.in-Ok.txns)) (ap records.pieces_of c.deref.ensures.value ∙ c.in_ok-pieces.ensures) c.in-Ok.ensures.answer

pub gather-requires : goal.gather-requires
gather-requires c = txns_hold c.args.sup.now.base (stream_pieces c.args.stream.blocks) (txns_of c.in-Ok.txns) (are ((goal.at.gather-requires c).In-Ok))

pub returns-in-Some-clause-refused : goal.returns-in-Some-clause-refused
returns-in-Some-clause-refused c size image super stream =
    let wrong : IsLeastWrong (value_in c.in_ok-table.table.items) c.in-Some.node =
    subst (λ (found : Option LockKey). IfSome found (IsLeastWrong (value_in c.in_ok-table.table.items))) c.in-Some.is c.in_ok-node.ensures.wrong in
    refused_tree (fields_of c.args.sup.now) c.args.stream.blocks (txns_of c.in-Ok.txns) c.in_ok-table.table (are ((goal.at.returns-in-Some-clause-refused c).In-Ok)) c.in_ok-table.ensures size image super stream c.in-Some.node wrong

stands : (c : In_ok-made) → IsTxns c.args.sup.now.base (stream_pieces c.args.stream.blocks) (txns_of c.in-Ok.txns) → StandsFor (items_after (txns_of c.in-Ok.txns)) c.in_ok-made.made.0
stands c txns = stands_for (fields_of c.args.sup.now) c.args.stream.blocks (txns_of c.in-Ok.txns) c.in_ok-table.table txns c.in_ok-table.ensures c.in_ok-made.made.0
    (subst (λ (found : Option LockKey). IfNone found (Stands (value_in c.in_ok-table.table.items))) c.in_default.is c.in_ok-node.ensures.stands) c.in_ok-made.ensures.tree

same_kept : (c : After-as_slice) → kept (fields_of c.args.sup.now) (txns_of c.in-Ok.txns) ≡ c.args.sup.now.base + length c.as_slice.result.now
same_kept c =
    let view : ℕ × List Item → ℕ × List PlainItem = λ t. (t.0, items_of t.1) in
    omega (arith, length-map c.in-Ok.txns view, ap length c.as_slice.ensures)

pub returns-then-not-has_room-clause-refused : goal.returns-then-not-has_room-clause-refused
returns-then-not-has_room-clause-refused c size image super stream =
    refused_room (fields_of c.args.sup.now) c.args.stream.blocks (txns_of c.in-Ok.txns) c.in_ok-table.table (are ((goal.at.returns-then-not-has_room-clause-refused c).In-Ok)) c.in_ok-table.ensures size image super stream
    c.in_ok-made.made.0 (stands ((goal.at.returns-then-not-has_room-clause-refused c).In_ok-made) (are ((goal.at.returns-then-not-has_room-clause-refused c).In-Ok)))
    (λ room. cc (sym c.if-not-has_room.true ∙ (c.has_room.ensures (txns_of c.in-Ok.txns) (same_kept ((goal.at.returns-then-not-has_room-clause-refused c).After-as_slice)) c.in_ok-table.ensures).1 room))

pub tree_of-requires-clause-few : goal.tree_of-requires-clause-few
tree_of-requires-clause-few c =
    let f = fields_of c.args.sup.now in
    few_after f c.args.stream.blocks (txns_of c.in-Ok.txns) c.in_ok-table.table (are ((goal.at.tree_of-requires-clause-few c).In-Ok)) c.in_ok-table.ensures f.generation (start_of f) c.args.stream.next c.requires.series
    (omega (arith, c.requires.few, c.requires.rules.ring_most)) (subst (λ (found : Option LockKey). IfNone found (Stands (value_in c.in_ok-table.table.items))) c.in_default.is c.in_ok-node.ensures.stands)

pub returns-clause-holds : goal.returns-clause-holds
returns-clause-holds c =
    let txns = are ((goal.at.returns-clause-holds c).In-Ok) in
    let room = (c.has_room.ensures (txns_of c.in-Ok.txns) (same_kept ((goal.at.returns-clause-holds c).After-as_slice)) c.in_ok-table.ensures).0 c.if-not-has_room.false in
    record {
      closed = search rules;
      next = search rules;
      txns = txns;
      base = same_kept ((goal.at.returns-clause-holds c).After-as_slice);
      room = room;
      stands = stands ((goal.at.returns-clause-holds c).In_ok-made) txns;
      small = c.in_ok-made.ensures.small;
      nodes = knows_after (fields_of c.args.sup.now) c.args.stream.blocks (txns_of c.in-Ok.txns) c.in_ok-table.table txns c.in_ok-table.ensures c.in_ok-made.made.1 c.in_ok-made.ensures.nodes;
      next_id = search rules;
      next_store = search rules;
    }

pub read_txns-requires : goal.read_txns-requires
read_txns-requires c =
    let f = fields_of c.args.sup.now in
    omega (
      arith,
      ap (λ (bs : List (ℕ × List ℕ)). length (all_bytes bs)) (ap records.pieces_of c.deref.ensures.value ∙ c.in_ok-pieces.ensures),
      series_short f.generation (start_of f) c.args.stream.next c.args.stream.blocks c.requires.series,
      c.requires.few,
      c.requires.rules.ring_most,
    )
