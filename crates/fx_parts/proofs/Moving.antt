-- A part is sound beside what another event changed.
use Rattle.std.proofs.Common.{◌≡◌, ℕ, ◌≤◌, List, Some, refl, sym, subst, ◌∙◌, arith}
use Rattle.std.specs.FinMap as finite
use Rattle.fx_item.specs.declared.lock.LockKey.{LockKey}
use Rattle.fx_plain.specs.Tree.{Tree}
use Rattle.fx_history.specs.History.{tree_at}
use Rattle.fx_namespace.specs.Nodes.{NodeId}
use Rattle.fx_events.specs.Notes.{Mounted, Note, entries_in, last_commit}
use Rattle.fx_parts.specs.Live.{AgreeAll, AgreeAt, IsNodeThere, IsUnusedNode, LiveMap, live_in_lists}
use Rattle.fx_parts.specs.Parts.{Grant, IsGivenNode, Part, Reservation, TakenSnapshot}
use Rattle.fx_parts.specs.Sound.{IsPartSound, IsSnapshotSound}
use Rattle.fx_parts.proofs.Lives.{there_agrees}

-- the notes go on: no tree up to the last number changed, and that number did not fall
pub record NotesMove (mounted : Mounted) (notes after : List Note) (now new : LiveMap) : Type 0 where
  pub trees : (n : ℕ) → n ≤ last_commit mounted.kept notes → tree_at mounted.tree (entries_in after) n ≡ tree_at mounted.tree (entries_in notes) n
  pub rises : last_commit mounted.kept notes ≤ last_commit mounted.kept after
  pub current : last_commit mounted.kept after ≡ last_commit mounted.kept notes → AgreeAll now new

-- what a part shows of the items stays
pub record ItemsMove (now new : LiveMap) (part : Part) : Type 0 where
  pub keys : (key : LockKey) (grant : Grant) → finite.get part.grants key ≡ Some grant → IsNodeThere now key → AgreeAt key now new
  pub gifts : (r : Reservation) (node : NodeId) → part.reserved ≡ Some r → IsGivenNode r node → IsUnusedNode now node → IsUnusedNode new node

module _ {Makes : LiveMap → Tree → Type 0} {mounted : Mounted} {notes after : List Note} {now new : LiveMap} (go : NotesMove mounted notes after now new) where
  pub snapshot_moves : (snapshot : TakenSnapshot) → IsSnapshotSound Makes mounted notes now snapshot → IsSnapshotSound Makes mounted after new snapshot
  snapshot_moves snapshot k = record {
    from = k.from;
    upto = let a = k.upto in let b = go.rises in omega arith;
    makes = subst (Makes (live_in_lists snapshot.lists)) (sym (go.trees snapshot.point k.upto)) k.makes;
    current = λ e.
        let a = k.upto in let b = go.rises in
        let same : last_commit mounted.kept after ≡ last_commit mounted.kept notes = omega arith in
        let here : snapshot.point ≡ last_commit mounted.kept notes = omega arith in
        λ point. go.current same point ∙ k.current here point;
  }

  pub part_moves : (ids stores counted more_ids more_stores more : ℕ) (part : Part) → ids ≤ more_ids → stores ≤ more_stores → counted ≤ more → ItemsMove now new part
      → IsPartSound Makes mounted notes now ids stores counted part → IsPartSound Makes mounted after new more_ids more_stores more part
  part_moves ids stores counted more_ids more_stores more part i st c move k = record {
    snapshots = λ j snapshot got. snapshot_moves snapshot (k.snapshots j snapshot got);
    keeps = λ j snapshot key grant got held before since there point here.
        let agree = k.keeps j snapshot key grant got held before since there in
        move.keys key grant held (there_now snapshot key agree there) point here ∙ agree point here;
    granted = λ key grant held. let a = k.granted key grant held in let b = go.rises in omega arith;
    committed = let a = k.committed in let b = go.rises in omega arith;
    reserves = λ r is. let old = k.reserves r is in record {
      first_id = old.first_id;
      first_store = old.first_store;
      given_ids = let a = old.given_ids in omega arith;
      given_stores = let a = old.given_stores in omega arith;
      unused = λ node given. move.gifts r node is given (old.unused node given);
    };
    met = let a = k.met in omega arith;
  }
    where
      there_now : (snapshot : TakenSnapshot) (key : LockKey) → AgreeAt key (live_in_lists snapshot.lists) now → IsNodeThere (live_in_lists snapshot.lists) key → IsNodeThere now key
      there_now snapshot key agree there = there_agrees (live_in_lists snapshot.lists) now key agree there

-- nothing moved but the counts
pub notes_stay : (mounted : Mounted) (notes : List Note) (now : LiveMap) → NotesMove mounted notes notes now now
notes_stay mounted notes now = record { trees = λ n l. refl; rises = omega arith; current = λ e point. refl }

-- the items are the same at every point
pub items_stay : (now new : LiveMap) (part : Part) → AgreeAll now new → ItemsMove now new part
items_stay now new part same = record {
  keys = λ key grant held there point here. same point;
  gifts = λ r node is given unused point here. same point ∙ unused point here;
}
