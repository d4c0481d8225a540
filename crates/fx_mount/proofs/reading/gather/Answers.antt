use Rattle.std.proofs.Common.{◌≡◌, ◌∷◌, ℕ, ◌+◌, List, All, drop, sym, ap, subst, ◌∙◌, arith}
use Rattle.fx_item.specs.Item.{items_of}
use Rattle.fx_item.specs.declared.item.Item.{Item}
use Rattle.fx_record.specs.Txns.{txns_of}
use Rattle.fx_record.specs.Commits.{IsCommit}
use Rattle.fx_super.specs.Super.{fields_of}
use Rattle.fx_image.specs.Standing.{Transactions}
use Rattle.fx_mount.proofs.Gathering.{Gathers, gathers_none, gathers_more, gathers_all, commit_in, first_left, none_left}
use Rattle.fx_mount.proofs.reading.gather.Goals as goal
use Rattle.fx_mount.proofs.reading.gather.Goals.{After-as_slice}

commit : (c : After-as_slice) → IsCommit (items_of c.as_slice.result.now)
commit c =
    let all : All (λ t. IsCommit t.1) (txns_of c.as_slice-items-items.result.now) = subst (λ (ts : List (ℕ × List Item)). All (λ t. IsCommit t.1) (txns_of ts)) (sym c.as_slice-items-items.ensures) c.requires in
    subst (λ (xs : List Item). IsCommit (items_of xs)) (sym c.as_slice.ensures)
    (commit_in c.as_slice-items-items.result.now c.loop-items.items-index c.loop-items-item.result all c.loop-items-test.true c.loop-items-item.is)

pub put-requires-clause-each : goal.put-requires-clause-each
put-requires-clause-each c = (commit c).are_items.each

pub put-requires-clause-ascending : goal.put-requires-clause-ascending
put-requires-clause-ascending c = (commit c).are_items.ascending

pub loop-items-init : goal.loop-items-init
loop-items-init c =
    let all : Transactions = txns_of c.args.txns.now in
    subst (λ (ts : List (ℕ × List Item)). Gathers c.args.sup.now.next_id c.args.sup.now.next_store all (txns_of ts) c.new-table.result) (sym c.as_slice-items-items.ensures)
    (gathers_none c.args.sup.now.next_id c.args.sup.now.next_store all c.new-table.result c.new-table.ensures.items c.new-table.ensures.next_id c.new-table.ensures.next_store (omega arith) (omega arith))

pub loop-items-preserved : goal.loop-items-preserved
loop-items-preserved c =
    let all : Transactions = txns_of c.args.txns.now in
    let txns : List (ℕ × List Item) = c.as_slice-items-items.result.now in
    let i : ℕ = c.loop-items.items-index in
    let t : ℕ × List Item = c.loop-items-item.result in
    let first : txns_of (drop i txns) ≡ (t.0, items_of c.as_slice.result.now) ∷ txns_of (drop (i + 1) txns) =
    first_left txns i t c.loop-items-test.true c.loop-items-item.is ∙ ap (λ (xs : List Item). (t.0, items_of xs) ∷ txns_of (drop (i + 1) txns)) (sym c.as_slice.ensures) in
    gathers_more c.args.sup.now.next_id c.args.sup.now.next_store all t.0 (items_of c.as_slice.result.now) (txns_of (drop (i + 1) txns)) c.loop-items.table c.put.new.self
    (subst (λ (left : Transactions). Gathers c.args.sup.now.next_id c.args.sup.now.next_store all left c.loop-items.table) first c.loop-items.invariant)
    c.in_ok-put.ensures.items c.in_ok-put.ensures.next_id c.in_ok-put.ensures.next_store

pub returns : goal.returns
returns c = gathers_all (fields_of c.args.sup.now) (txns_of c.args.txns.now) c.loop-items.table
    (subst (λ (left : Transactions). Gathers c.args.sup.now.next_id c.args.sup.now.next_store (txns_of c.args.txns.now) left c.loop-items.table)
    (none_left c.as_slice-items-items.result.now c.loop-items.items-index c.loop-items-test.false) c.loop-items.invariant)
