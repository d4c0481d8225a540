use Rattle.std.proofs.Common.{rules, arith, ◌≡◌, ◌+◌, ◌∷◌, [], ◌++◌, sym, subst, ap, ◌∙◌}
use Rattle.std.specs.Prelude.{option_map}
use Rattle.fx_item.specs.Item.{item_of, key_of}
use Rattle.fx_item.specs.Place.{edge_at}
use Rattle.fx_merge.specs.Choice.{head_item, ComesFirst}
use Rattle.fx_merge.specs.Cursor.{levels_of, level_lists, cursor_size, reaches, AllHold}
use Rattle.fx_merge.proofs.Halves.{fails_newer, fails_older, first_known, known_first, one_found, two_found}
use Rattle.fx_merge.proofs.Forks.{ForkHolds}
use Rattle.fx_merge.proofs.cursor.+looking.Goals as goal

pub bring_up-returns-then-reaches-clause-first : goal.bring_up-returns-then-reaches-clause-first
bring_up-returns-then-reaches-clause-first g t c =
    known_first (level_lists (λ l. g.L.Level.items l.now) c.args.half.now.levels) (edge_at c.args.edge (key_of c.args.key.now)) c.args.half.now.head c.reaches.result c.if-reaches.true
    (c.reaches.ensures ∙ ap (λ q. reaches q c.args.half.now.head) c.edge.ensures) c.requires.head

pub bring_up-returns-in-Ok-clause-head : goal.bring_up-returns-in-Ok-clause-head
bring_up-returns-in-Ok-clause-head g t c = first_known (level_lists (λ l. g.L.Level.items l.now) c.args.half.now.levels) (edge_at c.args.edge (key_of c.args.key.now)) c.in-Ok.found c.in-Ok.ensures.found

pub first-bring_up-requires : goal.first-bring_up-requires
first-bring_up-requires g t c =
    let size : cursor_size c.args.cursor.now ≡ cursor_size c.deref_mut-fork.result.now.newer.levels + cursor_size c.deref_mut-fork.result.now.older.levels + 1 = search rules in
    let held = subst (AllHold (λ l. g.L.Level.items l.now) (edge_at c.args.edge (key_of c.args.key.now))) c.in-Two.is c.requires in
    let moved : ForkHolds (λ l. g.L.Level.items l.now) (edge_at c.args.edge (key_of c.args.key.now)) c.deref_mut-fork.result.now =
    subst (ForkHolds (λ l. g.L.Level.items l.now) (edge_at c.args.edge (key_of c.args.key.now))) (sym c.deref_mut-fork.ensures.value) held in
    λ κs m. (omega (arith, size, c.decreases), (m.0, (m.1, (moved.0, moved.2))))

pub first-bring_up-requires-in-Two : goal.first-bring_up-requires-in-Two
first-bring_up-requires-in-Two g t c =
    let size : cursor_size c.args.cursor.now ≡ cursor_size c.deref_mut-fork.result.now.newer.levels + cursor_size c.deref_mut-fork.result.now.older.levels + 1 = search rules in
    let held = subst (AllHold (λ l. g.L.Level.items l.now) (edge_at c.args.edge (key_of c.args.key.now))) c.in-Two.is c.requires in
    let moved : ForkHolds (λ l. g.L.Level.items l.now) (edge_at c.args.edge (key_of c.args.key.now)) c.deref_mut-fork.result.now =
    subst (ForkHolds (λ l. g.L.Level.items l.now) (edge_at c.args.edge (key_of c.args.key.now))) (sym c.deref_mut-fork.ensures.value) held in
    λ κs m. (omega (arith, size, c.decreases), (m.0, (m.1, (moved.1, moved.3))))

pub first-returns-in-Err-clause-fault : goal.first-returns-in-Err-clause-fault
first-returns-in-Err-clause-fault g t c =
    let two : levels_of c.args.cursor.now ≡ levels_of c.deref_mut-fork.result.now.newer.levels ++ levels_of c.deref_mut-fork.result.now.older.levels = search rules in
    fails_newer (λ l. g.L.Level.lacks l.now) (levels_of c.deref_mut-fork.result.now.newer.levels) (levels_of c.deref_mut-fork.result.now.older.levels) (levels_of c.args.cursor.now) two c.in-Err.fault c.in-Err.ensures.fault

pub first-returns-in-Err-bring_up-clause-fault : goal.first-returns-in-Err-bring_up-clause-fault
first-returns-in-Err-bring_up-clause-fault g t c =
    let two : levels_of c.args.cursor.now ≡ levels_of c.deref_mut-fork.result.now.newer.levels ++ levels_of c.deref_mut-fork.result.now.older.levels = search rules in
    fails_older (λ l. g.L.Level.lacks l.now) (levels_of c.deref_mut-fork.result.now.newer.levels) (levels_of c.deref_mut-fork.result.now.older.levels) (levels_of c.args.cursor.now) two c.in-Err-bring_up.fault c.in-Err-bring_up.ensures.fault

pub first-returns-in-One-clause-found : goal.first-returns-in-One-clause-found
first-returns-in-One-clause-found g t c =
    let one : levels_of c.args.cursor.now ≡ c.in-One.level ∷ [] = search rules in
    one_found (λ l. g.L.Level.items l.now) c.in-One.level (levels_of c.args.cursor.now) one (edge_at c.args.edge (key_of c.args.key.now)) c.next.result c.next.ensures.found c.next.ensures.among

pub first-returns-in_ok-first-in-Two-clause-found : goal.first-returns-in_ok-first-in-Two-clause-found
first-returns-in_ok-first-in-Two-clause-found g t c =
    let two : levels_of c.args.cursor.now ≡ levels_of c.deref_mut-fork.result.now.newer.levels ++ levels_of c.deref_mut-fork.result.now.older.levels = search rules in
    two_found (λ l. g.L.Level.items l.now) (levels_of c.deref_mut-fork.result.now.newer.levels) (levels_of c.deref_mut-fork.result.now.older.levels) (levels_of c.args.cursor.now) two
    (edge_at c.args.edge (key_of c.args.key.now)) c.bring_up.new.half.head c.bring_up-in-Two.new.half.head (option_map item_of c.in_ok-first-in-Two.first)
    c.in_default.ensures.first c.in_default-bring_up.ensures.first
    (subst (λ q. ComesFirst q (head_item c.bring_up.new.half.head) (head_item c.bring_up-in-Two.new.half.head) (option_map item_of c.in_ok-first-in-Two.first)) c.edge.ensures c.in_ok-first-in-Two.ensures.first)
