-- The state right after a mount is sound.
use Rattle.std.proofs.Common.{◌≡◌, ℕ, ◌≤◌, List, Option, Some, None, sym, ap, ◌∙◌}
use Rattle.std.specs.Prelude.{unwrap_or}
use Rattle.std.specs.FinMap as finite
use Rattle.std.specs.FinMap.{get-empty}
use Rattle.std.specs.Ordering.{nat_cmp}
use Rattle.fx_item.specs.Item.{PlainItem}
use Rattle.fx_item.specs.declared.lock.LockKey.{LockKey}
use Rattle.fx_item.specs.declared.lock.Mode.{Mode}
use Rattle.fx_keys.specs.Table.{empty_table, hold_cmp, mode_of}
use Rattle.fx_plain.specs.Tree.{Tree}
use Rattle.fx_namespace.specs.Nodes.{NodeId}
use Rattle.fx_events.specs.Notes.{Mounted}
use Rattle.fx_parts.specs.Live.{IsUnusedNode, LiveMap, live_in_lists}
use Rattle.fx_parts.specs.Parts.{IsNotGiven, Part}
use Rattle.fx_parts.specs.Sound.{IsSharedSound}
use Rattle.fx_parts.specs.Happening.{opened_state}
use Rattle.fx_parts.proofs.Agreeing.{mode_by_entry, room_by_entry}

no_part : (who : ℕ) (part : Part) → finite.get (finite.empty {K = ℕ} {X = Part} {R = nat_cmp}) who ≡ Some part → ⊥
no_part who part e = let none = get-empty {X = Part} nat_cmp who in absurd (cc (sym none ∙ e))

nothing_held : (who : ℕ) (key : LockKey) → mode_of empty_table who key ≡ None
nothing_held who key = get-empty {X = Mode} hold_cmp (key, who)

none_some : (mode : Mode) → (let a : Option Mode = None in a ≡ Some mode) → ⊥
none_some mode e = cc

pub opened_sound : (Makes : LiveMap → Tree → Type 0) (mounted : Mounted) (lists : List (List PlainItem)) (ids stores faults : ℕ) → Makes (live_in_lists lists) mounted.tree → 1 ≤ ids → 1 ≤ stores
    → ((node : NodeId) → IsNotGiven ids stores node → IsUnusedNode (live_in_lists lists) node) → IsSharedSound Makes (opened_state mounted lists ids stores faults)
opened_sound Makes mounted lists ids stores faults makes i k unused = record {
  happened = tt;
  makes = makes;
  keys = record {
    held = λ who key. nothing_held who key ∙ sym (ap (mode_by_entry key) (get-empty {X = Part} nat_cmp who));
    rooms = λ who. ap (λ o. unwrap_or o 0) (get-empty {X = ℕ} nat_cmp who) ∙ sym (ap room_by_entry (get-empty {X = Part} nat_cmp who));
    consistent = λ key v w m n ne here there conflict. none_some m (sym (nothing_held v key) ∙ here);
  };
  parts = λ who part is. absurd (no_part who part is);
  numbers = λ who part is. absurd (no_part who part is);
  apart = λ who other part its ne is got. absurd (no_part who part is);
  unused = unused;
  first = (i, k);
}
