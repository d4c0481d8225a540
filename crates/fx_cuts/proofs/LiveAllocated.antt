-- What is live after transactions is what their allocations have taken.
use Rattle.std.proofs.Common.{◌≡◌, ℕ, suc, Bool, true, false, if◌then◌else◌, map, List, [], ◌∷◌, refl, ap, ◌∙◌, Option, Some, None, IsSome}
use Rattle.std.specs.Prelude.{nat_le, is_some}
use Rattle.fx_item.specs.Item.{PlainItem}
use Rattle.fx_item.specs.Overlay.{AtDeviceBlock, Entry, says}
use Rattle.fx_verify.specs.Kept.{written_by, is_freed_by}
use Rattle.fx_contents.specs.Points.{Points, entry_after, points_after}
use Rattle.fx_contents.specs.Allocated.{AreAllocated}
use Rattle.fx_uses.specs.Live.{Txn, txn_of, put_in, put_over, after_txn, live_from, live_after}
use Rattle.fx_cuts.specs.Joined.{JoinedState, NumberedItems, HasLiveFiles, points_up_to, points_at}
use Rattle.fx_cuts.specs.Allocations.{TellsBlocks, TellBlocks, AreTakenIn}

-- one transaction, by what it says of the block
by_said : (said : Option (Option Entry)) (put : Option ℕ) (frees : Bool) (old : Option ℕ) (stood : Option Entry) → ((entry : Entry) → said ≡ Some (Some entry) → IsSome put) → (said ≡ Some None → (put ≡ None) × (frees ≡ true)) → (said ≡ None → (put ≡ None) × (frees ≡ false))
    → is_some old ≡ is_some stood → is_some (put_over put (if frees then None else old)) ≡ is_some (entry_after said stood)
by_said None put frees old stood taken given silent same = let q : (put ≡ None) × (frees ≡ false) = silent refl in
    ap (λ (p : Option ℕ). is_some (put_over p (if frees then None else old))) q.0 ∙ ap (λ (t : Bool). is_some (if t then None else old)) q.1 ∙ same
by_said (Some None) put frees old stood taken given silent same = let q : (put ≡ None) × (frees ≡ true) = given refl in
    ap (λ (p : Option ℕ). is_some (put_over p (if frees then None else old))) q.0 ∙ ap (λ (t : Bool). is_some (if t then None else old)) q.1
by_said (Some (Some entry)) put frees old stood taken given silent same = put_some put (taken entry refl) (if frees then None else old)
  where
    put_some : (p : Option ℕ) → IsSome p → (o : Option ℕ) → is_some (put_over p o) ≡ true
    put_some None s o = absurd (cc)
    put_some (Some x) s o = refl

after_one : (t : ℕ × List PlainItem) (b : ℕ) (old : Option ℕ) (m : Points) → TellsBlocks t.1 → is_some old ≡ is_some (m (AtDeviceBlock b)) → is_some (after_txn b (txn_of t) old) ≡ is_some (points_after m (says t.1) (AtDeviceBlock b))
after_one t b old m h same = by_said (says t.1 (AtDeviceBlock b)) (put_in b (written_by t.1)) (is_freed_by t.1 b) old (m (AtDeviceBlock b)) (λ entry e. h.taken b entry e) (h.given_up b) (h.silent b) same

live_taken : (txns : NumberedItems) (k b : ℕ) (old : Option ℕ) (m : Points) → TellBlocks txns → is_some old ≡ is_some (m (AtDeviceBlock b)) → is_some (live_from b k (map txn_of txns) old) ≡ is_some (points_up_to m txns k (AtDeviceBlock b))
live_taken [] k b old m h same = same
live_taken (t ∷ txns) k b old m h same = live_taken txns k b (if nat_le t.0 k then after_txn b (txn_of t) old else old) _ (λ i u e. h (suc i) u e) (by (nat_le t.0 k) (after_one t b old m (h 0 t refl) same))
  where
    by : (c : Bool) → is_some (after_txn b (txn_of t) old) ≡ is_some (points_after m (says t.1) (AtDeviceBlock b)) → is_some (if c then after_txn b (txn_of t) old else old) ≡ is_some ((if c then points_after m (says t.1) else m) (AtDeviceBlock b))
    by true e = e
    by false e = same

pub live_is_taken : (s : JoinedState) → s.blocks.txns ≡ map txn_of s.txns → TellBlocks s.txns → AreTakenIn s.opening s.blocks.first → (k : ℕ) → AreTakenIn (points_at s k) (live_after s.blocks.first s.blocks.txns k)
live_is_taken s txns_are tells first k b = ap (λ (ts : List Txn). is_some (live_from b k ts (s.blocks.first b))) txns_are ∙ live_taken s.txns k b (s.blocks.first b) s.opening tells (first b)

pub files_are_live : (s : JoinedState) (k : ℕ) → AreAllocated (points_at s k) → AreTakenIn (points_at s k) (live_after s.blocks.first s.blocks.txns k) → HasLiveFiles s k
files_are_live s k allocated taken node n b e =
    let entry : (x : Entry) × (points_at s k (AtDeviceBlock b) ≡ Some x) = allocated.taken node n b e in
    taken b ∙ ap is_some entry.1
