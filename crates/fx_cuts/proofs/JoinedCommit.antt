-- A commit: one more transaction, one more tree.
use Rattle.std.proofs.Common.{◌≡◌, ℕ, ◌+◌, ◌<◌, ◌≤◌, Bool, List, [], ◌∷◌, ◌++◌, if◌then◌else◌, sym, ap, subst, ◌∙◌, arith, inl, inr, IsSome, IfSome}
use Rattle.std.proofs.lemmas.Bool.{cases_lt, lt-leb}
use Rattle.fx_disk.specs.Record.{DiskRecord}
use Rattle.fx_disk.specs.Seen.{DiskSeen}
use Rattle.fx_disk.proofs.Kept.{Always-map}
use Rattle.fx_disk.proofs.Told.{told-both}
use Rattle.fx_item.specs.Item.{PlainItem}
use Rattle.fx_item.specs.Overlay.{says}
use Rattle.fx_plain.specs.Tree.{Tree}
use Rattle.fx_contents.specs.Points.{Points, device_block, points_after}
use Rattle.fx_uses.specs.Live.{Txn, txn_of}
use Rattle.fx_uses.specs.Uses.{last, bytes_now}
use Rattle.fx_uses.specs.Events.{IsNextOf}
use Rattle.fx_uses.proofs.LiveOverLists.{live_before}
use Rattle.fx_uses.proofs.UsesKept.{used_commit, last_commit}
use Rattle.fx_uses.proofs.CellsKept.{held_commit}
use Rattle.fx_cuts.specs.Joined.{JoinedState, StandsClear, StandsAfter, HasLiveFiles, points_at, with_entry}
use Rattle.fx_cuts.specs.Images.{ImageMeanings, Mark, IsPrefixUpTo, IsImageUpTo, LeavesPrefix}
use Rattle.fx_cuts.specs.KeepsJoined.{KeepsState, HoldsState, KeepsJoined, HasTreesOf}
use Rattle.fx_cuts.proofs.PointsUpTo.{mapped_append, points_append}

-- before its number, what stands at the points is as it was
pub points_before : (s : JoinedState) (who n : ℕ) (items : List PlainItem) (k : ℕ) → k < n → points_at (with_entry s who n items) k ≡ points_at s k
points_before s who n items k lt = points_append s.opening s.txns ((n, items) ∷ []) k
    ∙ ap (λ (t : Bool). if t then points_after (points_at s k) (says items) else points_at s k) (lt-leb n k lt)

-- the same image, by a later history
pub image_longer : (w : ImageMeanings) (trees later : ℕ → Tree) (most more m : ℕ) (marks bases : List Mark) (image : List (List ℕ)) → most ≤ more → HasTreesOf most trees later → (k : ℕ) × IsPrefixUpTo w trees most marks bases m image k → (k : ℕ) × IsPrefixUpTo w later more marks bases m image k
image_longer w trees later most more m marks bases image le same p = (
  p.0,
  record {
    base = p.1.base;
    points = p.1.points;
    txns = p.1.txns;
    image_is = subst (λ (t : Tree). IsImageUpTo w image p.1.base p.1.points p.1.txns p.0 t) (sym (same p.0 p.1.within)) p.1.image_is;
    within = omega (arith, le, p.1.within);
    settled = p.1.settled;
    based = p.1.based;
  },
)

module _ (w : ImageMeanings) (trees later : ℕ → Tree) (kept from : ℕ) (s : JoinedState) (marks bases : List Mark) (calls : ℕ) (plain : KeepsState w s kept from calls marks bases) (who n : ℕ) (items : List PlainItem) (next : IsNextOf s.blocks who (txn_of (n, items))) (same : HasTreesOf (last s.blocks) trees later) where
  abbrev t : JoinedState
  t = with_entry s who n items

  last_t : last t.blocks ≡ last s.blocks + 1
  last_t = last_commit s.blocks who (txn_of (n, items)) plain.used next

  -- each number so far, or the new one
  pub by_number : (P : ℕ → Type 0) → ((k : ℕ) → k ≤ last s.blocks → k < n → P k) → P (last s.blocks + 1) → (k : ℕ) → k ≤ last t.blocks → P k
  by_number P old new k le = elim (cases_lt (last s.blocks) k) [
    | inl lt ↦ subst P (omega (arith, lt, le, last_t)) new
    | inr before ↦ old k before (omega (arith, before, next.number))
  ]

  files_before : (k : ℕ) → k < n → HasLiveFiles s k → HasLiveFiles t k
  files_before k lt h node i b e =
      subst IsSome (sym (live_before s.blocks.first s.blocks.txns (txn_of (n, items)) k b lt))
      (h node i b (sym (ap (λ (m : Points). device_block m node i) (points_before s who n items k lt)) ∙ e))

  pub plain_commit : HasLiveFiles t (last s.blocks + 1) → KeepsState w t kept from calls marks bases
  plain_commit new = record {
    used = used_commit s.blocks who (txn_of (n, items)) plain.used next;
    txns_are = ap (λ (ts : List Txn). ts ++ txn_of (n, items) ∷ []) plain.txns_are ∙ sym (mapped_append s.txns ((n, items) ∷ []));
    data_from = plain.data_from;
    named = λ k ge le. by_number (λ j. s.blocks.settled ≤ j → HasLiveFiles t j) (λ j most lt up. files_before j lt (plain.named j up most)) (λ up. new) k le ge;
    marked = plain.marked;
    noted = plain.noted;
    flushed = plain.flushed;
  }

  pub told_commit : (r : DiskRecord) → StandsAfter t later (last s.blocks + 1) (bytes_now r) → HoldsState w trees from s marks bases r → HoldsState w later from t marks bases r
  told_commit r new d = record {
    now = record {
      held = held_commit w.sum s.blocks r who (txn_of (n, items)) plain.used next d.now.held;
      trees_are = λ k ge le. by_number (λ j. s.blocks.settled ≤ j → StandsAfter t later j (bytes_now r))
          (λ j most lt up. subst (λ (m : Points). StandsClear m (bytes_now r) (later j)) (sym (points_before s who n items j lt))
          (subst (λ (u : Tree). StandsClear (points_at s j) (bytes_now r) u) (sym (same j most)) (d.now.trees_are j up most)))
          (λ up. new) k le ge;
    };
    began = d.began;
    always = Always-map (LeavesPrefix w trees (last s.blocks) marks bases) (LeavesPrefix w later (last t.blocks) marks bases) from r
        (λ m image ge within left p chance. image_longer w trees later (last s.blocks) (last t.blocks) m marks bases image (omega (arith, last_t)) same (p chance)) d.always;
  }

pub over_commit : (w : ImageMeanings) (trees later : ℕ → Tree) (kept from : ℕ) (s : JoinedState) (marks bases : List Mark) (seen : DiskSeen) → KeepsJoined w trees kept from s marks bases seen → (who n : ℕ) (items : List PlainItem) → IsNextOf s.blocks who (txn_of (n, items))
    → HasTreesOf (last s.blocks) trees later → HasLiveFiles (with_entry s who n items) (last s.blocks + 1) → IfSome seen.told (λ r. StandsAfter (with_entry s who n items) later (last s.blocks + 1) (bytes_now r))
    → KeepsJoined w later kept from (with_entry s who n items) marks bases seen
over_commit w trees later kept from s marks bases seen d who n items next same files new = record {
  plain = plain_commit w trees later kept from s marks bases seen.calls d.plain who n items next same files;
  told = told-both (λ r. StandsAfter (with_entry s who n items) later (last s.blocks + 1) (bytes_now r)) (HoldsState w trees from s marks bases) (HoldsState w later from (with_entry s who n items) marks bases) seen.told
      (λ r x i. told_commit w trees later kept from s marks bases seen.calls d.plain who n items next same r x i) new d.told;
}
