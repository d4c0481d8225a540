-- Each image left now is the tree after a prefix of the history.
use Rattle.std.proofs.Common.{◌≡◌, ℕ, ◌+◌, ◌≤◌, List, length, map, refl, sym, subst, arith, Option, Some, None, IsSome}
use Rattle.fx_disk.specs.Record.{DiskRecord, LeftNow, cell_now}
use Rattle.fx_disk.specs.Always.{HoldsNow}
use Rattle.fx_plain.specs.Tree.{Tree}
use Rattle.fx_contents.specs.Points.{Points, AgreeOnLive}
use Rattle.fx_contents.proofs.LiveBlocks.{stands_on, clear_on}
use Rattle.fx_uses.specs.Live.{txn_of, live_after}
use Rattle.fx_uses.specs.Uses.{AreUses, ReadsLive, last, bytes_now, image_block}
use Rattle.fx_kept.specs.Kept.{sum_found, IsKeptUpTo, IsKeptIn, HasTrueBlocks, HasContents, IsStretch, none_live}
use Rattle.fx_kept.proofs.KeptExists.{kept_exists}
use Rattle.fx_kept.proofs.KeptContents.{kept_settled, kept_contents, stretch_within}
use Rattle.fx_kept.proofs.AnyFirst.{kept_alike, true_alike}
use Rattle.fx_cuts.specs.Joined.{JoinedState, NumberedItems, points_up_to, points_at, StandsClear, StandsAfter, HasLiveFiles}
use Rattle.fx_cuts.specs.Images.{ImageMeanings, NoBlockByChance, IsImageUpTo, Mark, IsPrefixUpTo, LeavesPrefix, IsShownCut, IsSoundFrom, ShowsCuts}
use Rattle.fx_cuts.specs.KeepsJoined.{KeepsState, HoldsTrees}
use Rattle.fx_cuts.proofs.PointsUpTo.{mapped_length}
use Rattle.fx_cuts.proofs.CutPoints.{cut_stretch, cut_points, txns_numbered}

some_of : (o : Option ℕ) → IsSome o → (x : ℕ) × (o ≡ Some x)
some_of None e = absurd (cc)
some_of (Some x) e = (x, refl)

-- the tree after a number reads the live blocks alone
pub agree_live : (s : JoinedState) (k : ℕ) (f g : ℕ → List ℕ) → HasLiveFiles s k → ((b x : ℕ) → live_after s.blocks.first s.blocks.txns k b ≡ Some x → f b ≡ g b) → AgreeOnLive (points_at s k) f g
agree_live s k f g named same node n b is = let x : (x : ℕ) × (live_after s.blocks.first s.blocks.txns k b ≡ Some x) = some_of (live_after s.blocks.first s.blocks.txns k b) (named node n b is) in same b x.0 x.1

pub stands_alike : (s : JoinedState) (trees : ℕ → Tree) (k : ℕ) (f g : ℕ → List ℕ) → HasLiveFiles s k → ((b x : ℕ) → live_after s.blocks.first s.blocks.txns k b ≡ Some x → f b ≡ g b) → StandsAfter s trees k f → StandsAfter s trees k g
stands_alike s trees k f g named same h = record {
  stands = stands_on (points_at s k) f g (agree_live s k f g named same) (trees k) h.stands;
  clear = clear_on (points_at s k) f g (agree_live s k f g named same) h.clear;
}

pub reads_live : (w : ImageMeanings) (s : JoinedState) (kept from calls : ℕ) (marks bases : List Mark) (trees : ℕ → Tree) → KeepsState w s kept from calls marks bases → ReadsLive (StandsAfter s trees) s.blocks
reads_live w s kept from calls marks bases trees h k ge le f g same = stands_alike s trees k f g (h.named k ge le) same

-- an image's own items are those of the state
pub image_up_to : (w : ImageMeanings) (s : JoinedState) (trees : ℕ → Tree) (image : List (List ℕ)) (base : ℕ) (points : Points) (txns : NumberedItems) (k : ℕ) → w.Shows image base points txns → IsKeptIn w.sum w.first_data image base txns k
    → w.IsSound image base points txns k → points_up_to points txns k ≡ points_at s k → StandsAfter s trees k (image_block image) → IsImageUpTo w image base points txns k (trees k)
image_up_to w s trees image base points txns k shows kept sound same h = record {
  shows = shows;
  kept = kept;
  sound = sound;
  stands = subst (λ (m : Points). StandsClear m (image_block image) (trees k)) (sym same) h;
}

module _ (w : ImageMeanings) (trees : ℕ → Tree) (s : JoinedState) (kept from calls : ℕ) (marks bases : List Mark) (r : DiskRecord) (store : KeepsState w s kept from calls marks bases) (now : HoldsTrees w trees s r) where
  module _ (image : List (List ℕ)) (left : LeftNow r image) (base : ℕ) (points : Points) (txns : NumberedItems) (cut : IsShownCut s base points txns) where
    used : AreUses s.blocks
    used = store.used

    abbrev first : ℕ → Option ℕ
    first = live_after s.blocks.first s.blocks.txns base

    stretch : IsStretch s.blocks base first (map txn_of txns)
    stretch = cut_stretch s used store.txns_are base points txns cut

    module _ (k : ℕ) (is : IsKeptIn w.sum w.first_data image base txns k) where
      here : IsKeptUpTo (sum_found w.sum s.blocks.first_data image) base first (map txn_of txns) k
      here = subst (λ (n : ℕ). IsKeptUpTo (sum_found w.sum n image) base first (map txn_of txns) k) (sym store.data_from)
          (kept_alike (sum_found w.sum w.first_data image) base none_live first (map txn_of txns) k is)

      pub up : s.blocks.settled ≤ k
      up = kept_settled w.sum s.blocks r base first (map txn_of txns) image used now.held stretch left k here

      pub within : k ≤ last s.blocks
      within = omega (arith, is.most, stretch_within s.blocks base first (map txn_of txns) used stretch)

      true_blocks : (chance : NoBlockByChance w (cell_now r) image) (shows : w.Shows image base points txns) → HasTrueBlocks (cell_now r) first (map txn_of txns) k image
      true_blocks chance shows = true_alike (cell_now r) none_live first (map txn_of txns) k image (chance.blocks base points txns k shows is)

      contents : (chance : NoBlockByChance w (cell_now r) image) (shows : w.Shows image base points txns) → HasContents s.blocks r k image
      contents chance shows = kept_contents w.sum s.blocks r base first (map txn_of txns) image used now.held stretch left k here (true_blocks chance shows)

      ends : k ≤ base + length txns
      ends = omega (arith, is.most, mapped_length txns)

      -- at whatever moment: what is settled is reached
      pub prefix_kept : (m : ℕ) (chance : NoBlockByChance w (cell_now r) image) (shows : w.Shows image base points txns) (sound : IsSoundFrom w s.blocks.settled image base points txns) → IsPrefixUpTo w trees (last s.blocks) marks bases m image k
      prefix_kept m chance shows sound = record {
        base = base;
        points = points;
        txns = txns;
        image_is = image_up_to w s trees image base points txns k shows is (sound k up is) (cut_points s used store.txns_are base points txns cut k is.least ends)
            (reads_live w s kept from calls marks bases trees store k up within (bytes_now r) (image_block image) (λ b x e. sym (contents chance shows b x e)) (now.trees_are k up within));
        within = within;
        settled = λ i mark got le. let m : mark.number ≤ s.blocks.settled = store.marked.settled_by i mark got in omega (arith, m, up);
        based = λ i mark got le. let m : mark.number ≤ s.based = store.noted.settled_by i mark got in let low = cut.from in omega (arith, m, low);
      }

    pub prefix_cut : (chance : NoBlockByChance w (cell_now r) image) (shows : w.Shows image base points txns) (sound : IsSoundFrom w s.blocks.settled image base points txns) → (k : ℕ) × IsPrefixUpTo w trees (last s.blocks) marks bases calls image k
    prefix_cut chance shows sound =
        let found : (k : ℕ) × IsKeptIn w.sum w.first_data image base txns k = kept_exists (sum_found w.sum w.first_data image) base none_live (map txn_of txns) (txns_numbered s used store.txns_are base points txns cut) in
        (found.0, prefix_kept found.0 found.1 calls chance shows sound)

  pub prefix_now : ShowsCuts w s r → HoldsNow (LeavesPrefix w trees (last s.blocks) marks bases) r
  prefix_now shows image left chance =
      let found : (base : ℕ) × (points : Points) × (txns : NumberedItems) × w.Shows image base points txns × IsShownCut s base points txns × IsSoundFrom w s.blocks.settled image base points txns = shows image left chance.formed in
      let is : (k : ℕ) × IsKeptIn w.sum w.first_data image found.0 found.2 k = kept_exists (sum_found w.sum w.first_data image) found.0 none_live (map txn_of found.2) (txns_numbered s store.used store.txns_are found.0 found.1 found.2 found.4) in
      (is.0, prefix_kept image left found.0 found.1 found.2 found.4 is.0 is.1 (length r.calls) chance found.3 found.5)
