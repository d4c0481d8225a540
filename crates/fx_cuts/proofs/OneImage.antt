-- What an image shows tells one number and one tree.
use Rattle.std.proofs.Common.{◌≡◌, ℕ, List, map, subst, Option}
use Rattle.fx_disk.specs.Record.{Cell}
use Rattle.fx_plain.specs.Tree.{Tree}
use Rattle.fx_contents.specs.Points.{Points}
use Rattle.fx_contents.proofs.OneTree.{one_tree_of}
use Rattle.fx_uses.specs.Live.{txn_of}
use Rattle.fx_uses.specs.Uses.{image_block}
use Rattle.fx_kept.specs.Kept.{sum_found, none_live, HasTrueLiveBlocks}
use Rattle.fx_kept.proofs.KeptExists.{kept_one}
use Rattle.fx_kept.proofs.AnyFirst.{true_alike}
use Rattle.fx_cuts.specs.Joined.{NumberedItems, StandsClear, points_up_to}
use Rattle.fx_cuts.specs.Images.{ImageMeanings, NoBlockByChance, NoLiveBlockByChance, IsImageUpTo, ShowsOne}

pub one_image : (w : ImageMeanings) (image : List (List ℕ)) (base : ℕ) (points : Points) (txns : NumberedItems) (j k : ℕ) (t u : Tree) → IsImageUpTo w image base points txns j t → IsImageUpTo w image base points txns k u → (j ≡ k) × (t ≡ u)
one_image w image base points txns j k t u a b =
    let same : j ≡ k = kept_one (sum_found w.sum w.first_data image) base none_live (map txn_of txns) j k a.kept b.kept in
    (same, one_tree_of (points_up_to points txns k) (image_block image) t u (subst (λ (n : ℕ). StandsClear (points_up_to points txns n) (image_block image) t) same a.stands).stands b.stands.stands)

pub one_image_shown : (w : ImageMeanings) → ShowsOne w → (image : List (List ℕ)) (a b : ℕ) (p q : Points) (ts us : NumberedItems) (j k : ℕ) (t u : Tree) → IsImageUpTo w image a p ts j t → IsImageUpTo w image b q us k u → (j ≡ k) × (t ≡ u)
one_image_shown w shows_one image a b p q ts us j k t u h g =
    let e : (a ≡ b) × (p ≡ q) × (ts ≡ us) = shows_one image a b p q ts us h.shows g.shows in
    let same : IsImageUpTo w image b q us j t = subst (λ (n : ℕ). IsImageUpTo w image n q us j t) e.0 (subst (λ (m : Points). IsImageUpTo w image a m us j t) e.1 (subst (λ (l : NumberedItems). IsImageUpTo w image a p l j t) e.2 h)) in
    one_image w image b q us j k t u same g

pub chance_wider : (w : ImageMeanings) (cells : ℕ → Cell) (image : List (List ℕ)) → NoLiveBlockByChance w cells image → NoBlockByChance w cells image
chance_wider w cells image h = record {
  formed = h.formed;
  blocks = λ base points txns k shows kept.
      let f : (first : ℕ → Option ℕ) × HasTrueLiveBlocks cells first (map txn_of txns) k image = h.blocks base points txns k shows kept in
      true_alike cells f.0 none_live (map txn_of txns) k image (λ b x live tested loose. f.1 b x live loose);
}
