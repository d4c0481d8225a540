-- A cut that an image shows is a stretch of the transactions, and its own items are those of the state.
use Rattle.std.proofs.Common.{◌≡◌, ℕ, ◌+◌, ◌<◌, ◌≤◌, List, [], ◌++◌, length, map, refl, sym, ap, subst, ◌∙◌, arith}
use Rattle.std.proofs.Math.Path.{fun_ext}
use Rattle.fx_contents.specs.Points.{Points}
use Rattle.fx_uses.specs.Live.{Txn, txn_of, AreNumbered, live_after}
use Rattle.fx_disk.specs.Record.{DiskRecord, LeftNow}
use Rattle.fx_uses.specs.Uses.{AreUses, CellsHold, image_block}
use Rattle.fx_uses.specs.Layers.{LayerSense, ReadsNamed, Reader, IsNamed}
use Rattle.fx_kept.proofs.NamedImages.{named_image}
use Rattle.fx_uses.proofs.LiveOverLists.{numbered_front, numbered_rest}
use Rattle.fx_kept.specs.Kept.{IsStretch}
use Rattle.fx_cuts.specs.Joined.{JoinedState, NumberedItems, points_up_to, points_at}
use Rattle.fx_cuts.specs.Images.{IsShownCut}
use Rattle.fx_cuts.proofs.PointsUpTo.{mapped_append, mapped_length, points_append, points_beyond, points_reached, least_of, most_of}

module _ (s : JoinedState) (used : AreUses s.blocks) (txns_are : s.blocks.txns ≡ map txn_of s.txns) (base : ℕ) (points : Points) (txns : NumberedItems) (cut : IsShownCut s base points txns) where
  pieces : s.blocks.txns ≡ map txn_of cut.earlier ++ (map txn_of txns ++ map txn_of cut.later)
  pieces = txns_are ∙ ap (λ (w : NumberedItems). map txn_of w) cut.joined ∙ mapped_append cut.earlier (txns ++ cut.later)
      ∙ ap (λ (w : List Txn). map txn_of cut.earlier ++ w) (mapped_append txns cut.later)

  pub cut_stretch : IsStretch s.blocks base (live_after s.blocks.first s.blocks.txns base) (map txn_of txns)
  cut_stretch = record {
    before = map txn_of cut.earlier;
    after = map txn_of cut.later;
    joined = pieces;
    base_is = omega (arith, cut.base_is, mapped_length cut.earlier);
    first_is = λ b. refl;
    flushed = cut.flushed;
    reaches = omega (arith, cut.reaches, mapped_length txns);
  }

  whole_numbered : AreNumbered s.blocks.base (map txn_of cut.earlier ++ (map txn_of txns ++ map txn_of cut.later))
  whole_numbered = subst (λ (w : List Txn). AreNumbered s.blocks.base w) pieces used.numbered

  earlier_numbered : AreNumbered s.blocks.base (map txn_of cut.earlier)
  earlier_numbered = numbered_front s.blocks.base (map txn_of cut.earlier) (map txn_of txns ++ map txn_of cut.later) whole_numbered

  rest_numbered : AreNumbered base (map txn_of txns ++ map txn_of cut.later)
  rest_numbered = subst (λ (n : ℕ). AreNumbered n (map txn_of txns ++ map txn_of cut.later)) (omega (arith, cut.base_is, mapped_length cut.earlier))
      (numbered_rest s.blocks.base (map txn_of cut.earlier) (map txn_of txns ++ map txn_of cut.later) whole_numbered)

  pub txns_numbered : AreNumbered base (map txn_of txns)
  txns_numbered = numbered_front base (map txn_of txns) (map txn_of cut.later) rest_numbered

  later_numbered : AreNumbered (base + length txns) (map txn_of cut.later)
  later_numbered = subst (λ (n : ℕ). AreNumbered n (map txn_of cut.later)) (omega (arith, mapped_length txns)) (numbered_rest base (map txn_of txns) (map txn_of cut.later) rest_numbered)

  -- what all transactions leave, in pieces
  points_pieces : (k : ℕ) → points_at s k ≡ points_up_to (points_up_to (points_up_to s.opening cut.earlier k) txns k) cut.later k
  points_pieces k = ap (λ (w : NumberedItems). points_up_to s.opening w k) cut.joined
      ∙ points_append s.opening cut.earlier (txns ++ cut.later) k
      ∙ points_append (points_up_to s.opening cut.earlier k) txns cut.later k

  points_first : points ≡ points_up_to s.opening cut.earlier base
  points_first = fun_ext cut.points_are ∙ points_pieces base
      ∙ points_beyond (points_up_to (points_up_to s.opening cut.earlier base) txns base) cut.later base
      (λ i t got. let lt : base + length txns < t.0 = least_of (base + length txns) cut.later later_numbered i t got in omega (arith, lt))
      ∙ points_beyond (points_up_to s.opening cut.earlier base) txns base (least_of base txns txns_numbered)

  pub cut_points : (k : ℕ) → base ≤ k → k ≤ base + length txns → points_up_to points txns k ≡ points_at s k
  cut_points k ge le =
      ap (λ (m : Points). points_up_to m txns k) (points_first
      ∙ points_reached s.opening cut.earlier base k (λ i t got. let most : t.0 ≤ s.blocks.base + length cut.earlier = most_of s.blocks.base cut.earlier earlier_numbered i t got in (omega (arith, most, cut.base_is), omega (arith, most, cut.base_is, ge))))
      ∙ sym (points_beyond (points_up_to (points_up_to s.opening cut.earlier k) txns k) cut.later k
      (λ i t got. let lt : base + length txns < t.0 = least_of (base + length txns) cut.later later_numbered i t got in omega (arith, lt, le)))
      ∙ sym (points_pieces k)

-- ---- which cuts there are

pub cut_front : (s : JoinedState) (txns later : NumberedItems) → AreUses s.blocks → s.based ≤ s.blocks.base → s.blocks.txns ≡ map txn_of s.txns → s.txns ≡ txns ++ later → s.blocks.settled ≤ s.blocks.base + length txns → IsShownCut s s.blocks.base s.opening txns
cut_front s txns later used low txns_are e reaches = record {
  earlier = [];
  later = later;
  joined = e;
  base_is = omega arith;
  points_are = λ p. sym (ap (λ (m : Points). m p) (points_beyond s.opening s.txns s.blocks.base (least_of s.blocks.base s.txns (subst (λ (w : List Txn). AreNumbered s.blocks.base w) txns_are used.numbered))));
  from = low;
  flushed = omega (arith, used.marked, used.firm);
  reaches = reaches;
}

pub cut_later : (s : JoinedState) (earlier txns later : NumberedItems) → s.txns ≡ earlier ++ (txns ++ later) → s.based ≤ s.blocks.base + length earlier → s.blocks.base + length earlier ≤ s.blocks.firm → s.blocks.settled ≤ s.blocks.base + length earlier + length txns
    → IsShownCut s (s.blocks.base + length earlier) (points_at s (s.blocks.base + length earlier)) txns
cut_later s earlier txns later e low flushed reaches = record { earlier = earlier; later = later; joined = e; base_is = refl; points_are = λ p. refl; from = low; flushed = flushed; reaches = reaches }

pub cut_by_layers : (sense : LayerSense) → ReadsNamed sense → (points_in : sense.Said → Points) (sum : List ℕ → ℕ) (s : JoinedState) (r : DiskRecord) (image : List (List ℕ)) (reader : Reader) (firsts blocks : List ℕ) (said : sense.Said) (earlier txns later : NumberedItems) → CellsHold sum s.blocks r → LeftNow r image
    → IsNamed sense s.blocks r reader (s.blocks.base + length earlier) firsts blocks said → points_in said ≡ points_at s (s.blocks.base + length earlier) → s.txns ≡ earlier ++ (txns ++ later) → s.based ≤ s.blocks.base + length earlier → s.blocks.settled ≤ s.blocks.base + length earlier + length txns
    → sense.Says (image_block image) firsts blocks said × IsShownCut s (s.blocks.base + length earlier) (points_in said) txns
cut_by_layers sense reads points_in sum s r image reader firsts blocks said earlier txns later held left named same joined low reaches = (
  named_image sense reads sum s.blocks r image reader (s.blocks.base + length earlier) firsts blocks said held left named,
  record { earlier = earlier; later = later; joined = joined; base_is = refl; points_are = λ p. ap (λ (m : Points). m p) same; from = low; flushed = named.flushed; reaches = reaches },
)
