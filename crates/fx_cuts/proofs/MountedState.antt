-- What a mount finds begins the state.
use Rattle.std.proofs.Common.{◌≡◌, ℕ, ◌+◌, List, [], ◌∷◌, length, map, sym, ap, subst, ◌∙◌, arith, Option, Some}
use Rattle.fx_disk.specs.Record.{DiskRecord, cell_now}
use Rattle.fx_plain.specs.Tree.{Tree}
use Rattle.fx_uses.specs.Live.{txn_of, live_after}
use Rattle.fx_uses.specs.Uses.{Use, BlockUses, AreUses, CellsHold, last, bytes_now, image_block, IsGood}
use Rattle.fx_kept.specs.Kept.{sum_found, PassesAt, none_live}
use Rattle.fx_kept.specs.Opened.{opened_uses}
use Rattle.fx_kept.proofs.Opened.{opened_used, opened_held}
use Rattle.fx_kept.proofs.AnyFirst.{passes_alike}
use Rattle.fx_kept.proofs.LiveBlocks.{live_good}
use Rattle.fx_cuts.specs.Joined.{JoinedState, StandsAfter, HasLiveFiles}
use Rattle.fx_cuts.specs.Images.{ImageMeanings}
use Rattle.fx_cuts.specs.Mounted.{IsFoundState, HoldsFoundState}
use Rattle.fx_cuts.specs.KeepsJoined.{AreMarks, KeepsState, HoldsTrees}
use Rattle.fx_cuts.proofs.PointsUpTo.{mapped_length}
use Rattle.fx_cuts.proofs.PrefixNow.{stands_alike}
use Rattle.fx_cuts.proofs.MarksMade.{first_mark}

module _ (w : ImageMeanings) (s : JoinedState) (right base : ℕ) (first : ℕ → Option ℕ) (others : ℕ → Use) (m : IsFoundState w s right base first others) where
  abbrev uses : BlockUses
  uses = opened_uses w.first_data right first base (map txn_of s.txns) others

  same_end : base + length (map txn_of s.txns) ≡ base + length s.txns
  same_end = ap (λ (n : ℕ). base + n) (mapped_length s.txns)

  pub used_mounted : AreUses s.blocks
  used_mounted = subst AreUses (sym m.blocks_are) (opened_used w.first_data first base (map txn_of s.txns) others m.numbered m.others_are right m.right_most
      (λ b x e. m.data_from b x (subst (λ (n : ℕ). live_after first (map txn_of s.txns) n b ≡ Some x) same_end e)))

  pub settled_is : s.blocks.settled ≡ base + length s.txns
  settled_is = ap (λ (u : BlockUses). u.settled) m.blocks_are ∙ same_end

  pub last_mounted : last s.blocks ≡ base + length s.txns
  last_mounted = ap last m.blocks_are ∙ same_end

  base_is : s.blocks.base ≡ base
  base_is = ap (λ (u : BlockUses). u.base) m.blocks_are

  pub state_mounted : (calls : ℕ) → KeepsState w s (base + length s.txns) calls calls (record { number = base + length s.txns; calls = calls } ∷ []) (record { number = base; calls = calls } ∷ [])
  state_mounted calls = record {
    used = used_mounted;
    txns_are = ap (λ (u : BlockUses). u.txns) m.blocks_are;
    data_from = ap (λ (u : BlockUses). u.first_data) m.blocks_are;
    named = λ k ge le. subst (HasLiveFiles s) (omega (arith, ge, le, settled_is, last_mounted)) m.files;
    marked = subst (λ (n : ℕ). AreMarks (base + length s.txns) calls n calls (record { number = base + length s.txns; calls = calls } ∷ [])) (sym settled_is) (first_mark (base + length s.txns) calls calls (omega arith));
    noted = subst (λ (n : ℕ). AreMarks n calls s.based calls (record { number = base; calls = calls } ∷ [])) (sym base_is)
        (subst (λ (n : ℕ). AreMarks base calls n calls (record { number = base; calls = calls } ∷ [])) (sym m.based_is) (first_mark base calls calls (omega arith)));
    flushed = let low = used_mounted.marked in let firm = used_mounted.firm in omega (arith, m.based_is, base_is, low, firm);
  }

  pub trees_mounted : (trees : ℕ → Tree) (image : List (List ℕ)) (r : DiskRecord) → HoldsFoundState w s right base first others image r → StandsAfter s trees (base + length s.txns) (image_block image) → HoldsTrees w trees s r
  trees_mounted trees image r h stands = record {
    held = held;
    trees_are = λ k ge le. subst (λ (n : ℕ). StandsAfter s trees n (bytes_now r)) (omega (arith, ge, le, settled_is, last_mounted)) now;
  }
    where
      passes : PassesAt (sum_found w.sum w.first_data image) first (map txn_of s.txns) (base + length (map txn_of s.txns))
      passes = subst (λ (n : ℕ). PassesAt (sum_found w.sum w.first_data image) first (map txn_of s.txns) n) (sym same_end)
          (passes_alike (sum_found w.sum w.first_data image) none_live first (map txn_of s.txns) (base + length s.txns) h.kept.passes)

      held : CellsHold w.sum s.blocks r
      held = subst (λ (u : BlockUses). CellsHold w.sum u r) (sym m.blocks_are)
          (opened_held w.sum w.first_data right first base (map txn_of s.txns) others image r m.numbered m.others_are h.holds h.within passes
          (λ b x lt e. h.clean b x lt (subst (λ (n : ℕ). live_after first (map txn_of s.txns) n b ≡ Some x) same_end e)))

      now : StandsAfter s trees (base + length s.txns) (bytes_now r)
      now = stands_alike s trees (base + length s.txns) (image_block image) (bytes_now r) m.files
          (λ b x live.
          let good : IsGood (length r.entry) b (cell_now r b) = live_good w.sum s.blocks r used_mounted held (base + length s.txns) b x (omega (arith, settled_is)) (omega (arith, last_mounted)) live in
          sym (h.holds b good.within).2) stands
