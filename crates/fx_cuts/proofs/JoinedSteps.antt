-- Each event of a mounted state, over a disk that tells its record or does not, a call made or not.
use Rattle.std.proofs.Common.{◌≡◌, ℕ, ◌+◌, ◌<◌, ◌≤◌, Bool, true, false, List, [], ◌∷◌, ◌++◌, set, refl, sym, ap, subst, ◌∙◌, arith, Option, Some, None, IfSome}
use Rattle.fx_disk.specs.Record.{DiskRecord, cell_after}
use Rattle.fx_disk.specs.Steps.{IsRecordOf, with_flush}
use Rattle.fx_disk.specs.Always.{Always}
use Rattle.fx_disk.specs.Seen.{DiskSeen, HasOnlyRead, HasWritten, HasFlushed}
use Rattle.fx_disk.proofs.Kept.{Always-start}
use Rattle.fx_plain.specs.Tree.{Tree}
use Rattle.fx_uses.specs.Uses.{Free, Drawn, System, Aside, IsDrawnFor, since_of, wanted, last}
use Rattle.fx_uses.specs.Events.{with_use, with_stage, with_rollback, with_flushed, with_mark, with_laid, with_layers_flushed, with_switch, with_pin_ended, with_anew}
use Rattle.fx_uses.proofs.UsesKept.{used_use, used_stage, used_rollback, used_flushed, used_settled, used_aside, used_laid, used_layers_flushed, used_switch, used_pin_ended, used_anew, drawn_hidden}
use Rattle.fx_uses.proofs.CellsKept.{held_use, held_stage, held_rollback, held_flushed, held_failed_flush, held_settled, held_written, held_laid, held_layers_flushed, held_switch, held_pin_ended, held_anew}
use Rattle.fx_cuts.specs.Joined.{JoinedState, with_blocks, with_based}
use Rattle.fx_cuts.specs.Images.{ImageMeanings, Mark, LeavesPrefix, ShowsCuts}
use Rattle.fx_cuts.specs.KeepsJoined.{AreMarks, KeepsState, HoldsTrees, HoldsState, KeepsJoined}
use Rattle.fx_cuts.proofs.PrefixNow.{prefix_now}
use Rattle.fx_cuts.proofs.MarksMade.{marks_more, marks_old, marks_later}
use Rattle.fx_cuts.proofs.JoinedEvents.{over_write, over_failed_flush, over_good_flush, over_same}

-- ---- calls

module _ (w : ImageMeanings) (trees : ℕ → Tree) (kept from : ℕ) (s : JoinedState) (marks bases : List Mark) (before after : DiskSeen) where
  -- reads alone
  pub step_read : KeepsJoined w trees kept from s marks bases before → HasOnlyRead before after → KeepsJoined w trees kept from s marks bases after
  step_read d x = record {
    plain = subst (λ (n : ℕ). KeepsState w s kept from n marks bases) (sym x.calls) d.plain;
    told = subst (λ (o : Option DiskRecord). IfSome o (HoldsState w trees from s marks bases)) (sym x.told) d.told;
  }

  module _ (is : IfSome before.told (IsRecordOf before.size before.calls)) (d : KeepsJoined w trees kept from s marks bases before) where
    pub step_stage : (ok : Bool) (who at : ℕ) (put : List ℕ) → at < before.size → IsDrawnFor who (s.blocks.uses at) → HasWritten before after at put ok → IfSome after.told (ShowsCuts w (with_blocks s (with_stage s.blocks who at (w.sum put) ok)))
        → KeepsJoined w trees kept from (with_blocks s (with_stage s.blocks who at (w.sum put) ok)) marks bases after
    step_stage true who at put lt drawn x shows = over_write w trees kept from s marks bases before after true is d (with_stage s.blocks who at (w.sum put) true).uses (with_stage s.blocks who at (w.sum put) true).sums
        (used_stage s.blocks who at (w.sum put) true d.plain.used drawn) at put (drawn_hidden who (s.blocks.uses at) drawn)
        (λ e r h. let q : true ≡ false = e in absurd (cc))
        (λ r held size h. held_stage w.sum s.blocks r who at put true held (omega (arith, lt, size)) drawn h) x shows
    step_stage false who at put lt drawn x shows = over_write w trees kept from s marks bases before after false is d (with_stage s.blocks who at (w.sum put) false).uses (with_stage s.blocks who at (w.sum put) false).sums
        (used_stage s.blocks who at (w.sum put) false d.plain.used drawn) at put (drawn_hidden who (s.blocks.uses at) drawn)
        (λ e r h. held_use w.sum s.blocks r at (Drawn who) h tt (λ o. o))
        (λ r held size h. held_stage w.sum s.blocks r who at put false held (omega (arith, lt, size)) drawn h) x shows

    pub step_system : (ok : Bool) (at : ℕ) (put : List ℕ) → s.blocks.uses at ≡ System → HasWritten before after at put ok → IfSome after.told (ShowsCuts w s) → KeepsJoined w trees kept from s marks bases after
    step_system ok at put system x shows = over_write w trees kept from s marks bases before after ok is d s.blocks.uses s.blocks.sums d.plain.used at put (ap since_of system) (λ e r h. h)
        (λ r held size h. held_written w.sum s.blocks r at put ok (set r.contents at held) (ap wanted system) h) x shows

    pub step_laid : (ok : Bool) (at : ℕ) (put : List ℕ) → at < before.size → s.blocks.uses at ≡ Aside → HasWritten before after at put ok → IfSome after.told (ShowsCuts w (with_blocks s (with_laid s.blocks at (w.sum put) ok)))
        → KeepsJoined w trees kept from (with_blocks s (with_laid s.blocks at (w.sum put) ok)) marks bases after
    step_laid true at put lt aside x shows = over_write w trees kept from s marks bases before after true is d (with_laid s.blocks at (w.sum put) true).uses (with_laid s.blocks at (w.sum put) true).sums
        (used_laid s.blocks at (w.sum put) true d.plain.used aside) at put (ap since_of aside) (λ e r h. let q : true ≡ false = e in absurd (cc))
        (λ r held size h. held_laid w.sum s.blocks r at put true held (omega (arith, lt, size)) aside h) x shows
    step_laid false at put lt aside x shows = over_write w trees kept from s marks bases before after false is d s.blocks.uses s.blocks.sums d.plain.used at put (ap since_of aside) (λ e r h. h)
        (λ r held size h. held_laid w.sum s.blocks r at put false held (omega (arith, lt, size)) aside h) x shows

    pub step_failed_flush : HasFlushed before after false → IfSome after.told (ShowsCuts w s) → KeepsJoined w trees kept from s marks bases after
    step_failed_flush = over_failed_flush w trees kept from s marks bases before after is d (λ r h. held_failed_flush w.sum s.blocks r h)

    -- base counts stay
    noted_then : AreMarks s.blocks.base from s.based (before.calls + 1) bases
    noted_then = marks_later s.blocks.base from s.based before.calls (before.calls + 1) bases (omega arith) d.plain.noted

    low_then : s.based ≤ last s.blocks
    low_then = omega (arith, d.plain.flushed, d.plain.used.most)

    -- a good flush that marks nothing
    pub step_flush : HasFlushed before after true → IfSome after.told (ShowsCuts w (with_blocks s (with_flushed s.blocks))) → KeepsJoined w trees kept from (with_blocks s (with_flushed s.blocks)) marks bases after
    step_flush x shows = over_good_flush w trees kept from s marks bases before after is d s.blocks.uses s.blocks.sums (last s.blocks) s.blocks.settled s.based marks bases (used_flushed s.blocks d.plain.used) (omega arith) low_then
        (marks_later kept from s.blocks.settled before.calls (before.calls + 1) marks (omega arith) d.plain.marked) noted_then (λ i mark got le. got) (λ i mark got le. got) (λ r h. held_flushed w.sum s.blocks r h) x shows

    -- one that settles the transactions up to a number
    pub step_mark : (n : ℕ) → s.blocks.settled ≤ n → n ≤ last s.blocks → HasFlushed before after true → IfSome after.told (ShowsCuts w (with_blocks s (with_mark s.blocks n)))
        → KeepsJoined w trees kept from (with_blocks s (with_mark s.blocks n)) (marks ++ record { number = n; calls = before.calls + 1 } ∷ []) bases after
    step_mark n up le x shows = over_good_flush w trees kept from s marks bases before after is d (with_mark s.blocks n).uses s.blocks.sums (last s.blocks) n s.based (marks ++ record { number = n; calls = before.calls + 1 } ∷ []) bases
        (used_settled (with_flushed s.blocks) n (used_flushed s.blocks d.plain.used) up le) up low_then
        (marks_more kept from s.blocks.settled before.calls n marks d.plain.marked up) noted_then (marks_old kept from s.blocks.settled before.calls n marks d.plain.marked up) (λ i mark got le. got)
        (λ r h. held_settled w.sum (with_flushed s.blocks) (with_flush r true) n (held_flushed w.sum s.blocks r h)) x shows

    -- and a superblock with its base count
    pub step_based : (n base : ℕ) → s.blocks.settled ≤ n → n ≤ last s.blocks → s.based ≤ base → base ≤ s.blocks.firm → HasFlushed before after true → IfSome after.told (ShowsCuts w (with_based (with_blocks s (with_mark s.blocks n)) base))
        → KeepsJoined w trees kept from (with_based (with_blocks s (with_mark s.blocks n)) base) (marks ++ record { number = n; calls = before.calls + 1 } ∷ []) (bases ++ record { number = base; calls = before.calls + 1 } ∷ []) after
    step_based n base up le higher firm x shows = over_good_flush w trees kept from s marks bases before after is d (with_mark s.blocks n).uses s.blocks.sums (last s.blocks) n base
        (marks ++ record { number = n; calls = before.calls + 1 } ∷ []) (bases ++ record { number = base; calls = before.calls + 1 } ∷ [])
        (used_settled (with_flushed s.blocks) n (used_flushed s.blocks d.plain.used) up le) up (omega (arith, firm, d.plain.used.most))
        (marks_more kept from s.blocks.settled before.calls n marks d.plain.marked up) (marks_more s.blocks.base from s.based before.calls base bases d.plain.noted higher)
        (marks_old kept from s.blocks.settled before.calls n marks d.plain.marked up) (marks_old s.blocks.base from s.based before.calls base bases d.plain.noted higher)
        (λ r h. held_settled w.sum (with_flushed s.blocks) (with_flush r true) n (held_flushed w.sum s.blocks r h)) x shows

    -- and one that makes a checkpoint's layers firm
    pub step_layers_flushed : HasFlushed before after true → IfSome after.told (ShowsCuts w (with_blocks s (with_layers_flushed s.blocks))) → KeepsJoined w trees kept from (with_blocks s (with_layers_flushed s.blocks)) marks bases after
    step_layers_flushed x shows = over_good_flush w trees kept from s marks bases before after is d (with_layers_flushed s.blocks).uses s.blocks.sums (last s.blocks) s.blocks.settled s.based marks bases (used_layers_flushed s.blocks d.plain.used) (omega arith) low_then
        (marks_later kept from s.blocks.settled before.calls (before.calls + 1) marks (omega arith) d.plain.marked) noted_then (λ i mark got le. got) (λ i mark got le. got) (λ r h. held_layers_flushed w.sum s.blocks r h) x shows

-- ---- no call

module _ (w : ImageMeanings) (trees : ℕ → Tree) (kept from : ℕ) (s : JoinedState) (marks bases : List Mark) (seen : DiskSeen) (d : KeepsJoined w trees kept from s marks bases seen) where
  pub step_draw : (who at : ℕ) → s.blocks.uses at ≡ Free → KeepsJoined w trees kept from (with_blocks s (with_use s.blocks at (Drawn who))) marks bases seen
  step_draw who at free = over_same w trees kept from s marks bases seen d (with_use s.blocks at (Drawn who)).uses s.blocks.sums
      (used_use s.blocks at (Drawn who) d.plain.used (λ e. let q : Free ≡ System = sym free ∙ e in cc) (ap since_of free) refl) (λ r h. held_use w.sum s.blocks r at (Drawn who) h tt (λ o. o))

  pub step_rollback : (who : ℕ) → KeepsJoined w trees kept from (with_blocks s (with_rollback s.blocks who)) marks bases seen
  step_rollback who = over_same w trees kept from s marks bases seen d (with_rollback s.blocks who).uses s.blocks.sums (used_rollback s.blocks who d.plain.used) (λ r h. held_rollback w.sum s.blocks r who h)

  pub step_aside : (at : ℕ) → s.blocks.uses at ≡ Free → KeepsJoined w trees kept from (with_blocks s (with_use s.blocks at Aside)) marks bases seen
  step_aside at free = over_same w trees kept from s marks bases seen d (with_use s.blocks at Aside).uses s.blocks.sums (used_aside s.blocks at d.plain.used free) (λ r h. held_use w.sum s.blocks r at Aside h tt (λ o. o))

  pub step_anew : KeepsJoined w trees kept from (with_blocks s (with_anew s.blocks)) marks bases seen
  step_anew = over_same w trees kept from s marks bases seen d (with_anew s.blocks).uses s.blocks.sums (used_anew s.blocks d.plain.used) (λ r h. held_anew w.sum s.blocks r h)

  pub step_switch : (stays pinned : ℕ → Bool) → KeepsJoined w trees kept from (with_blocks s (with_switch s.blocks stays pinned)) marks bases seen
  step_switch stays pinned = over_same w trees kept from s marks bases seen d (with_switch s.blocks stays pinned).uses s.blocks.sums (used_switch s.blocks stays pinned d.plain.used) (λ r h. held_switch w.sum s.blocks stays pinned r h)

  pub step_pin_ended : (left : ℕ → Bool) → KeepsJoined w trees kept from (with_blocks s (with_pin_ended s.blocks left)) marks bases seen
  step_pin_ended left = over_same w trees kept from s marks bases seen d (with_pin_ended s.blocks left).uses s.blocks.sums (used_pin_ended s.blocks left d.plain.used) (λ r h. held_pin_ended w.sum s.blocks left r h)

-- the flush that settles the new superblock: the transactions up to `n` are settled, and the layers switch
pub step_finish : (w : ImageMeanings) (trees : ℕ → Tree) (kept from : ℕ) (s : JoinedState) (marks bases : List Mark) (before after : DiskSeen) → IfSome before.told (IsRecordOf before.size before.calls) → KeepsJoined w trees kept from s marks bases before → (n base : ℕ) (stays pinned : ℕ → Bool)
    → s.blocks.settled ≤ n → n ≤ last s.blocks → s.based ≤ base → base ≤ s.blocks.firm → HasFlushed before after true → IfSome after.told (ShowsCuts w (with_based (with_blocks s (with_mark s.blocks n)) base))
    → KeepsJoined w trees kept from (with_based (with_blocks s (with_switch (with_mark s.blocks n) stays pinned)) base) (marks ++ record { number = n; calls = before.calls + 1 } ∷ []) (bases ++ record { number = base; calls = before.calls + 1 } ∷ []) after
step_finish w trees kept from s marks bases before after is d n base stays pinned up le higher firm x shows =
    step_switch w trees kept from (with_based (with_blocks s (with_mark s.blocks n)) base) (marks ++ record { number = n; calls = before.calls + 1 } ∷ []) (bases ++ record { number = base; calls = before.calls + 1 } ∷ []) after
    (step_based w trees kept from s marks bases before after is d n base up le higher firm x shows) stays pinned

-- ---- the beginning

begun_at : (w : ImageMeanings) (trees : ℕ → Tree) (kept : ℕ) (s : JoinedState) (marks bases : List Mark) (size calls : ℕ) (told : Option DiskRecord) → IfSome told (IsRecordOf size calls) → KeepsState w s kept calls calls marks bases
    → IfSome told (λ r. HoldsTrees w trees s r × ((b : ℕ) → cell_after r calls b ≡ w.before b) × ShowsCuts w s r) → IfSome told (HoldsState w trees calls s marks bases)
begun_at w trees kept s marks bases size calls None is plain now = tt
begun_at w trees kept s marks bases size calls (Some r) is plain now = record {
  now = now.0;
  began = now.1;
  always = subst (λ (n : ℕ). Always (LeavesPrefix w trees (last s.blocks) marks bases) n r) is.counted (Always-start (LeavesPrefix w trees (last s.blocks) marks bases) r (prefix_now w trees s kept calls calls marks bases r plain now.0 now.2));
}

pub step_begin : (w : ImageMeanings) (trees : ℕ → Tree) (kept : ℕ) (s : JoinedState) (marks bases : List Mark) (seen : DiskSeen) → IfSome seen.told (IsRecordOf seen.size seen.calls) → KeepsState w s kept seen.calls seen.calls marks bases
    → IfSome seen.told (λ r. HoldsTrees w trees s r × ((b : ℕ) → cell_after r seen.calls b ≡ w.before b) × ShowsCuts w s r) → KeepsJoined w trees kept seen.calls s marks bases seen
step_begin w trees kept s marks bases seen is plain now = record { plain = plain; told = begun_at w trees kept s marks bases seen.size seen.calls seen.told is plain now }
