-- What is kept over each call, and over each event without one.
use Rattle.std.proofs.Common.{◌≡◌, ℕ, ◌+◌, ◌≤◌, Bool, true, false, List, length, set, sym, subst, ◌∙◌, arith, ⊎_elim, Some, None, IfSome}
use Rattle.std.specs.Prelude.{slice_get}
use Rattle.fx_disk.specs.Record.{DiskRecord, Cell, Call, Write, Flush, cell_after}
use Rattle.fx_disk.specs.Steps.{IsRecordOf, MadeOrNot, with_call, with_write, with_flush}
use Rattle.fx_disk.specs.Seen.{DiskSeen, HasWritten, HasFlushed}
use Rattle.fx_disk.proofs.Left.{cell_after-with_call}
use Rattle.fx_disk.proofs.Kept.{Always-write, Always-flush}
use Rattle.fx_disk.proofs.Told.{told-map, told-both}
use Rattle.fx_disk.proofs.Frames.{no_fewer_calls}
use Rattle.fx_plain.specs.Tree.{Tree}
use Rattle.fx_uses.specs.Uses.{Use, AreUses, CellsHold, ReadsLive, since_of, last}
use Rattle.fx_uses.proofs.CellsKept.{trees_write, trees_flush}
use Rattle.fx_cuts.specs.Joined.{JoinedState, StandsAfter}
use Rattle.fx_cuts.specs.Images.{ImageMeanings, Mark, IsPrefixUpTo, LeavesPrefix, ShowsCuts}
use Rattle.fx_cuts.specs.KeepsJoined.{AreMarks, KeepsState, HoldsTrees, HoldsState, KeepsJoined}
use Rattle.fx_cuts.proofs.LiftedCalls.{lift_write, lift_flush}
use Rattle.fx_cuts.proofs.PrefixNow.{prefix_now, reads_live}
use Rattle.fx_cuts.proofs.MarksMade.{marks_later}

-- an event that leaves the transactions
abbrev pub changed : JoinedState → (ℕ → Use) → (ℕ → ℕ) → (firm settled based : ℕ) → JoinedState
changed s uses sums firm settled based = record s { blocks = record s.blocks { uses = uses; sums = sums; firm = firm; settled = settled }; based = based }

-- ---- what is kept whatever is told

pub plain_changed : (w : ImageMeanings) (s : JoinedState) (kept from calls : ℕ) (marks bases : List Mark) → KeepsState w s kept from calls marks bases → (uses : ℕ → Use) (sums : ℕ → ℕ) (firm settled based more : ℕ) (later raised : List Mark)
    → AreUses (changed s uses sums firm settled based).blocks → s.blocks.settled ≤ settled → based ≤ firm → AreMarks kept from settled more later → AreMarks s.blocks.base from based more raised → KeepsState w (changed s uses sums firm settled based) kept from more later raised
plain_changed w s kept from calls marks bases h uses sums firm settled based more later raised used up low marked noted = record {
  used = used;
  txns_are = h.txns_are;
  data_from = h.data_from;
  named = λ k ge le. h.named k (omega (arith, up, ge)) le;
  marked = marked;
  noted = noted;
  flushed = low;
}

-- ---- other moments

-- within a write no more is settled than after it
pub prefix_within : (w : ImageMeanings) (trees : ℕ → Tree) (most : ℕ) (marks bases : List Mark) (cells : ℕ → Cell) (m : ℕ) (image : List (List ℕ)) → LeavesPrefix w trees most marks bases cells (m + 1) image → LeavesPrefix w trees most marks bases cells m image
prefix_within w trees most marks bases cells m image leaves chance =
    let p : (k : ℕ) × IsPrefixUpTo w trees most marks bases (m + 1) image k = leaves chance in
    (p.0, record { base = p.1.base; points = p.1.points; txns = p.1.txns; image_is = p.1.image_is; within = p.1.within; settled = λ i mark got le. p.1.settled i mark got (omega (arith, le)); based = λ i mark got le. p.1.based i mark got (omega (arith, le)) })

-- with marks that were made later
pub prefix_marks : (w : ImageMeanings) (trees : ℕ → Tree) (most m : ℕ) (marks later bases raised : List Mark) (image : List (List ℕ)) → ((i : ℕ) (mark : Mark) → slice_get later i ≡ Some mark → mark.calls ≤ m → slice_get marks i ≡ Some mark)
    → ((i : ℕ) (mark : Mark) → slice_get raised i ≡ Some mark → mark.calls ≤ m → slice_get bases i ≡ Some mark)
    → (k : ℕ) × IsPrefixUpTo w trees most marks bases m image k → (k : ℕ) × IsPrefixUpTo w trees most later raised m image k
prefix_marks w trees most m marks later bases raised image old past p =
    (p.0, record { base = p.1.base; points = p.1.points; txns = p.1.txns; image_is = p.1.image_is; within = p.1.within; settled = λ i mark got le. p.1.settled i mark (old i mark got le) le; based = λ i mark got le. p.1.based i mark (past i mark got le) le })

-- ---- on a record of the disk

module _ (w : ImageMeanings) (trees : ℕ → Tree) (kept from : ℕ) (s : JoinedState) (marks bases : List Mark) (r : DiskRecord) (d : HoldsState w trees from s marks bases r) (uses : ℕ → Use) (sums : ℕ → ℕ) (firm settled based : ℕ) where
  pub moment_same : HoldsTrees w trees (changed s uses sums firm settled based) r → HoldsState w trees from (changed s uses sums firm settled based) marks bases r
  moment_same now = record { now = now; began = d.began; always = d.always }

  began_then : (call : Call) (contents : List (List ℕ)) (b : ℕ) → cell_after (with_call r call contents) from b ≡ w.before b
  began_then call contents b = cell_after-with_call r call contents from b d.always.since ∙ d.began b

  pub moment_write : (at : ℕ) (bytes : List ℕ) (ok : Bool) (contents : List (List ℕ)) (calls : ℕ) → KeepsState w (changed s uses sums firm settled based) kept from calls marks bases
      → HoldsTrees w trees (changed s uses sums firm settled based) (with_call r (Write at bytes ok) contents) → ShowsCuts w (changed s uses sums firm settled based) (with_call r (Write at bytes ok) contents)
      → HoldsState w trees from (changed s uses sums firm settled based) marks bases (with_call r (Write at bytes ok) contents)
  moment_write at bytes ok contents calls plain now shows = record {
    now = now;
    began = began_then (Write at bytes ok) contents;
    always = Always-write (LeavesPrefix w trees (last s.blocks) marks bases) (LeavesPrefix w trees (last s.blocks) marks bases) from r contents at bytes ok d.always
        (λ m image ge within left p. p)
        (prefix_within w trees (last s.blocks) marks bases)
        (prefix_now w trees (changed s uses sums firm settled based) kept from calls marks bases (with_call r (Write at bytes ok) contents) plain now shows);
  }

  pub moment_flush : (ok : Bool) (contents : List (List ℕ)) (calls : ℕ) (later raised : List Mark) → ((i : ℕ) (mark : Mark) → slice_get later i ≡ Some mark → mark.calls ≤ length r.calls → slice_get marks i ≡ Some mark)
      → ((i : ℕ) (mark : Mark) → slice_get raised i ≡ Some mark → mark.calls ≤ length r.calls → slice_get bases i ≡ Some mark)
      → KeepsState w (changed s uses sums firm settled based) kept from calls later raised
      → HoldsTrees w trees (changed s uses sums firm settled based) (with_call r (Flush ok) contents) → ShowsCuts w (changed s uses sums firm settled based) (with_call r (Flush ok) contents)
      → HoldsState w trees from (changed s uses sums firm settled based) later raised (with_call r (Flush ok) contents)
  moment_flush ok contents calls later raised old past plain now shows = record {
    now = now;
    began = began_then (Flush ok) contents;
    always = Always-flush (LeavesPrefix w trees (last s.blocks) marks bases) (LeavesPrefix w trees (last s.blocks) later raised) from r contents ok d.always
        (λ m image ge within left p chance. prefix_marks w trees (last s.blocks) m marks later bases raised image (λ i mark got le. old i mark got (omega (arith, le, within))) (λ i mark got le. past i mark got (omega (arith, le, within))) (p chance))
        (prefix_now w trees (changed s uses sums firm settled based) kept from calls later raised (with_call r (Flush ok) contents) plain now shows);
  }

-- ---- told or not, made or not

pub counted_by_one : (before after : ℕ) (made : Bool) (does keeps : Type 0) → MadeOrNot before after made true does keeps → after ≡ before + 1
counted_by_one before after made does keeps m = ⊎_elim (λ done. done.counted) (λ kept. let e : true ≡ false = kept.failed in absurd (cc)) m

pub where_cut : (w : ImageMeanings) (trees : ℕ → Tree) (from : ℕ) (t : JoinedState) (marks bases : List Mark) (after : DiskSeen) → IfSome after.told (λ q. ShowsCuts w t q → HoldsState w trees from t marks bases q) → IfSome after.told (ShowsCuts w t)
    → IfSome after.told (HoldsState w trees from t marks bases)
where_cut w trees from t marks bases after f shows = told-both (λ q. ShowsCuts w t q → HoldsState w trees from t marks bases q) (ShowsCuts w t) (HoldsState w trees from t marks bases) after.told (λ q f x. f x) f shows

module _ (w : ImageMeanings) (trees : ℕ → Tree) (kept from : ℕ) (s : JoinedState) (marks bases : List Mark) (before after : DiskSeen) (ok : Bool) (is : IfSome before.told (IsRecordOf before.size before.calls)) (d : KeepsJoined w trees kept from s marks bases before) (uses : ℕ → Use) (sums : ℕ → ℕ) where
  abbrev t : JoinedState
  t = changed s uses sums s.blocks.firm s.blocks.settled s.based

  abbrev Both : DiskRecord → Type 0
  Both r = IsRecordOf before.size before.calls r × HoldsState w trees from s marks bases r

  both : IfSome before.told Both
  both = told-both (IsRecordOf before.size before.calls) (HoldsState w trees from s marks bases) Both before.told (λ r a b. (a, b)) is d.told

  plain_t : AreUses t.blocks → (more : ℕ) → before.calls ≤ more → KeepsState w t kept from more marks bases
  plain_t used more le = plain_changed w s kept from before.calls marks bases d.plain uses sums s.blocks.firm s.blocks.settled s.based more marks bases used (omega arith) d.plain.flushed (marks_later kept from s.blocks.settled before.calls more marks le d.plain.marked)
      (marks_later s.blocks.base from s.based before.calls more bases le d.plain.noted)

  reads : ReadsLive (StandsAfter s trees) s.blocks
  reads = reads_live w s kept from before.calls marks bases trees d.plain

  -- a write of a block in which nothing is live
  pub over_write : AreUses t.blocks → (at : ℕ) (put : List ℕ) → since_of (s.blocks.uses at) ≡ None
      → (ok ≡ false → (r : DiskRecord) → CellsHold w.sum s.blocks r → CellsHold w.sum t.blocks r)
      → ((r : DiskRecord) (held : List ℕ) → length r.entry ≡ before.size → CellsHold w.sum s.blocks r → CellsHold w.sum t.blocks (with_write r at put ok held))
      → HasWritten before after at put ok → IfSome after.told (ShowsCuts w t) → KeepsJoined w trees kept from t marks bases after
  over_write used at put hidden same step x shows = record {
    plain = plain_t used after.calls (no_fewer_calls before.calls after.calls after.last_made ok _ _ x.made);
    told = where_cut w trees from t marks bases after
        (lift_write Both (λ q. ShowsCuts w t q → HoldsState w trees from t marks bases q) ok before after at put x
        (λ failed r i shown. moment_same w trees kept from s marks bases r i.1 uses sums s.blocks.firm s.blocks.settled s.based (record { held = same failed r i.1.now.held; trees_are = i.1.now.trees_are }))
        (λ r held holds i shown. moment_write w trees kept from s marks bases r i.1 uses sums s.blocks.firm s.blocks.settled s.based at put ok (set r.contents at held) before.calls (plain_t used before.calls (omega arith)) (record {
          held = step r held i.0.entry_size i.1.now.held;
          trees_are = trees_write (StandsAfter s trees) s.blocks r at put ok (set r.contents at held) d.plain.used reads hidden i.1.now.trees_are;
        }) shown)
        both)
        shows;
  }

module _ (w : ImageMeanings) (trees : ℕ → Tree) (kept from : ℕ) (s : JoinedState) (marks bases : List Mark) (before after : DiskSeen) (is : IfSome before.told (IsRecordOf before.size before.calls)) (d : KeepsJoined w trees kept from s marks bases before) where
  abbrev BothF : DiskRecord → Type 0
  BothF r = IsRecordOf before.size before.calls r × HoldsState w trees from s marks bases r

  bothf : IfSome before.told BothF
  bothf = told-both (IsRecordOf before.size before.calls) (HoldsState w trees from s marks bases) BothF before.told (λ r a b. (a, b)) is d.told

  pub plain_after : (more : ℕ) → before.calls ≤ more → KeepsState w s kept from more marks bases
  plain_after more le = plain_changed w s kept from before.calls marks bases d.plain s.blocks.uses s.blocks.sums s.blocks.firm s.blocks.settled s.based more marks bases d.plain.used (omega arith) d.plain.flushed (marks_later kept from s.blocks.settled before.calls more marks le d.plain.marked)
      (marks_later s.blocks.base from s.based before.calls more bases le d.plain.noted)

  -- a flush that failed settles nothing
  pub over_failed_flush : ((r : DiskRecord) → CellsHold w.sum s.blocks r → CellsHold w.sum s.blocks (with_flush r false)) → HasFlushed before after false → IfSome after.told (ShowsCuts w s) → KeepsJoined w trees kept from s marks bases after
  over_failed_flush step x shows = record {
    plain = plain_after after.calls (no_fewer_calls before.calls after.calls after.last_made false _ _ x.made);
    told = where_cut w trees from s marks bases after
        (lift_flush BothF (λ q. ShowsCuts w s q → HoldsState w trees from s marks bases q) false before after x
        (λ failed r i shown. i.1)
        (λ r i shown. moment_flush w trees kept from s marks bases r i.1 s.blocks.uses s.blocks.sums s.blocks.firm s.blocks.settled s.based false r.contents before.calls marks bases (λ j mark got le. got) (λ j mark got le. got) d.plain
        (record { held = step r i.1.now.held; trees_are = trees_flush (StandsAfter s trees) s.blocks r false r.contents i.1.now.trees_are }) shown)
        bothf)
        shows;
  }

  -- a good flush, which may settle more
  pub over_good_flush : (uses : ℕ → Use) (sums : ℕ → ℕ) (firm settled based : ℕ) (later raised : List Mark) → AreUses (changed s uses sums firm settled based).blocks → s.blocks.settled ≤ settled → based ≤ firm
      → AreMarks kept from settled (before.calls + 1) later → AreMarks s.blocks.base from based (before.calls + 1) raised
      → ((i : ℕ) (mark : Mark) → slice_get later i ≡ Some mark → mark.calls ≤ before.calls → slice_get marks i ≡ Some mark)
      → ((i : ℕ) (mark : Mark) → slice_get raised i ≡ Some mark → mark.calls ≤ before.calls → slice_get bases i ≡ Some mark)
      → ((r : DiskRecord) → CellsHold w.sum s.blocks r → CellsHold w.sum (changed s uses sums firm settled based).blocks (with_flush r true))
      → HasFlushed before after true → IfSome after.told (ShowsCuts w (changed s uses sums firm settled based)) → KeepsJoined w trees kept from (changed s uses sums firm settled based) later raised after
  over_good_flush uses sums firm settled based later raised used up low marked noted old past step x shows = record {
    plain = subst (λ (n : ℕ). KeepsState w (changed s uses sums firm settled based) kept from n later raised) (sym (counted_by_one before.calls after.calls after.last_made _ _ x.made)) plain;
    told = where_cut w trees from (changed s uses sums firm settled based) later raised after
        (lift_flush BothF (λ q. ShowsCuts w (changed s uses sums firm settled based) q → HoldsState w trees from (changed s uses sums firm settled based) later raised q) true before after x
        (λ failed r i shown. let e : true ≡ false = failed in absurd (cc))
        (λ r i shown. moment_flush w trees kept from s marks bases r i.1 uses sums firm settled based true r.contents (before.calls + 1) later raised (λ j mark got le. old j mark got (omega (arith, le, i.0.counted))) (λ j mark got le. past j mark got (omega (arith, le, i.0.counted))) plain
        (record {
          held = step r i.1.now.held;
          trees_are = λ k ge le. trees_flush (StandsAfter s trees) s.blocks r true r.contents i.1.now.trees_are k (omega (arith, up, ge)) le;
        }) shown)
        bothf)
        shows;
  }
    where
      plain : KeepsState w (changed s uses sums firm settled based) kept from (before.calls + 1) later raised
      plain = plain_changed w s kept from before.calls marks bases d.plain uses sums firm settled based (before.calls + 1) later raised used up low marked noted

-- no call was made, and the transactions stay
pub over_same : (w : ImageMeanings) (trees : ℕ → Tree) (kept from : ℕ) (s : JoinedState) (marks bases : List Mark) (seen : DiskSeen) → KeepsJoined w trees kept from s marks bases seen → (uses : ℕ → Use) (sums : ℕ → ℕ)
    → AreUses (changed s uses sums s.blocks.firm s.blocks.settled s.based).blocks → ((r : DiskRecord) → CellsHold w.sum s.blocks r → CellsHold w.sum (changed s uses sums s.blocks.firm s.blocks.settled s.based).blocks r)
    → KeepsJoined w trees kept from (changed s uses sums s.blocks.firm s.blocks.settled s.based) marks bases seen
over_same w trees kept from s marks bases seen d uses sums used step = record {
  plain = plain_changed w s kept from seen.calls marks bases d.plain uses sums s.blocks.firm s.blocks.settled s.based seen.calls marks bases used (omega arith) d.plain.flushed d.plain.marked d.plain.noted;
  told = told-map (HoldsState w trees from s marks bases) (HoldsState w trees from (changed s uses sums s.blocks.firm s.blocks.settled s.based) marks bases) seen.told
      (λ r i. moment_same w trees kept from s marks bases r i uses sums s.blocks.firm s.blocks.settled s.based (record { held = step r i.now.held; trees_are = i.now.trees_are })) d.told;
}
