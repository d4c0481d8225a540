-- While a mount drops transactions: each image left shows them still, or no more, and keeps the same number.
use Rattle.std.proofs.Common.{◌≡◌, ℕ, ◌+◌, ◌<◌, ◌≤◌, ◌&&◌, Bool, true, false, if◌then◌else◌, List, ◌++◌, length, map, set, refl, sym, ap, subst, ◌∙◌, arith, ◌⊎◌, inl, inr, Option, Some, None, IfSome}
use Rattle.std.specs.Prelude.{nat_le, nat_lt, slice_get}
use Rattle.std.proofs.Math.Path.{fun_ext}
use Rattle.std.proofs.lemmas.Bool.{ltb-true, leb-true}
use Rattle.fx_disk.specs.Record.{DiskRecord, Cell, LeftNow, Write, Flush, cell_now, cell_after, settled_cell}
use Rattle.fx_disk.specs.Steps.{IsRecordOf, with_call, with_flush}
use Rattle.fx_disk.specs.Always.{Always, HoldsNow}
use Rattle.fx_disk.specs.Seen.{DiskSeen, HasWritten, HasFlushed}
use Rattle.fx_disk.proofs.Left.{cell_after-with_call}
use Rattle.fx_disk.proofs.Cells.{other-block, after-good_flush, after-failed_flush}
use Rattle.fx_disk.proofs.Kept.{Always-write, Always-flush, Always-start}
use Rattle.fx_disk.proofs.Told.{told-map, told-both}
use Rattle.fx_disk.proofs.Frames.{no_fewer_calls}
use Rattle.fx_plain.specs.Tree.{Tree}
use Rattle.fx_contents.specs.Points.{Points}
use Rattle.fx_uses.specs.Live.{Txn, txn_of, AreNumbered}
use Rattle.fx_uses.specs.Uses.{System, BlockUses, CellsHold, last, bytes_now, image_block, IsGood, since_of, wanted}
use Rattle.fx_uses.proofs.LiveOverLists.{numbered_rest}
use Rattle.fx_uses.proofs.CellsKept.{held_written, held_flushed, held_failed_flush, trees_write, trees_flush}
use Rattle.fx_kept.specs.Kept.{sum_found, IsKeptUpTo, IsKeptIn, none_live}
use Rattle.fx_kept.proofs.KeptAtMount.{kept_same, kept_cut}
use Rattle.fx_kept.proofs.LiveBlocks.{live_good, live_firm}
use Rattle.fx_cuts.specs.Joined.{JoinedState, NumberedItems, StandsAfter, points_up_to, points_at}
use Rattle.fx_cuts.specs.Images.{ImageMeanings, Mark, IsPrefixUpTo, LeavesPrefix, IsSoundFrom}
use Rattle.fx_cuts.specs.KeepsJoined.{KeepsState, HoldsTrees, HoldsState, KeepsJoined, HoldsPast, DropsBeyond, ShowsFound, KeepsMounting}
use Rattle.fx_cuts.proofs.LiftedCalls.{lift_write, lift_flush}
use Rattle.fx_cuts.proofs.PointsUpTo.{One, mapped_append, mapped_length, points_append, points_beyond, least_of}
use Rattle.fx_cuts.proofs.PrefixNow.{stands_alike, image_up_to, reads_live}
use Rattle.fx_cuts.proofs.JoinedEvents.{plain_after, prefix_within}

-- ---- the sums that are found in an image

module _ (w : ImageMeanings) (entry : List (List ℕ)) (r : DiskRecord) (size : length entry ≡ length r.entry) (past : HoldsPast w.first_data entry r) (image : List (List ℕ)) (left : LeftNow r image) where
  found_alike : (b : ℕ) → sum_found w.sum w.first_data entry b ≡ sum_found w.sum w.first_data image b
  found_alike b = by (nat_le w.first_data b) refl (nat_lt b (length entry)) refl
    where
      lengths : nat_lt b (length image) ≡ nat_lt b (length entry)
      lengths = ap (nat_lt b) (left.size ∙ sym size)

      by : (s : Bool) → nat_le w.first_data b ≡ s → (t : Bool) → nat_lt b (length entry) ≡ t → sum_found w.sum w.first_data entry b ≡ sum_found w.sum w.first_data image b
      by false e t q =
          ap (λ (c : Bool). if c && nat_lt b (length entry) then Some (w.sum (image_block entry b)) else None) e
          ∙ sym (ap (λ (c : Bool). if c && nat_lt b (length image) then Some (w.sum (image_block image b)) else None) e)
      by true e false q =
          ap (λ (c : Bool). if c && nat_lt b (length entry) then Some (w.sum (image_block entry b)) else None) e
          ∙ ap (λ (c : Bool). if c then Some (w.sum (image_block entry b)) else None) q
          ∙ sym (ap (λ (c : Bool). if c && nat_lt b (length image) then Some (w.sum (image_block image b)) else None) e
          ∙ ap (λ (c : Bool). if c then Some (w.sum (image_block image b)) else None) (lengths ∙ q))
      by true e true q =
          let lt : b < length r.entry = omega (arith, ltb-true b (length entry) q, size) in
          let at = past b (leb-true w.first_data b e) lt in
          let same : image_block entry b ≡ image_block image b = sym at.2 ∙ sym (left.kept b lt at.1) in
          ap (λ (bytes : List ℕ). if nat_le w.first_data b && nat_lt b (length entry) then Some (w.sum bytes) else None) same
          ∙ ap (λ (c : Bool). if nat_le w.first_data b && c then Some (w.sum (image_block image b)) else None) (sym lengths)

-- ---- one image

module _ (w : ImageMeanings) (trees : ℕ → Tree) (s : JoinedState) (kept from calls : ℕ) (beyond : NumberedItems) (marks bases : List Mark) (r : DiskRecord) (plain : KeepsState w s kept from calls marks bases) (whole : s.blocks.settled ≡ last s.blocks) (first : s.based ≡ s.blocks.base)
    (numbered : AreNumbered s.blocks.base (map txn_of (s.txns ++ beyond))) (now : HoldsTrees w trees s r) (entry : List (List ℕ)) (drops : DropsBeyond w s beyond entry r) where
  last_is : last s.blocks ≡ s.blocks.base + length s.txns
  last_is = ap (λ (ts : List Txn). s.blocks.base + length ts) plain.txns_are ∙ ap (λ (n : ℕ). s.blocks.base + n) (mapped_length s.txns)

  pieces : AreNumbered s.blocks.base (map txn_of s.txns ++ map txn_of beyond)
  pieces = subst (λ (ts : List Txn). AreNumbered s.blocks.base ts) (mapped_append s.txns beyond) numbered

  beyond_least : (i : ℕ) (t : One) → slice_get beyond i ≡ Some t → last s.blocks < t.0
  beyond_least i t got =
      let rest : AreNumbered (s.blocks.base + length (map txn_of s.txns)) (map txn_of beyond) = numbered_rest s.blocks.base (map txn_of s.txns) (map txn_of beyond) pieces in
      let lt : s.blocks.base + length (map txn_of s.txns) < t.0 = least_of (s.blocks.base + length (map txn_of s.txns)) beyond rest i t got in
      omega (arith, lt, mapped_length s.txns, last_is)

  module _ (image : List (List ℕ)) (left : LeftNow r image) where
    -- the number is kept of all that were found, and of those that are left
    kept_found : IsKeptIn w.sum w.first_data image s.blocks.base (s.txns ++ beyond) (last s.blocks)
    kept_found = kept_same (sum_found w.sum w.first_data entry) (sum_found w.sum w.first_data image) s.blocks.base none_live (map txn_of (s.txns ++ beyond)) (last s.blocks)
        (λ n b put. found_alike w entry r drops.size drops.past image left b) drops.kept

    kept_left : IsKeptIn w.sum w.first_data image s.blocks.base s.txns (last s.blocks)
    kept_left =
        let e : last s.blocks ≡ s.blocks.base + length (map txn_of s.txns) = omega (arith, last_is, mapped_length s.txns) in
        subst (λ (n : ℕ). IsKeptUpTo (sum_found w.sum w.first_data image) s.blocks.base none_live (map txn_of s.txns) n) (sym e)
        (kept_cut (sum_found w.sum w.first_data image) s.blocks.base none_live (map txn_of s.txns) (map txn_of beyond) pieces
        (subst (λ (n : ℕ). IsKeptUpTo (sum_found w.sum w.first_data image) s.blocks.base none_live (map txn_of s.txns ++ map txn_of beyond) n) e
        (subst (λ (ts : List Txn). IsKeptUpTo (sum_found w.sum w.first_data image) s.blocks.base none_live ts (last s.blocks)) (mapped_append s.txns beyond) kept_found)))

    -- nothing of it is torn
    stands_there : StandsAfter s trees (last s.blocks) (image_block image)
    stands_there =
        let up : s.blocks.settled ≤ last s.blocks = omega (arith, whole) in
        let firm : last s.blocks ≤ s.blocks.firm = omega (arith, whole, plain.used.firm) in
        stands_alike s trees (last s.blocks) (bytes_now r) (image_block image) (plain.named (last s.blocks) up (omega arith))
        (λ b x live.
        let good : IsGood (length r.entry) b (cell_now r b) = live_good w.sum s.blocks r plain.used now.held (last s.blocks) b x up (omega arith) live in
        sym (left.kept b good.within (live_firm w.sum s.blocks r plain.used now.held (last s.blocks) b x up (omega arith) live firm)))
        (now.trees_are (last s.blocks) up (omega arith))

    pub prefix_found : (m : ℕ) (points : Points) (txns : NumberedItems) → w.Shows image s.blocks.base points txns → ((p : _) → points p ≡ s.opening p) → (txns ≡ s.txns) ⊎ (txns ≡ s.txns ++ beyond) → IsSoundFrom w s.blocks.settled image s.blocks.base points txns
        → (k : ℕ) × IsPrefixUpTo w trees (last s.blocks) marks bases m image k
    prefix_found m points txns shows opens which sound = (
      last s.blocks,
      record {
        base = s.blocks.base;
        points = points;
        txns = txns;
        image_is = elim which [
          | inl same ↦ image_up_to w s trees image s.blocks.base points txns (last s.blocks) shows
              (subst (λ (ts : NumberedItems). IsKeptIn w.sum w.first_data image s.blocks.base ts (last s.blocks)) (sym same) kept_left) (sound (last s.blocks) (omega (arith, whole)) (subst (λ (ts : NumberedItems). IsKeptIn w.sum w.first_data image s.blocks.base ts (last s.blocks)) (sym same) kept_left))
              (ap (λ (m : Points). points_up_to m txns (last s.blocks)) (fun_ext opens) ∙ ap (λ (ts : NumberedItems). points_up_to s.opening ts (last s.blocks)) same) stands_there
          | inr more ↦ image_up_to w s trees image s.blocks.base points txns (last s.blocks) shows
              (subst (λ (ts : NumberedItems). IsKeptIn w.sum w.first_data image s.blocks.base ts (last s.blocks)) (sym more) kept_found) (sound (last s.blocks) (omega (arith, whole)) (subst (λ (ts : NumberedItems). IsKeptIn w.sum w.first_data image s.blocks.base ts (last s.blocks)) (sym more) kept_found))
              (ap (λ (m : Points). points_up_to m txns (last s.blocks)) (fun_ext opens) ∙ ap (λ (ts : NumberedItems). points_up_to s.opening ts (last s.blocks)) more
              ∙ points_append s.opening s.txns beyond (last s.blocks) ∙ points_beyond (points_at s (last s.blocks)) beyond (last s.blocks) beyond_least) stands_there
        ];
        within = omega arith;
        settled = λ i mark got le. let a : mark.number ≤ s.blocks.settled = plain.marked.settled_by i mark got in omega (arith, a, whole);
        based = λ i mark got le. let a : mark.number ≤ s.based = plain.noted.settled_by i mark got in omega (arith, a, first);
      },
    )

  pub found_now : ShowsFound w s beyond r → HoldsNow (LeavesPrefix w trees (last s.blocks) marks bases) r
  found_now shows image left chance =
      let f : (points : Points) × (txns : NumberedItems) × w.Shows image s.blocks.base points txns × ((p : _) → points p ≡ s.opening p) × ((txns ≡ s.txns) ⊎ (txns ≡ s.txns ++ beyond)) × IsSoundFrom w s.blocks.settled image s.blocks.base points txns = shows image left chance.formed in
      prefix_found image left (length r.calls) f.0 f.1 f.2 f.3 f.4 f.5

-- ---- what a call leaves of the image at entry

past_write : (first_data : ℕ) (entry : List (List ℕ)) (r : DiskRecord) (at : ℕ) (bytes : List ℕ) (ok : Bool) (contents : List (List ℕ)) → at < first_data → HoldsPast first_data entry r → HoldsPast first_data entry (with_call r (Write at bytes ok) contents)
past_write first_data entry r at bytes ok contents below h b above lt =
    let same : cell_now (with_call r (Write at bytes ok) contents) b ≡ cell_now r b = other-block r b at bytes ok contents (λ e. omega (arith, e, below, above)) in
    let at' = h b above lt in
    (ap (λ (c : Cell). c.failed) same ∙ at'.0, ap (λ (c : Cell). c.loose) same ∙ at'.1, ap (λ (c : Cell). c.bytes) same ∙ at'.2)

past_flush : (first_data : ℕ) (entry : List (List ℕ)) (r : DiskRecord) (ok : Bool) (contents : List (List ℕ)) → HoldsPast first_data entry r → HoldsPast first_data entry (with_call r (Flush ok) contents)
past_flush first_data entry r true contents h b above lt =
    let at' = h b above lt in
    let same : cell_now (with_call r (Flush true) contents) b ≡ settled_cell (cell_now r b) = after-good_flush r b contents at'.0 in
    (ap (λ (c : Cell). c.failed) same, ap (λ (c : Cell). c.loose) same, ap (λ (c : Cell). c.bytes) same ∙ at'.2)
past_flush first_data entry r false contents h b above lt =
    let at' = h b above lt in
    let same : cell_now (with_call r (Flush false) contents) b ≡ cell_now r b = after-failed_flush r b contents in
    (ap (λ (c : Cell). c.failed) same ∙ at'.0, ap (λ (c : Cell). c.loose) same ∙ at'.1, ap (λ (c : Cell). c.bytes) same ∙ at'.2)

-- a good flush where all is flushed already
held_flush : (sum : List ℕ → ℕ) (s : BlockUses) (r : DiskRecord) (ok : Bool) → s.firm ≡ last s → CellsHold sum s r → CellsHold sum s (with_flush r ok)
held_flush sum s r true e h = subst (λ (n : ℕ). CellsHold sum (record s { firm = n }) (with_flush r true)) (sym e) (held_flushed sum s r h)
held_flush sum s r false e h = held_failed_flush sum s r h

module _ (w : ImageMeanings) (trees : ℕ → Tree) (kept from : ℕ) (s : JoinedState) (beyond : NumberedItems) (marks bases : List Mark) where
  abbrev pub Mounting : DiskRecord → Type 0
  Mounting r = HoldsState w trees from s marks bases r × ((entry : List (List ℕ)) × DropsBeyond w s beyond entry r)

  module _ (before after : DiskSeen) (ok : Bool) (is : IfSome before.told (IsRecordOf before.size before.calls)) (d : KeepsMounting w trees kept from s beyond marks bases before) where
    joined : KeepsJoined w trees kept from s marks bases before
    joined = record { plain = d.plain; told = told-map Mounting (HoldsState w trees from s marks bases) before.told (λ r i. i.0) d.told }

    plain_then : before.calls ≤ after.calls → KeepsState w s kept from after.calls marks bases
    plain_then le = plain_after w trees kept from s marks bases before after is joined after.calls le

    abbrev BothM : DiskRecord → Type 0
    BothM r = IsRecordOf before.size before.calls r × Mounting r

    bothm : IfSome before.told BothM
    bothm = told-both (IsRecordOf before.size before.calls) Mounting BothM before.told (λ r a b. (a, b)) is d.told

    shown_then : IfSome after.told (λ q. ShowsFound w s beyond q → Mounting q) → IfSome after.told (ShowsFound w s beyond) → IfSome after.told Mounting
    shown_then f shows = told-both (λ q. ShowsFound w s beyond q → Mounting q) (ShowsFound w s beyond) Mounting after.told (λ q f x. f x) f shows

    firm_is : s.blocks.firm ≡ last s.blocks
    firm_is = omega (arith, d.whole, d.plain.used.firm, d.plain.used.most)

    pub drop_write : (at : ℕ) (put : List ℕ) → at < w.first_data → HasWritten before after at put ok → IfSome after.told (ShowsFound w s beyond) → KeepsMounting w trees kept from s beyond marks bases after
    drop_write at put below x shows = record {
      plain = plain_then (no_fewer_calls before.calls after.calls after.last_made ok _ _ x.made);
      whole = d.whole;
      first = d.first;
      numbered = d.numbered;
      told = shown_then (lift_write BothM (λ q. ShowsFound w s beyond q → Mounting q) ok before after at put x
          (λ failed r i shown. i.1)
          (λ r held holds i shown. next r (set r.contents at held) i.1 shown)
          bothm) shows;
    }
      where
        system : s.blocks.uses at ≡ System
        system = d.plain.used.system at (omega (arith, below, d.plain.data_from))

        next : (r : DiskRecord) (contents : List (List ℕ)) → Mounting r → ShowsFound w s beyond (with_call r (Write at put ok) contents) → Mounting (with_call r (Write at put ok) contents)
        next r contents i shown =
            let drops : DropsBeyond w s beyond i.1.0 (with_call r (Write at put ok) contents) = record { size = i.1.1.size; past = past_write w.first_data i.1.0 r at put ok contents below i.1.1.past; kept = i.1.1.kept } in
            let now : HoldsTrees w trees s (with_call r (Write at put ok) contents) = record {
              held = held_written w.sum s.blocks r at put ok contents (ap wanted system) i.0.now.held;
              trees_are = trees_write (StandsAfter s trees) s.blocks r at put ok contents d.plain.used (reads_live w s kept from before.calls marks bases trees d.plain) (ap since_of system) i.0.now.trees_are;
            } in (
              record {
                now = now;
                began = λ b. cell_after-with_call r (Write at put ok) contents from b i.0.always.since ∙ i.0.began b;
                always = Always-write (LeavesPrefix w trees (last s.blocks) marks bases) (LeavesPrefix w trees (last s.blocks) marks bases) from r contents at put ok i.0.always (λ m image ge within left p. p)
                    (prefix_within w trees (last s.blocks) marks bases)
                    (found_now w trees s kept from before.calls beyond marks bases (with_call r (Write at put ok) contents) d.plain d.whole d.first d.numbered now i.1.0 drops shown);
              },
              (i.1.0, drops),
            )

    pub drop_flush : HasFlushed before after ok → IfSome after.told (ShowsFound w s beyond) → KeepsMounting w trees kept from s beyond marks bases after
    drop_flush x shows = record {
      plain = plain_then (no_fewer_calls before.calls after.calls after.last_made ok _ _ x.made);
      whole = d.whole;
      first = d.first;
      numbered = d.numbered;
      told = shown_then (lift_flush BothM (λ q. ShowsFound w s beyond q → Mounting q) ok before after x
          (λ failed r i shown. i.1)
          (λ r i shown. next r i.1 shown)
          bothm) shows;
    }
      where
        next : (r : DiskRecord) → Mounting r → ShowsFound w s beyond (with_flush r ok) → Mounting (with_flush r ok)
        next r i shown =
            let drops : DropsBeyond w s beyond i.1.0 (with_flush r ok) = record { size = i.1.1.size; past = past_flush w.first_data i.1.0 r ok r.contents i.1.1.past; kept = i.1.1.kept } in
            let now : HoldsTrees w trees s (with_flush r ok) = record {
              held = held_flush w.sum s.blocks r ok firm_is i.0.now.held;
              trees_are = trees_flush (StandsAfter s trees) s.blocks r ok r.contents i.0.now.trees_are;
            } in (
              record {
                now = now;
                began = λ b. cell_after-with_call r (Flush ok) r.contents from b i.0.always.since ∙ i.0.began b;
                always = Always-flush (LeavesPrefix w trees (last s.blocks) marks bases) (LeavesPrefix w trees (last s.blocks) marks bases) from r r.contents ok i.0.always (λ m image ge within left p. p)
                    (found_now w trees s kept from before.calls beyond marks bases (with_flush r ok) d.plain d.whole d.first d.numbered now i.1.0 drops shown);
              },
              (i.1.0, drops),
            )

  -- the window is over
  pub drop_end : (seen : DiskSeen) → KeepsMounting w trees kept from s beyond marks bases seen → KeepsJoined w trees kept from s marks bases seen
  drop_end seen d = record { plain = d.plain; told = told-map Mounting (HoldsState w trees from s marks bases) seen.told (λ r i. i.0) d.told }

-- where it begins
begun_dropping : (w : ImageMeanings) (trees : ℕ → Tree) (kept : ℕ) (s : JoinedState) (beyond : NumberedItems) (marks bases : List Mark) (size calls : ℕ) (told : Option DiskRecord) → IfSome told (IsRecordOf size calls) → KeepsState w s kept calls calls marks bases → s.blocks.settled ≡ last s.blocks → s.based ≡ s.blocks.base → AreNumbered s.blocks.base (map txn_of (s.txns ++ beyond))
    → IfSome told (λ r. HoldsTrees w trees s r × ((b : ℕ) → cell_after r calls b ≡ w.before b) × ((entry : List (List ℕ)) × DropsBeyond w s beyond entry r) × ShowsFound w s beyond r) → IfSome told (Mounting w trees kept calls s beyond marks bases)
begun_dropping w trees kept s beyond marks bases size calls None is plain whole first numbered now = tt
begun_dropping w trees kept s beyond marks bases size calls (Some r) is plain whole first numbered now = (
  record {
    now = now.0;
    began = now.1;
    always = subst (λ (n : ℕ). Always (LeavesPrefix w trees (last s.blocks) marks bases) n r) is.counted (Always-start (LeavesPrefix w trees (last s.blocks) marks bases) r (found_now w trees s kept calls calls beyond marks bases r plain whole first numbered now.0 now.2.0 now.2.1 now.3));
  },
  now.2,
)

pub drop_begin : (w : ImageMeanings) (trees : ℕ → Tree) (kept : ℕ) (s : JoinedState) (beyond : NumberedItems) (marks bases : List Mark) (seen : DiskSeen) → IfSome seen.told (IsRecordOf seen.size seen.calls) → KeepsState w s kept seen.calls seen.calls marks bases → s.blocks.settled ≡ last s.blocks → s.based ≡ s.blocks.base → AreNumbered s.blocks.base (map txn_of (s.txns ++ beyond))
    → IfSome seen.told (λ r. HoldsTrees w trees s r × ((b : ℕ) → cell_after r seen.calls b ≡ w.before b) × ((entry : List (List ℕ)) × DropsBeyond w s beyond entry r) × ShowsFound w s beyond r) → KeepsMounting w trees kept seen.calls s beyond marks bases seen
drop_begin w trees kept s beyond marks bases seen is plain whole first numbered now = record { plain = plain; whole = whole; first = first; numbered = numbered; told = begun_dropping w trees kept s beyond marks bases seen.size seen.calls seen.told is plain whole first numbered now }
