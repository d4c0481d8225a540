-- The chosen superblock over the calls of a mount and a sync, by one record.
use Rattle.std.proofs.Common.{◌≡◌, ◌≢◌, ℕ, ◌≤◌, ◌<◌, inl, ⊎_elim, List, [], ◌∷◌, ◌++◌, set, Bool, true, false, length, sym, subst, ◌∙◌, ap, arith, Contains, get_or}
use Rattle.std.proofs.lemmas.Bool.{cases_Bool}
use Rattle.fx_disk.specs.Record.{Call, Write, Flush, DiskRecord, Cell, Left, LeftNow, candidates, cell_now, cell_after, settled_cell, written_cell, flushed_cell}
use Rattle.fx_disk.specs.Steps.{IsRecordOf, with_call, with_write, with_flush}
use Rattle.fx_disk.specs.Always.{Always}
use Rattle.fx_disk.proofs.Left.{Left-now, cell_now-with_call, cell_after-with_call, length-with_call}
use Rattle.fx_disk.proofs.Cells.{IsFixed, fixed-after, last-is_candidate, candidates-flush, after-write, other-block, after-write_flush}
use Rattle.fx_disk.proofs.Kept.{Always-write, Always-flush, Always-now}
use Rattle.fx_super.specs.Super.{Fields, IsSuper}
use Rattle.fx_super.specs.Chosen.{IsChosen, block_of, block_number, other}
use Rattle.fx_super.specs.declared.choice.Which.{Which}
use Rattle.fx_super.specs.declared.choice.Which.TheVariants.{A, B}
use Rattle.fx_log.specs.Chance.{HasTrueSupers}
use Rattle.fx_log.specs.Chosen.{next_generation, ChoosesSuper, ChoosesEither}
use Rattle.fx_log.specs.Raising.{LeavesEither, BeginsAt, ChoosesSince, ChoosesNext}
use Rattle.fx_super.proofs.Chosen.{one_chosen}
use Rattle.fx_log.proofs.SuperChoice.{chooses_next, chooses_either}
use Rattle.fx_disk.proofs.Flushed.{flushed-bytes, left-before}
use Rattle.fx_disk.proofs.Began.{cell_after-now}

-- what began before a call began before it also in the record after it
pub begins-before : (r : DiskRecord) (call : Call) (contents : List (List ℕ)) (from : ℕ) (f : Fields) → from ≤ length r.calls → BeginsAt (with_call r call contents) from f → BeginsAt r from f
begins-before r call contents from f le h = record {
  slots = h.slots;
  settled = λ b lt. sym (ap (λ (c : Cell). c.loose) (cell_after-with_call r call contents from b le)) ∙ h.settled b lt;
  chosen = subst (λ (a : List ℕ). ChoosesSuper f (a ∷ (cell_after r from 1).bytes ∷ [])) (ap (λ (c : Cell). c.bytes) (cell_after-with_call r call contents from 0 le))
      (subst (λ (b : List ℕ). ChoosesSuper f ((cell_after (with_call r call contents) from 0).bytes ∷ b ∷ [])) (ap (λ (c : Cell). c.bytes) (cell_after-with_call r call contents from 1 le)) h.chosen);
}

-- and nothing that is there by chance only before it
chance-before : (r : DiskRecord) (ok : Bool) (image : List (List ℕ)) → 2 ≤ length r.entry → LeftNow (with_flush r ok) image → HasTrueSupers (cell_now (with_flush r ok)) image → HasTrueSupers (cell_now r) image
chance-before r ok image slots left chance = record {
  supers = λ b two loose passes.
      let c : cell_now (with_flush r ok) b ≡ flushed_cell ok (cell_now r b) = cell_now-with_call r (Flush ok) r.contents b in
      ⊎_elim
      (λ still. candidates-flush r b ok r.contents (get_or image b []) (chance.supers b two still passes))
      (λ fixed. let lt : b < length r.entry = omega arith in
      let e : get_or image b [] ≡ (cell_now r b).bytes = left.kept b lt fixed ∙ ap (λ (c : Cell). c.bytes) c ∙ flushed-bytes ok (cell_now r b) in
      subst (λ (x : List ℕ). Contains (candidates (cell_now r b)) x) (sym e) (last-is_candidate r b r.calls))
      (cases_Bool (cell_now (with_flush r ok) b).loose);
}

pub since-flush : (from : ℕ) (r : DiskRecord) (ok : Bool) → ChoosesSince from r → ChoosesSince from (with_flush r ok)
since-flush from r ok h = record {
  since = omega (arith, h.since, length-with_call r (Flush ok) r.contents);
  always = λ f begins.
      let old : Always (LeavesEither f) from r = h.always f (begins-before r (Flush ok) r.contents from f h.since begins) in
      Always-flush (LeavesEither f) (LeavesEither f) from r r.contents ok old (λ m image ge le left p. p)
      (λ image left chance. Always-now (LeavesEither f) from r old image (left-before r ok image left) (chance-before r ok image begins.slots left chance));
}

pub next-flush : (from : ℕ) (r : DiskRecord) (ok : Bool) → from ≤ length r.calls → ChoosesNext from r → ChoosesNext from (with_flush r ok)
next-flush from r ok le h f begins image left = h f (begins-before r (Flush ok) r.contents from f le begins) image (left-before r ok image left)

module _ (size : ℕ) (r : DiskRecord) (ok : IsRecordOf size (length r.calls) r) (f : Fields) (begins : BeginsAt r (length r.calls) f) where
  fixed-now : (b : ℕ) → b < length r.entry → (cell_now r b).loose ≡ false
  fixed-now b lt = sym (ap (λ (c : Cell). c.loose) (cell_after-now r b)) ∙ begins.settled b lt

  reads-now : (b : ℕ) → b < length r.entry → (cell_now r b).bytes ≡ get_or r.contents b []
  reads-now b lt = let h : IsFixed (cell_now r b) = fixed-after r b r.calls (fixed-now b lt) in sym (ok.reads b (omega (arith, ok.entry_size)) h.good)

  -- an image with the same two slots chooses the same
  pub same_slots : (image : List (List ℕ)) (a b : List ℕ) → a ≡ get_or image 0 [] → b ≡ get_or image 1 [] → ChoosesSuper f (a ∷ b ∷ []) → ChoosesSuper f image
  same_slots image a b e k (A, h) = (
    A,
    record {
      is_super = subst (λ (x : List ℕ). IsSuper x f) e h.is_super;
      goes_before = λ g is. h.goes_before g (subst (λ (x : List ℕ). IsSuper x g) (sym k) is);
    },
  )
  same_slots image a b e k (B, h) = (
    B,
    record {
      is_super = subst (λ (x : List ℕ). IsSuper x f) k h.is_super;
      goes_before = λ g is. h.goes_before g (subst (λ (x : List ℕ). IsSuper x g) (sym e) is);
    },
  )

  slot-now : (b : ℕ) → b < 2 → (cell_after r (length r.calls) b).bytes ≡ get_or r.contents b []
  slot-now b lt = ap (λ (c : Cell). c.bytes) (cell_after-now r b) ∙ reads-now b (omega (arith, begins.slots))

  pub chosen-now : ChoosesSuper f r.contents
  chosen-now = same_slots r.contents _ _ (slot-now 0 (omega arith)) (slot-now 1 (omega arith)) begins.chosen

  -- an image that is left then has the blocks that the disk reads as
  left-slot : (image : List (List ℕ)) → LeftNow r image → (b : ℕ) → b < 2 → (cell_after r (length r.calls) b).bytes ≡ get_or image b []
  left-slot image left b two =
      let lt : b < length r.entry = omega (arith, begins.slots) in
      ap (λ (c : Cell). c.bytes) (cell_after-now r b) ∙ sym (left.kept b lt (fixed-now b lt))

  pub always-begun : Always (LeavesEither f) (length r.calls) r
  always-begun = record {
    since = omega arith;
    each = λ m image ge le left chance.
        let e : length r.calls ≡ m = omega arith in
        let left' : LeftNow r image = Left-now r image (subst (λ (k : ℕ). Left r k image) (sym e) left) in
        inl (same_slots image _ _ (left-slot image left' 0 (omega arith)) (left-slot image left' 1 (omega arith)) begins.chosen);
  }

pub since-begun : (size : ℕ) (r : DiskRecord) → IsRecordOf size (length r.calls) r → ChoosesSince (length r.calls) r
since-begun size r ok = record { since = omega arith; always = λ f begins. always-begun size r ok f begins }

not-other : (which : Which) → block_number (other which) ≢ block_number which
not-other A = λ e. absurd (omega arith)
not-other B = λ e. absurd (omega arith)

slots-below : (which : Which) → block_number which < 2
slots-below A = omega arith
slots-below B = omega arith

-- The superblock of the next generation is written over the one that is not chosen, where nothing is loose.
module _ (size : ℕ) (r : DiskRecord) (ok : IsRecordOf size (length r.calls) r) (which : Which) (f : Fields) (is : IsChosen r.contents which f)
    (bytes : List ℕ) (next : IsSuper bytes (next_generation f)) where
  -- what began here began with the chosen superblock
  begins-chosen : (g : Fields) → BeginsAt r (length r.calls) g → f ≡ g
  begins-chosen g begins = let mine : ChoosesSuper g r.contents = chosen-now size r ok g begins in (one_chosen r.contents which mine.0 f g is mine.1).1

  module _ (good : Bool) (held : List ℕ) (begins : BeginsAt r (length r.calls) f) where
    abbrev s : DiskRecord
    s = with_write r (block_number (other which)) bytes good held

    slot-lt : (w : Which) → block_number w < length r.entry
    slot-lt w = omega (arith, slots-below w, begins.slots)

    -- the chosen one stays where it is
    super-left : (image : List (List ℕ)) → LeftNow s image → IsSuper (block_of image which) f
    super-left image left =
        let same : cell_now s (block_number which) ≡ cell_now r (block_number which) = other-block r (block_number which) (block_number (other which)) bytes good (set r.contents (block_number (other which)) held) (not-other which) in
        let fixed : (cell_now s (block_number which)).loose ≡ false = ap (λ (c : Cell). c.loose) same ∙ fixed-now size r ok f begins (block_number which) (slot-lt which) in
        subst (λ (x : List ℕ). IsSuper x f)
        (sym (left.kept (block_number which) (slot-lt which) fixed ∙ ap (λ (c : Cell). c.bytes) same ∙ reads-now size r ok f begins (block_number which) (slot-lt which))) is.is_super

    -- the other place has one of two candidates
    candidates-here : candidates (cell_now s (block_number (other which))) ≡ block_of r.contents (other which) ∷ bytes ∷ []
    candidates-here =
        let b : ℕ = block_number (other which) in
        let h : IsFixed (cell_now r b) = fixed-after r b r.calls (fixed-now size r ok f begins b (slot-lt (other which))) in
        ap candidates (after-write r b bytes good (set r.contents b held)) ∙ ap (λ (cs : List (List ℕ)). (cell_now r b).settled ∷ (cs ++ bytes ∷ [])) h.since
        ∙ ap (λ (x : List ℕ). x ∷ bytes ∷ []) (h.settled ∙ reads-now size r ok f begins b (slot-lt (other which)))

    either-left : (image : List (List ℕ)) → LeftNow s image → HasTrueSupers (cell_now s) image → ChoosesEither f image
    either-left image left chance =
        chooses_either which f image (block_of r.contents (other which)) bytes (super-left image left) is.goes_before next
        (λ passes. subst (λ (xs : List (List ℕ)). Contains xs (block_of image (other which))) candidates-here
        (chance.supers (block_number (other which)) (slots-below (other which)) (ap (λ (c : Cell). c.loose) (after-write r (block_number (other which)) bytes good (set r.contents (block_number (other which)) held))) passes))

    always-raised : Always (LeavesEither f) (length r.calls) s
    always-raised = Always-write (LeavesEither f) (LeavesEither f) (length r.calls) r (set r.contents (block_number (other which)) held) (block_number (other which)) bytes good (always-begun size r ok f begins)
        (λ m image ge le left p. p) (λ cells m image p. p) (λ image left chance. either-left image left chance)

  pub since-raise : (good : Bool) (held : List ℕ) → ChoosesSince (length r.calls) (with_write r (block_number (other which)) bytes good held)
  since-raise good held = record {
    since = omega (arith, length-with_call r (Write (block_number (other which)) bytes good) []);
    always = λ g begins.
        let begins' : BeginsAt r (length r.calls) g = begins-before r (Write (block_number (other which)) bytes good) (set r.contents (block_number (other which)) held) (length r.calls) g (omega arith) begins in
        let same : f ≡ g = begins-chosen g begins' in
        subst (λ (x : Fields). Always (LeavesEither x) (length r.calls) (with_write r (block_number (other which)) bytes good held)) same
        (always-raised good held (subst (λ (x : Fields). BeginsAt r (length r.calls) x) (sym same) begins'));
  }

  -- once it is flushed, it is the chosen one of what is left
  pub next-raised : (held : List ℕ) → ChoosesNext (length r.calls) (with_flush (with_write r (block_number (other which)) bytes true held) true)
  next-raised held g begins image left =
      let t : DiskRecord = with_write r (block_number (other which)) bytes true held in
      let b : ℕ = block_number (other which) in
      let le : length r.calls ≤ length t.calls = omega (arith, length-with_call r (Write b bytes true) []) in
      let begins' : BeginsAt r (length r.calls) g = begins-before r (Write b bytes true) (set r.contents b held) (length r.calls) g (omega arith) (begins-before t (Flush true) t.contents (length r.calls) g le begins) in
      let same : f ≡ g = begins-chosen g begins' in
      let mine : BeginsAt r (length r.calls) f = subst (λ (x : Fields). BeginsAt r (length r.calls) x) (sym same) begins' in
      let c : cell_now (with_flush t true) b ≡ settled_cell (written_cell bytes true (cell_now r b)) = after-write_flush r b bytes (set r.contents b held) (set r.contents b held) in
      let here : get_or image b [] ≡ bytes = left.kept b (slot-lt true held mine (other which)) (ap (λ (c : Cell). c.loose) c) ∙ ap (λ (c : Cell). c.bytes) c in
      subst (λ (x : Fields). ChoosesSuper (next_generation x) image) same
      (chooses_next which f image (block_of r.contents (other which)) bytes (super-left true held mine image (left-before t true image left)) is.goes_before next (sym here))
