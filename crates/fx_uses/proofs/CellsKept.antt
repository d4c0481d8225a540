-- Each call of the disk keeps what the uses want of the cells.
use Rattle.std.proofs.Common.{◌≡◌, ℕ, ◌<◌, ◌≤◌, ◌&&◌, not, if◌then◌else◌, Bool, true, false, List, length, set, refl, sym, ap, subst, ◌∙◌, arith, inl, inr, None}
use Rattle.std.proofs.lemmas.Bool.Decides.{eqb_tells}
use Rattle.std.proofs.Math.Path.{fun_ext}
use Rattle.fx_disk.specs.Record.{Write, Flush, DiskRecord, Cell, cell_now, settled_cell, flushed_cell}
use Rattle.fx_disk.specs.Steps.{with_call, with_write, with_flush}
use Rattle.fx_disk.proofs.Left.{cell_now-with_call}
use Rattle.fx_disk.proofs.Cells.{after-write, other-block, after-good_flush, after-failed_flush}
use Rattle.fx_uses.specs.Live.{Txn}
use Rattle.fx_uses.specs.Uses.{Use, Drawn, Staged, Live, Freed, Layer, Aside, Laid, Pinned, IsDrawnFor, BlockUses, CellsHold, AreUses, ReadsLive, IsOurs, Want, Nothing, Good, Firm, wanted, HasWanted, IsGood, bytes_now, since_of, last}
use Rattle.fx_uses.specs.Events.{with_use, with_put, with_stage, with_committed, IsNextOf, with_rollback, with_flushed, with_settling, laid_firm, with_layers_flushed, switched, with_switch, pin_ended, with_pin_ended, with_laid, abandoned, with_anew}
use Rattle.fx_uses.proofs.UseOverEvent.{has_commit, has_given, has_let_go, ours_commit, ours_given, ours_let_go}
use Rattle.fx_uses.proofs.UsesKept.{live_not_hidden}

-- ---- no call

pub held_use : (sum : List ℕ → ℕ) (s : BlockUses) (r : DiskRecord) (at : ℕ) (to : Use) → CellsHold sum s r → HasWanted (length r.entry) at s.firm (wanted to) (cell_now r at) → (IsOurs s.right to → ⊥) → CellsHold sum (with_use s at to) r
held_use sum s r at to h new never = record {
  each = λ b. elim (eqb_tells at b) [
    | inl same ↦ subst (λ (t : Bool). HasWanted (length r.entry) b s.firm (wanted (if t then to else s.uses b)) (cell_now r b)) (sym same.0)
        (subst (λ (c : ℕ). HasWanted (length r.entry) c s.firm (wanted to) (cell_now r c)) same.1 new)
    | inr other ↦ subst (λ (t : Bool). HasWanted (length r.entry) b s.firm (wanted (if t then to else s.uses b)) (cell_now r b)) (sym other.0) (h.each b)
  ];
  stated = λ b. elim (eqb_tells at b) [
    | inl same ↦ subst (λ (t : Bool). IsOurs s.right (if t then to else s.uses b) → sum (bytes_now r b) ≡ s.sums b) (sym same.0) (λ o. absurd (never o))
    | inr other ↦ subst (λ (t : Bool). IsOurs s.right (if t then to else s.uses b) → sum (bytes_now r b) ≡ s.sums b) (sym other.0) (h.stated b)
  ];
}

pub held_commit : (sum : List ℕ → ℕ) (s : BlockUses) (r : DiskRecord) (who : ℕ) (t : Txn) → AreUses s → IsNextOf s who t → CellsHold sum s r → CellsHold sum (with_committed s who t) r
held_commit sum s r who t used ready h = record {
  each = λ b. has_commit (length r.entry) b s.firm who t.number (t.frees b) (s.uses b) (cell_now r b) (omega (arith, used.most, ready.number)) (h.each b);
  stated = λ b ours. h.stated b (ours_commit s.right who t.number (t.frees b) (s.uses b) ours);
}

pub held_rollback : (sum : List ℕ → ℕ) (s : BlockUses) (r : DiskRecord) (who : ℕ) → CellsHold sum s r → CellsHold sum (with_rollback s who) r
held_rollback sum s r who h = record {
  each = λ b. has_given (length r.entry) b s.firm who (s.uses b) (cell_now r b) (h.each b);
  stated = λ b ours. h.stated b (ours_given s.right who (s.uses b) ours);
}

pub held_settled : (sum : List ℕ → ℕ) (s : BlockUses) (r : DiskRecord) (n : ℕ) → CellsHold sum s r → CellsHold sum (with_settling s n) r
held_settled sum s r n h = record {
  each = λ b. has_let_go (length r.entry) b s.firm n (s.uses b) (cell_now r b) (h.each b);
  stated = λ b ours. h.stated b (ours_let_go s.right n (s.uses b) ours);
}

-- ---- a write

pub ours_wanted : (base : ℕ) (u : Use) → wanted u ≡ Nothing → IsOurs base u → ⊥
ours_wanted base (Staged w) e ours = cc
ours_wanted base (Live a) e ours = cc
ours_wanted base (Freed a m) e ours = cc
ours_wanted base u e ours = ours

-- a write of a block of which nothing is wanted
pub held_written : (sum : List ℕ → ℕ) (s : BlockUses) (r : DiskRecord) (at : ℕ) (put : List ℕ) (ok : Bool) (contents : List (List ℕ)) → wanted (s.uses at) ≡ Nothing → CellsHold sum s r → CellsHold sum s (with_call r (Write at put ok) contents)
held_written sum s r at put ok contents free h = record {
  each = λ b. elim (eqb_tells at b) [
    | inl same ↦ subst (λ (w : Want). HasWanted (length r.entry) b s.firm w (cell_now (with_call r (Write at put ok) contents) b)) (sym free ∙ ap (λ (c : ℕ). wanted (s.uses c)) same.1) tt
    | inr other ↦ subst (λ (c : Cell). HasWanted (length r.entry) b s.firm (wanted (s.uses b)) c) (sym (other-block r b at put ok contents other.1)) (h.each b)
  ];
  stated = λ b ours. elim (eqb_tells at b) [
    | inl same ↦ absurd (ours_wanted s.right (s.uses b) (sym (ap (λ (c : ℕ). wanted (s.uses c)) same.1) ∙ free) ours)
    | inr other ↦ ap (λ (c : Cell). sum c.bytes) (other-block r b at put ok contents other.1) ∙ h.stated b ours
  ];
}

-- any write, after which the block has a use that wants nothing
pub held_lost : (sum : List ℕ → ℕ) (s : BlockUses) (r : DiskRecord) (at : ℕ) (put : List ℕ) (ok : Bool) (contents : List (List ℕ)) (to : Use) → wanted to ≡ Nothing → (IsOurs s.right to → ⊥) → CellsHold sum s r
    → CellsHold sum (with_use s at to) (with_call r (Write at put ok) contents)
held_lost sum s r at put ok contents to free never h = record {
  each = λ b. elim (eqb_tells at b) [
    | inl same ↦ subst (λ (t : Bool). HasWanted (length r.entry) b s.firm (wanted (if t then to else s.uses b)) (cell_now (with_call r (Write at put ok) contents) b)) (sym same.0)
        (subst (λ (w : Want). HasWanted (length r.entry) b s.firm w (cell_now (with_call r (Write at put ok) contents) b)) (sym free) tt)
    | inr other ↦ subst (λ (t : Bool). HasWanted (length r.entry) b s.firm (wanted (if t then to else s.uses b)) (cell_now (with_call r (Write at put ok) contents) b)) (sym other.0)
        (subst (λ (c : Cell). HasWanted (length r.entry) b s.firm (wanted (s.uses b)) c) (sym (other-block r b at put ok contents other.1)) (h.each b))
  ];
  stated = λ b. elim (eqb_tells at b) [
    | inl same ↦ subst (λ (t : Bool). IsOurs s.right (if t then to else s.uses b) → sum (bytes_now (with_call r (Write at put ok) contents) b) ≡ s.sums b) (sym same.0) (λ o. absurd (never o))
    | inr other ↦ subst (λ (t : Bool). IsOurs s.right (if t then to else s.uses b) → sum (bytes_now (with_call r (Write at put ok) contents) b) ≡ s.sums b) (sym other.0)
        (λ ours. ap (λ (c : Cell). sum c.bytes) (other-block r b at put ok contents other.1) ∙ h.stated b ours)
  ];
}

-- a good write, after which the block has a use that wants no more than that
pub held_put : (sum : List ℕ → ℕ) (s : BlockUses) (r : DiskRecord) (at : ℕ) (put : List ℕ) (to : Use) (contents : List (List ℕ)) → at < length r.entry → wanted to ≡ Good → CellsHold sum s r
    → CellsHold sum (with_put s at to (sum put)) (with_call r (Write at put true) contents)
held_put sum s r at put to contents lt wants h = record {
  each = λ b. elim (eqb_tells at b) [
    | inl same ↦ subst (λ (t : Bool). HasWanted (length r.entry) b s.firm (wanted (if t then to else s.uses b)) (cell_now (with_call r (Write at put true) contents) b)) (sym same.0)
        (subst (λ (w : Want). HasWanted (length r.entry) b s.firm w (cell_now (with_call r (Write at put true) contents) b)) (sym wants)
        (subst (λ (c : ℕ). IsGood (length r.entry) c (cell_now (with_call r (Write at put true) contents) c)) same.1
        (subst (λ (c : Cell). IsGood (length r.entry) at c) (sym (after-write r at put true contents)) (record { within = lt; good = refl }))))
    | inr other ↦ subst (λ (t : Bool). HasWanted (length r.entry) b s.firm (wanted (if t then to else s.uses b)) (cell_now (with_call r (Write at put true) contents) b)) (sym other.0)
        (subst (λ (c : Cell). HasWanted (length r.entry) b s.firm (wanted (s.uses b)) c) (sym (other-block r b at put true contents other.1)) (h.each b))
  ];
  stated = λ b. elim (eqb_tells at b) [
    | inl same ↦ (λ ours. subst (λ (c : ℕ). sum (bytes_now (with_call r (Write at put true) contents) c) ≡ sum put) same.1 (ap (λ (c : Cell). sum c.bytes) (after-write r at put true contents))
        ∙ sym (ap (λ (t : Bool). if t then sum put else s.sums b) same.0))
    | inr other ↦ (λ ours. ap (λ (c : Cell). sum c.bytes) (other-block r b at put true contents other.1)
        ∙ h.stated b (subst (λ (t : Bool). IsOurs s.right (if t then to else s.uses b)) other.0 ours)
        ∙ sym (ap (λ (t : Bool). if t then sum put else s.sums b) other.0))
  ];
}

pub held_stage : (sum : List ℕ → ℕ) (s : BlockUses) (r : DiskRecord) (who at : ℕ) (put : List ℕ) (ok : Bool) (held : List ℕ) → at < length r.entry → IsDrawnFor who (s.uses at) → CellsHold sum s r → CellsHold sum (with_stage s who at (sum put) ok) (with_write r at put ok held)
held_stage sum s r who at put true held lt drawn h = held_put sum s r at put (Staged who) _ lt refl h
held_stage sum s r who at put false held lt drawn h = held_lost sum s r at put false _ (Drawn who) refl (λ o. o) h

-- ---- a flush

flushed_bytes : (ok : Bool) (cell : Cell) → (flushed_cell ok cell).bytes ≡ cell.bytes
flushed_bytes ok cell = elim (ok && not cell.failed) as (λ t. (if t then settled_cell cell else cell).bytes ≡ cell.bytes) [ true ↦ refl | false ↦ refl ]

-- a flush puts nothing anywhere
pub bytes_flush : (r : DiskRecord) (ok : Bool) (contents : List (List ℕ)) (b : ℕ) → bytes_now (with_call r (Flush ok) contents) b ≡ bytes_now r b
bytes_flush r ok contents b = ap (λ (c : Cell). c.bytes) (cell_now-with_call r (Flush ok) contents b) ∙ flushed_bytes ok (cell_now r b)

has_flushed : (size b firm to : ℕ) (w : Want) (r : DiskRecord) (contents : List (List ℕ)) → HasWanted size b firm w (cell_now r b) → HasWanted size b to w (cell_now (with_call r (Flush true) contents) b)
has_flushed size b firm to Nothing r contents has = tt
has_flushed size b firm to Good r contents has = subst (λ (c : Cell). IsGood size b c) (sym (after-good_flush r b contents has.good)) (record { within = has.within; good = refl })
has_flushed size b firm to (Firm since) r contents has =
    let e : cell_now (with_call r (Flush true) contents) b ≡ settled_cell (cell_now r b) = after-good_flush r b contents has.0.good in
    (subst (λ (c : Cell). IsGood size b c) (sym e) (record { within = has.0.within; good = refl }), λ le. ap (λ (c : Cell). c.loose) e)

pub held_flushed : (sum : List ℕ → ℕ) (s : BlockUses) (r : DiskRecord) → CellsHold sum s r → CellsHold sum (with_flushed s) (with_flush r true)
held_flushed sum s r h = record {
  each = λ b. has_flushed (length r.entry) b s.firm (last s) (wanted (s.uses b)) r r.contents (h.each b);
  stated = λ b ours. ap sum (bytes_flush r true r.contents b) ∙ h.stated b ours;
}

pub held_failed_flush : (sum : List ℕ → ℕ) (s : BlockUses) (r : DiskRecord) → CellsHold sum s r → CellsHold sum s (with_flush r false)
held_failed_flush sum s r h = record {
  each = λ b. subst (λ (c : Cell). HasWanted (length r.entry) b s.firm (wanted (s.uses b)) c) (sym (after-failed_flush r b r.contents)) (h.each b);
  stated = λ b ours. ap sum (bytes_flush r false r.contents b) ∙ h.stated b ours;
}

-- ---- a checkpoint

has_firm : (size b to : ℕ) (r : DiskRecord) (contents : List (List ℕ)) → IsGood size b (cell_now r b) → HasWanted size b to (Firm 0) (cell_now (with_call r (Flush true) contents) b)
has_firm size b to r contents good =
    let e : cell_now (with_call r (Flush true) contents) b ≡ settled_cell (cell_now r b) = after-good_flush r b contents good.good in
    (subst (λ (c : Cell). IsGood size b c) (sym e) (record { within = good.within; good = refl }), λ le. ap (λ (c : Cell). c.loose) e)

has_laid_firm : (size b firm to : ℕ) (u : Use) (r : DiskRecord) (contents : List (List ℕ)) → HasWanted size b firm (wanted u) (cell_now r b) → HasWanted size b to (wanted (laid_firm u)) (cell_now (with_call r (Flush true) contents) b)
has_laid_firm size b firm to Laid r contents has = has_firm size b to r contents has
has_laid_firm size b firm to u r contents has = has_flushed size b firm to (wanted u) r contents has

ours_laid_firm : (base : ℕ) (u : Use) → IsOurs base (laid_firm u) → IsOurs base u
ours_laid_firm base Laid o = o
ours_laid_firm base u o = o

pub held_layers_flushed : (sum : List ℕ → ℕ) (s : BlockUses) (r : DiskRecord) → CellsHold sum s r → CellsHold sum (with_layers_flushed s) (with_flush r true)
held_layers_flushed sum s r h = record {
  each = λ b. has_laid_firm (length r.entry) b s.firm (last s) (s.uses b) r r.contents (h.each b);
  stated = λ b ours. ap sum (bytes_flush r true r.contents b) ∙ h.stated b (ours_laid_firm s.right (s.uses b) ours);
}

has_switched : (size b firm : ℕ) (stays kept : Bool) (u : Use) (cell : Cell) → HasWanted size b firm (wanted u) cell → HasWanted size b firm (wanted (switched stays kept u)) cell
has_switched size b firm true kept Layer cell has = has
has_switched size b firm false true Layer cell has = has
has_switched size b firm false false Layer cell has = tt
has_switched size b firm stays kept u cell has = has

ours_switched : (base : ℕ) (stays kept : Bool) (u : Use) → IsOurs base (switched stays kept u) → IsOurs base u
ours_switched base true kept Layer o = o
ours_switched base false true Layer o = o
ours_switched base false false Layer o = o
ours_switched base stays kept u o = o

pub held_switch : (sum : List ℕ → ℕ) (s : BlockUses) (stays kept : ℕ → Bool) (r : DiskRecord) → CellsHold sum s r → CellsHold sum (with_switch s stays kept) r
held_switch sum s stays kept r h = record {
  each = λ b. has_switched (length r.entry) b s.firm (stays b) (kept b) (s.uses b) (cell_now r b) (h.each b);
  stated = λ b ours. h.stated b (ours_switched s.right (stays b) (kept b) (s.uses b) ours);
}

has_pin_ended : (size b firm : ℕ) (kept : Bool) (u : Use) (cell : Cell) → HasWanted size b firm (wanted u) cell → HasWanted size b firm (wanted (pin_ended kept u)) cell
has_pin_ended size b firm true Pinned cell has = has
has_pin_ended size b firm false Pinned cell has = tt
has_pin_ended size b firm kept u cell has = has

ours_pin_ended : (base : ℕ) (kept : Bool) (u : Use) → IsOurs base (pin_ended kept u) → IsOurs base u
ours_pin_ended base true Pinned o = o
ours_pin_ended base false Pinned o = o
ours_pin_ended base kept u o = o

pub held_pin_ended : (sum : List ℕ → ℕ) (s : BlockUses) (kept : ℕ → Bool) (r : DiskRecord) → CellsHold sum s r → CellsHold sum (with_pin_ended s kept) r
held_pin_ended sum s kept r h = record {
  each = λ b. has_pin_ended (length r.entry) b s.firm (kept b) (s.uses b) (cell_now r b) (h.each b);
  stated = λ b ours. h.stated b (ours_pin_ended s.right (kept b) (s.uses b) ours);
}

pub held_laid : (sum : List ℕ → ℕ) (s : BlockUses) (r : DiskRecord) (at : ℕ) (put : List ℕ) (ok : Bool) (held : List ℕ) → at < length r.entry → s.uses at ≡ Aside → CellsHold sum s r → CellsHold sum (with_laid s at (sum put) ok) (with_write r at put ok held)
held_laid sum s r at put true held lt aside h = held_put sum s r at put Laid (set r.contents at held) lt refl h
held_laid sum s r at put false held lt aside h = held_written sum s r at put false (set r.contents at held) (ap wanted aside) h

has_abandoned : (size b firm : ℕ) (u : Use) (cell : Cell) → HasWanted size b firm (wanted u) cell → HasWanted size b firm (wanted (abandoned u)) cell
has_abandoned size b firm Laid cell has = tt
has_abandoned size b firm u cell has = has

ours_abandoned : (base : ℕ) (u : Use) → IsOurs base (abandoned u) → IsOurs base u
ours_abandoned base Laid o = o
ours_abandoned base u o = o

pub held_anew : (sum : List ℕ → ℕ) (s : BlockUses) (r : DiskRecord) → CellsHold sum s r → CellsHold sum (with_anew s) r
held_anew sum s r h = record {
  each = λ b. has_abandoned (length r.entry) b s.firm (s.uses b) (cell_now r b) (h.each b);
  stated = λ b ours. h.stated b (ours_abandoned s.right (s.uses b) ours);
}

-- ---- the trees

-- After each number that an image may keep, what was put in the blocks stands for the tree at that
-- number. `Stands` says it of a number and of what the blocks hold.
abbrev pub AreTrees : (ℕ → (ℕ → List ℕ) → Type 0) → BlockUses → DiskRecord → Type 0
AreTrees Stands s r = (k : ℕ) → s.settled ≤ k → k ≤ last s → Stands k (bytes_now r)

module _ (Stands : ℕ → (ℕ → List ℕ) → Type 0) where
  -- a write of a block in which nothing is live
  pub trees_write : (s : BlockUses) (r : DiskRecord) (at : ℕ) (put : List ℕ) (ok : Bool) (contents : List (List ℕ)) → AreUses s → ReadsLive Stands s → since_of (s.uses at) ≡ None → AreTrees Stands s r → AreTrees Stands s (with_call r (Write at put ok) contents)
  trees_write s r at put ok contents used reads hidden trees k ge le = reads k ge le (bytes_now r) (bytes_now (with_call r (Write at put ok) contents))
      (λ b x e. elim (eqb_tells at b) [
        | inl same ↦ absurd (live_not_hidden s used k b x ge le e (sym (ap (λ (c : ℕ). since_of (s.uses c)) same.1) ∙ hidden))
        | inr other ↦ sym (ap (λ (c : Cell). c.bytes) (other-block r b at put ok contents other.1))
      ])
      (trees k ge le)

  pub trees_flush : (s : BlockUses) (r : DiskRecord) (ok : Bool) (contents : List (List ℕ)) → AreTrees Stands s r → AreTrees Stands s (with_call r (Flush ok) contents)
  trees_flush s r ok contents trees k ge le = subst (λ (f : ℕ → List ℕ). Stands k f) (sym (fun_ext (bytes_flush r ok contents))) (trees k ge le)
