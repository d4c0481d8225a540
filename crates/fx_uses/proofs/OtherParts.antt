-- No event changes the part of another number.
use Rattle.std.proofs.Common.{◌≡◌, ℕ, Bool, true, false, if◌then◌else◌, ◌==◌, List, refl, sym, ap, subst, ◌∙◌, inl, inr, Option, Some, None}
use Rattle.std.specs.Prelude.{nat_le}
use Rattle.std.proofs.lemmas.Bool.{ne_eqb, eq-eqb}
use Rattle.std.proofs.lemmas.Bool.Decides.{eqb_tells}
use Rattle.fx_disk.specs.Record.{DiskRecord, Cell, Write, Flush}
use Rattle.fx_disk.specs.Steps.{with_call}
use Rattle.fx_disk.proofs.Cells.{other-block}
use Rattle.fx_uses.specs.Live.{Txn}
use Rattle.fx_uses.specs.Uses.{Use, Free, Drawn, Staged, Live, Freed, Layer, Aside, Laid, Pinned, System, IsDrawnFor, BlockUses, bytes_now}
use Rattle.fx_uses.specs.Events.{with_use, with_put, with_stage, with_laid, taken_over, freed_by, with_committed, given_back, with_rollback, let_go, with_settling, laid_firm, switched, pin_ended, abandoned}
use Rattle.fx_uses.specs.Parts.{part_in, part_of, KeepsOtherParts, KeepsParts}
use Rattle.fx_uses.proofs.CellsKept.{bytes_flush}

-- the number has nothing in a block of another
pub part_other : (w who : ℕ) (bytes : List ℕ) → (w ≡ who → ⊥) → (part_in w (Drawn who) bytes ≡ None) × (part_in w (Staged who) bytes ≡ None)
part_other w who bytes ne =
    let e : (who == w) ≡ false = ne_eqb who w (λ q. ne (sym q)) in
    (ap (λ (t : Bool). if◌then◌else◌ {A = Option (Option (List ℕ))} t (Some None) None) e, ap (λ (t : Bool). if◌then◌else◌ {A = Option (Option (List ℕ))} t (Some (Some bytes)) None) e)

-- what is different at one block, which is no other number's before and after
others_at : (who at : ℕ) (s t : BlockUses) (r q : DiskRecord) → ((w : ℕ) → (w ≡ who → ⊥) → (part_of w s r at ≡ None) × (part_of w t q at ≡ None)) → ((w b : ℕ) → (at ≡ b → ⊥) → part_of w t q b ≡ part_of w s r b) → KeepsOtherParts who s r t q
others_at who at s t r q here there w b ne = elim (eqb_tells at b) [
  | inl same ↦ subst (λ (c : ℕ). part_of w t q c ≡ part_of w s r c) same.1 ((here w ne).1 ∙ sym (here w ne).0)
  | inr other ↦ there w b other.1
]

-- a block is drawn from the free ones
pub others_draw : (who at : ℕ) (s : BlockUses) (r : DiskRecord) → s.uses at ≡ Free → KeepsOtherParts who s r (with_use s at (Drawn who)) r
others_draw who at s r free = others_at who at s (with_use s at (Drawn who)) r r
    (λ w ne. (ap (λ (u : Use). part_in w u (bytes_now r at)) free, ap (λ (t : Bool). part_in w (if t then Drawn who else s.uses at) (bytes_now r at)) (eq-eqb at at refl) ∙ (part_other w who (bytes_now r at) ne).0))
    (λ w b ne. ap (λ (t : Bool). part_in w (if t then Drawn who else s.uses b) (bytes_now r b)) (ne_eqb at b ne))

-- the number has nothing in a block of another, staged or not
part_drawn : (w who : ℕ) (u : Use) (bytes : List ℕ) → IsDrawnFor who u → (w ≡ who → ⊥) → part_in w u bytes ≡ None
part_drawn w who (Drawn v) bytes d ne = (part_other w v bytes (λ q. ne (q ∙ d))).0
part_drawn w who (Staged v) bytes d ne = (part_other w v bytes (λ q. ne (q ∙ d))).1
part_drawn w who u bytes d ne = absurd d

pub others_stage : (s : BlockUses) (r : DiskRecord) (who at sum : ℕ) (put : List ℕ) (ok : Bool) (contents : List (List ℕ)) → IsDrawnFor who (s.uses at) → KeepsOtherParts who s r (with_stage s who at sum ok) (with_call r (Write at put ok) contents)
others_stage s r who at sum put true contents drawn = others_at who at s (with_put s at (Staged who) sum) r (with_call r (Write at put true) contents)
    (λ w ne. (
      part_drawn w who (s.uses at) (bytes_now r at) drawn ne,
      ap (λ (t : Bool). part_in w (if t then Staged who else s.uses at) (bytes_now (with_call r (Write at put true) contents) at)) (eq-eqb at at refl) ∙ (part_other w who (bytes_now (with_call r (Write at put true) contents) at) ne).1,
    ))
    (λ w b ne. ap (λ (t : Bool). part_in w (if t then Staged who else s.uses b) (bytes_now (with_call r (Write at put true) contents) b)) (ne_eqb at b ne)
    ∙ ap (λ (c : Cell). part_in w (s.uses b) c.bytes) (other-block r b at put true contents ne))
others_stage s r who at sum put false contents drawn = others_at who at s (with_use s at (Drawn who)) r (with_call r (Write at put false) contents)
    (λ w ne. (
      part_drawn w who (s.uses at) (bytes_now r at) drawn ne,
      ap (λ (t : Bool). part_in w (if t then Drawn who else s.uses at) (bytes_now (with_call r (Write at put false) contents) at)) (eq-eqb at at refl) ∙ (part_other w who (bytes_now (with_call r (Write at put false) contents) at) ne).0,
    ))
    (λ w b ne. ap (λ (t : Bool). part_in w (if t then Drawn who else s.uses b) (bytes_now (with_call r (Write at put false) contents) b)) (ne_eqb at b ne)
    ∙ ap (λ (c : Cell). part_in w (s.uses b) c.bytes) (other-block r b at put false contents ne))

part_taken : (w who n v : ℕ) (bytes : List ℕ) → (w ≡ who → ⊥) → part_in w (if v == who then Live n else Staged v) bytes ≡ part_in w (Staged v) bytes
part_taken w who n v bytes ne = elim (eqb_tells v who) [
  | inl same ↦ ap (λ (t : Bool). part_in w (if t then Live n else Staged v) bytes) same.0 ∙ sym (part_other w v bytes (λ q. ne (q ∙ same.1))).1
  | inr other ↦ ap (λ (t : Bool). part_in w (if t then Live n else Staged v) bytes) other.0
]

part_commit : (w who n : ℕ) (h : Bool) (u : Use) (bytes : List ℕ) → (w ≡ who → ⊥) → part_in w (taken_over who n (if h then freed_by n u else u)) bytes ≡ part_in w u bytes
part_commit w who n true (Staged v) bytes ne = part_taken w who n v bytes ne
part_commit w who n false (Staged v) bytes ne = part_taken w who n v bytes ne
part_commit w who n true u bytes ne = refl
part_commit w who n false u bytes ne = refl

pub others_commit : (s : BlockUses) (r : DiskRecord) (who : ℕ) (t : Txn) → KeepsOtherParts who s r (with_committed s who t) r
others_commit s r who t w b ne = part_commit w who t.number (t.frees b) (s.uses b) (bytes_now r b) ne

part_given : (w who : ℕ) (u : Use) (bytes : List ℕ) → (w ≡ who → ⊥) → part_in w (given_back who u) bytes ≡ part_in w u bytes
part_given w who (Drawn v) bytes ne = elim (eqb_tells v who) [
  | inl same ↦ ap (λ (t : Bool). part_in w (if t then Free else Drawn v) bytes) same.0 ∙ sym (part_other w v bytes (λ q. ne (q ∙ same.1))).0
  | inr other ↦ ap (λ (t : Bool). part_in w (if t then Free else Drawn v) bytes) other.0
]
part_given w who (Staged v) bytes ne = elim (eqb_tells v who) [
  | inl same ↦ ap (λ (t : Bool). part_in w (if t then Free else Staged v) bytes) same.0 ∙ sym (part_other w v bytes (λ q. ne (q ∙ same.1))).1
  | inr other ↦ ap (λ (t : Bool). part_in w (if t then Free else Staged v) bytes) other.0
]
part_given w who u bytes ne = refl

pub others_rollback : (s : BlockUses) (r : DiskRecord) (who : ℕ) → KeepsOtherParts who s r (with_rollback s who) r
others_rollback s r who w b ne = part_given w who (s.uses b) (bytes_now r b) ne

-- ---- a checkpoint's blocks are no number's

-- what is different at one block, which is no number's before and after
parts_at : (at : ℕ) (s t : BlockUses) (r q : DiskRecord) → ((w : ℕ) → (part_of w s r at ≡ None) × (part_of w t q at ≡ None)) → ((w b : ℕ) → (at ≡ b → ⊥) → part_of w t q b ≡ part_of w s r b) → KeepsParts s r t q
parts_at at s t r q here there w b = elim (eqb_tells at b) [
  | inl same ↦ subst (λ (c : ℕ). part_of w t q c ≡ part_of w s r c) same.1 ((here w).1 ∙ sym (here w).0)
  | inr other ↦ there w b other.1
]

pub parts_aside : (at : ℕ) (s : BlockUses) (r : DiskRecord) → s.uses at ≡ Free → KeepsParts s r (with_use s at Aside) r
parts_aside at s r free = parts_at at s (with_use s at Aside) r r
    (λ w. (ap (λ (u : Use). part_in w u (bytes_now r at)) free, ap (λ (t : Bool). part_in w (if t then Aside else s.uses at) (bytes_now r at)) (eq-eqb at at refl)))
    (λ w b ne. ap (λ (t : Bool). part_in w (if t then Aside else s.uses b) (bytes_now r b)) (ne_eqb at b ne))

pub parts_laid : (s : BlockUses) (r : DiskRecord) (at sum : ℕ) (put : List ℕ) (ok : Bool) (contents : List (List ℕ)) → s.uses at ≡ Aside → KeepsParts s r (with_laid s at sum ok) (with_call r (Write at put ok) contents)
parts_laid s r at sum put true contents aside = parts_at at s (with_put s at Laid sum) r (with_call r (Write at put true) contents)
    (λ w. (
      ap (λ (u : Use). part_in w u (bytes_now r at)) aside,
      ap (λ (t : Bool). part_in w (if t then Laid else s.uses at) (bytes_now (with_call r (Write at put true) contents) at)) (eq-eqb at at refl),
    ))
    (λ w b ne. ap (λ (t : Bool). part_in w (if t then Laid else s.uses b) (bytes_now (with_call r (Write at put true) contents) b)) (ne_eqb at b ne)
    ∙ ap (λ (c : Cell). part_in w (s.uses b) c.bytes) (other-block r b at put true contents ne))
parts_laid s r at sum put false contents aside = parts_at at s s r (with_call r (Write at put false) contents)
    (λ w. (
      ap (λ (u : Use). part_in w u (bytes_now r at)) aside,
      ap (λ (u : Use). part_in w u (bytes_now (with_call r (Write at put false) contents) at)) aside,
    ))
    (λ w b ne. ap (λ (c : Cell). part_in w (s.uses b) c.bytes) (other-block r b at put false contents ne))

pub parts_system : (s : BlockUses) (r : DiskRecord) (at : ℕ) (put : List ℕ) (ok : Bool) (contents : List (List ℕ)) → s.uses at ≡ System → KeepsParts s r s (with_call r (Write at put ok) contents)
parts_system s r at put ok contents system = parts_at at s s r (with_call r (Write at put ok) contents)
    (λ w. (
      ap (λ (u : Use). part_in w u (bytes_now r at)) system,
      ap (λ (u : Use). part_in w u (bytes_now (with_call r (Write at put ok) contents) at)) system,
    ))
    (λ w b ne. ap (λ (c : Cell). part_in w (s.uses b) c.bytes) (other-block r b at put ok contents ne))

-- ---- a flush, a settling and a checkpoint's steps change no number's part

pub parts_flush : (s : BlockUses) (r : DiskRecord) (ok : Bool) (contents : List (List ℕ)) (w b : ℕ) → part_of w s (with_call r (Flush ok) contents) b ≡ part_of w s r b
parts_flush s r ok contents w b = ap (part_in w (s.uses b)) (bytes_flush r ok contents b)

pub parts_settled : (s : BlockUses) (r : DiskRecord) (n w b : ℕ) → part_of w (with_settling s n) r b ≡ part_of w s r b
parts_settled s r n w b = one (s.uses b)
  where
    one : (u : Use) → part_in w (let_go n u) (bytes_now r b) ≡ part_in w u (bytes_now r b)
    one (Freed a m) = elim (nat_le m n) as (λ t. part_in w (if t then Free else Freed a m) (bytes_now r b) ≡ None) [ true ↦ refl | false ↦ refl ]
    one u = refl

-- a change of uses that leaves those of numbers, and makes none
abbrev pub LeavesParts : (Use → Use) → Type 0
LeavesParts f = (w : ℕ) (u : Use) (bytes : List ℕ) → part_in w (f u) bytes ≡ part_in w u bytes

pub leaves_laid_firm : LeavesParts laid_firm
leaves_laid_firm w Laid bytes = refl
leaves_laid_firm w u bytes = refl

pub leaves_switched : (stays kept : Bool) → LeavesParts (switched stays kept)
leaves_switched true kept w Layer bytes = refl
leaves_switched false true w Layer bytes = refl
leaves_switched false false w Layer bytes = refl
leaves_switched stays kept w u bytes = refl

pub leaves_pin_ended : (kept : Bool) → LeavesParts (pin_ended kept)
leaves_pin_ended true w Pinned bytes = refl
leaves_pin_ended false w Pinned bytes = refl
leaves_pin_ended kept w u bytes = refl

pub leaves_abandoned : LeavesParts abandoned
leaves_abandoned w Laid bytes = refl
leaves_abandoned w u bytes = refl
