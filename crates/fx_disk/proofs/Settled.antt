-- Where nothing is loose, or one block alone.
use Rattle.std.proofs.Common.{◌≡◌, ◌≢◌, ℕ, ◌≤◌, ◌<◌, ◌&&◌, not, if◌then◌else◌, List, [], ◌∷◌, ◌++◌, length, get_or, set, refl, subst, sym, ◌∙◌, ap, arith, ⊎_elim, Bool, true, false, Contains}
use Rattle.std.proofs.lemmas.List.{length-set, get_or-set_other, get_or-set_same, set-get_or, set-set}
use Rattle.std.proofs.lemmas.List.Elements.{Contains-append_left, Contains-push}
use Rattle.std.proofs.Math.Seq.{ext_get_or, take-length}
use Rattle.fx_disk.specs.Record.{Call, Flush, DiskRecord, Cell, LeftNow, candidates, cell_now, cell_after, cell_first, settled_cell, flushed_cell, after_calls}
use Rattle.fx_disk.specs.Steps.{with_call, with_write, with_flush, IsRecordOf}
use Rattle.fx_disk.specs.Settled.{IsSettled, HasNoFailed, WasSettled, IsChangedAt, IsGoodWrite}
use Rattle.fx_disk.proofs.Left.{cell_now-with_call, cell_after-with_call}
use Rattle.fx_disk.proofs.Cells.{IsFixed, fixed-after, candidates-fixed, after-write, after-good_flush, other-block, candidates-write, candidates-flush, image-candidate}
use Rattle.fx_disk.proofs.Records.{by_block}

-- a block that is not loose reads as its last write
reads-fixed : (size calls : ℕ) (r : DiskRecord) (b : ℕ) → IsRecordOf size calls r → b < size → (cell_now r b).loose ≡ false → get_or r.contents b [] ≡ (cell_now r b).bytes
reads-fixed size calls r b h lt fixed = let same : IsFixed (cell_now r b) = fixed-after r b r.calls fixed in h.reads b lt same.good

pub changed-begin : (size calls : ℕ) (r : DiskRecord) (at : ℕ) → IsRecordOf size calls r → at < size → IsSettled r → IsChangedAt r.contents at (get_or r.contents at [] ∷ []) r
changed-begin size calls r at h lt settled =
    let lt' : at < length r.entry = omega (arith, h.entry_size) in
    let only : candidates (cell_now r at) ≡ get_or r.contents at [] ∷ [] = candidates-fixed r at (settled at lt') ∙ ap (λ (x : List ℕ). x ∷ []) (sym (reads-fixed size calls r at h lt (settled at lt'))) in
    record {
      reads = sym (set-get_or r.contents at []);
      others = λ b below _. settled b below;
      held = λ value held. subst (λ (vs : List (List ℕ)). Contains vs value) only held;
    }

pub changed-write : (base : List (List ℕ)) (at : ℕ) (values : List (List ℕ)) (r : DiskRecord) (bytes : List ℕ) (ok : Bool) (held : List ℕ) → at < length r.contents
    → IsChangedAt base at values r → IsChangedAt base at (values ++ bytes ∷ []) (with_write r at bytes ok held)
changed-write base at values r bytes ok held lt h = record {
  reads = ap (λ (xs : List (List ℕ)). set xs at held) h.reads ∙ set-set base at (get_or r.contents at []) held ∙ ap (set base at) (sym (get_or-set_same r.contents at held [] lt));
  others = λ b below ne. ap (λ (c : Cell). c.loose) (other-block r b at bytes ok (set r.contents at held) ne) ∙ h.others b below ne;
  held = λ value held'. ⊎_elim
      (λ old. Contains-append_left values (bytes ∷ []) value (h.held value old))
      (λ e. subst (λ (x : List ℕ). Contains (values ++ bytes ∷ []) x) e (Contains-push values bytes))
      (candidates-write r at bytes ok (set r.contents at held) value held');
}

-- a flush makes no block loose
flushed-loose : (ok : Bool) (cell : Cell) → cell.loose ≡ false → (flushed_cell ok cell).loose ≡ false
flushed-loose ok cell fixed = elim (ok && not cell.failed) as (λ t. (if t then settled_cell cell else cell).loose ≡ false) [ true ↦ refl | false ↦ fixed ]

still-settled : (r : DiskRecord) (b : ℕ) (ok : Bool) → (cell_now r b).loose ≡ false → (cell_now (with_flush r ok) b).loose ≡ false
still-settled r b ok fixed = ap (λ (c : Cell). c.loose) (cell_now-with_call r (Flush ok) r.contents b) ∙ flushed-loose ok (cell_now r b) fixed

pub changed-flush : (base : List (List ℕ)) (at : ℕ) (values : List (List ℕ)) (r : DiskRecord) (ok : Bool) → IsChangedAt base at values r → IsChangedAt base at values (with_flush r ok)
changed-flush base at values r ok h = record {
  reads = h.reads;
  others = λ b below ne. still-settled r b ok (h.others b below ne);
  held = λ value held. h.held value (candidates-flush r at ok r.contents value held);
}

pub settled-flush : (r : DiskRecord) (ok : Bool) → IsSettled r → IsSettled (with_flush r ok)
settled-flush r ok h b below = still-settled r b ok (h b below)

-- where no write failed a good flush settles everything
pub settled-good : (r : DiskRecord) → IsSettled r → HasNoFailed r
settled-good r h b below = let same : IsFixed (cell_now r b) = fixed-after r b r.calls (h b below) in same.good

pub no_failed-write : (r : DiskRecord) (at : ℕ) (bytes held : List ℕ) → HasNoFailed r → HasNoFailed (with_write r at bytes true held)
no_failed-write r at bytes held h b below = by_block at b ((cell_now (with_write r at bytes true held) b).failed ≡ false)
    (λ e. subst (λ (k : ℕ). (cell_now (with_write r at bytes true held) k).failed ≡ false) e (ap (λ (c : Cell). c.failed) (after-write r at bytes true (set r.contents at held))))
    (λ ne. ap (λ (c : Cell). c.failed) (other-block r b at bytes true (set r.contents at held) ne) ∙ h b below)

pub no_failed-flush : (r : DiskRecord) → HasNoFailed r → IsSettled (with_flush r true)
no_failed-flush r h b below = ap (λ (c : Cell). c.loose) (after-good_flush r b r.contents (h b below))

-- a good flush settles the block if its last write was good
pub changed-settled : (base : List (List ℕ)) (at : ℕ) (values : List (List ℕ)) (bytes : List ℕ) (r : DiskRecord) → IsChangedAt base at values r → IsGoodWrite at bytes r → IsSettled (with_flush r true)
changed-settled base at values bytes r h w b below = by_block at b ((cell_now (with_flush r true) b).loose ≡ false)
    (λ e. subst (λ (k : ℕ). (cell_now (with_flush r true) k).loose ≡ false) e (ap (λ (c : Cell). c.loose) (after-good_flush r at r.contents w.good)))
    (λ ne. still-settled r b true (h.others b below ne))

pub good-write : (r : DiskRecord) (at : ℕ) (bytes held : List ℕ) → IsGoodWrite at bytes (with_write r at bytes true held)
good-write r at bytes held = record {
  good = ap (λ (c : Cell). c.failed) (after-write r at bytes true (set r.contents at held));
  last = ap (λ (c : Cell). c.bytes) (after-write r at bytes true (set r.contents at held));
}

-- after a good flush the block still reads as the write
pub good-flush : (r : DiskRecord) (at : ℕ) (bytes : List ℕ) → IsGoodWrite at bytes r → IsGoodWrite at bytes (with_flush r true)
good-flush r at bytes w = record {
  good = ap (λ (c : Cell). c.failed) (after-good_flush r at r.contents w.good);
  last = ap (λ (c : Cell). c.bytes) (after-good_flush r at r.contents w.good) ∙ w.last;
}

pub good-reads : (size calls : ℕ) (base : List (List ℕ)) (at : ℕ) (values : List (List ℕ)) (bytes : List ℕ) (r : DiskRecord) → IsRecordOf size calls r → at < size → IsChangedAt base at values r → IsGoodWrite at bytes r → r.contents ≡ set base at bytes
good-reads size calls base at values bytes r h lt changed w = changed.reads ∙ ap (set base at) (h.reads at lt w.good ∙ w.last)

-- an image differs from the base in the one block
module _ (size calls : ℕ) (base : List (List ℕ)) (at : ℕ) (values : List (List ℕ)) (r : DiskRecord) (image : List (List ℕ)) (h : IsRecordOf size calls r) (changed : IsChangedAt base at values r) (left : LeftNow r image) where
  base-length : length base ≡ size
  base-length = sym (length-set base at (get_or r.contents at [])) ∙ sym (ap length changed.reads) ∙ h.contents_size

  image-length : length image ≡ size
  image-length = left.size ∙ h.entry_size

  image-other : (b : ℕ) → b < size → (at ≡ b → ⊥) → get_or image b [] ≡ get_or base b []
  image-other b lt ne =
      let below : b < length r.entry = omega (arith, h.entry_size) in
      let ne' : b ≢ at = λ e. ne (sym e) in
      left.kept b below (changed.others b below ne)
      ∙ sym (reads-fixed size calls r b h lt (changed.others b below ne))
      ∙ ap (λ (xs : List (List ℕ)). get_or xs b []) changed.reads
      ∙ get_or-set_other base at b (get_or r.contents at []) [] ne'

  pub changed-image : image ≡ set base at (get_or image at [])
  changed-image = ext_get_or [] image (set base at (get_or image at []))
      (image-length ∙ sym base-length ∙ sym (length-set base at (get_or image at [])))
      (λ b lt. by_block at b (get_or image b [] ≡ get_or (set base at (get_or image at [])) b [])
      (λ e. subst (λ (k : ℕ). get_or image k [] ≡ get_or (set base at (get_or image at [])) k []) e
      (let lt' : at < length base = omega (arith, base-length, image-length) in sym (get_or-set_same base at (get_or image at []) [] lt')))
      (λ ne. let ne' : b ≢ at = λ e. ne (sym e) in image-other b (omega (arith, image-length)) ne ∙ sym (get_or-set_other base at b (get_or image at []) [] ne')))

-- what was settled at a moment stays so, whatever is called later
pub was-settled : (r : DiskRecord) (call : Call) (contents : List (List ℕ)) (start : ℕ) → start ≤ length r.calls → WasSettled start r → WasSettled start (with_call r call contents)
was-settled r call contents start le h b below = ap (λ (c : Cell). c.loose) (cell_after-with_call r call contents start b le) ∙ h b below

pub was-settled_before : (r : DiskRecord) (call : Call) (contents : List (List ℕ)) (start : ℕ) → start ≤ length r.calls → WasSettled start (with_call r call contents) → WasSettled start r
was-settled_before r call contents start le h b below = sym (ap (λ (c : Cell). c.loose) (cell_after-with_call r call contents start b le)) ∙ h b below

all-calls : (r : DiskRecord) (b : ℕ) → cell_after r (length r.calls) b ≡ cell_now r b
all-calls r b = ap (λ (cs : List Call). after_calls b cs (cell_first r b)) (take-length r.calls)

pub was-settled_now : (r : DiskRecord) → WasSettled (length r.calls) r → IsSettled r
was-settled_now r h b below = sym (ap (λ (c : Cell). c.loose) (all-calls r b)) ∙ h b below

pub settled-was : (r : DiskRecord) → IsSettled r → WasSettled (length r.calls) r
settled-was r h b below = ap (λ (c : Cell). c.loose) (all-calls r b) ∙ h b below

-- what is left in the one block, where the stop tears no block
pub changed-value : (base : List (List ℕ)) (at : ℕ) (values : List (List ℕ)) (r : DiskRecord) (image : List (List ℕ)) → at < length r.entry → IsChangedAt base at values r → LeftNow r image
    → ((cell_now r at).loose ≡ true → Contains (candidates (cell_now r at)) (get_or image at [])) → Contains values (get_or image at [])
changed-value base at values r image lt changed left whole = changed.held (get_or image at []) (image-candidate r at image lt left whole)
