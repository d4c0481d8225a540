-- What a disk tells stays a record of it over a call, and the disk is one of its own images.
use Rattle.std.proofs.Common.{◌≡◌, ◌≢◌, ℕ, ◌+◌, ◌<◌, ◌&&◌, not, if◌then◌else◌, List, [], ◌∷◌, ◌++◌, length, get_or, set, refl, subst, sym, ◌∙◌, ap, arith, ⊎_elim, Bool, true, false}
use Rattle.std.proofs.lemmas.List.{length-append, length-set, get_or-set_other, get_or-set_same, get_or_append_left}
use Rattle.std.proofs.Math.Seq.{get_or-append_seam, ext_get_or}
use Rattle.std.proofs.lemmas.Bool.{cases_lt, cases_Bool}
use Rattle.std.proofs.lemmas.Bool.Decides.{eqb_tells}
use Rattle.fx_disk.specs.Record.{Call, Write, Flush, DiskRecord, Cell, LeftNow, IsBlock, call_at, cell_now, settled_cell, written_cell, flushed_cell}
use Rattle.fx_disk.specs.Steps.{MayHold, with_write, with_flush, IsRecordOf, IsCallOf}
use Rattle.fx_disk.proofs.Left.{cell_now-with_call}
use Rattle.fx_disk.proofs.Cells.{after-write, other-block, fixed-after, IsFixed}

each-append : (size : ℕ) (calls : List Call) (call : Call) → ((k : ℕ) → k < length calls → IsCallOf size (call_at calls k)) → IsCallOf size call
    → (k : ℕ) → k < length calls + 1 → IsCallOf size (call_at (calls ++ call ∷ []) k)
each-append size calls call old new k lt = ⊎_elim
    (λ below. rw (get_or_append_left calls (call ∷ []) (Flush false) k below) (old k below))
    (λ at. let e : k ≡ length calls = omega arith in rw (e, get_or-append_seam calls call [] (Flush false)) new)
    (cases_lt k (length calls))

each-with_call : (size calls : ℕ) (r : DiskRecord) (call : Call) → IsRecordOf size calls r → IsCallOf size call → (k : ℕ) → k < calls + 1 → IsCallOf size (call_at (r.calls ++ call ∷ []) k)
each-with_call size calls r call h new =
    subst (λ (n : ℕ). (k : ℕ) → k < n + 1 → IsCallOf size (call_at (r.calls ++ call ∷ []) k)) h.counted
    (each-append size r.calls call (λ k lt. h.each k (omega (arith, h.counted))) new)

-- the block that is written, or another
pub by_block : (at b : ℕ) (P : Type 0) → (at ≡ b → P) → ((at ≡ b → ⊥) → P) → P
by_block at b P same other = ⊎_elim (λ y. same y.1) (λ n. other n.1) (eqb_tells at b)

not-false : (ok : Bool) → not ok ≡ false → ok ≡ true
not-false true e = refl
not-false false e = absurd (cc)

module _ (size calls : ℕ) (r : DiskRecord) (at : ℕ) (bytes : List ℕ) (ok : Bool) (held : List ℕ) (lt : at < size) (holds : MayHold bytes ok held) (h : IsRecordOf size calls r) where
  blocks-write : (b : ℕ) → b < size → IsBlock (get_or (set r.contents at held) b [])
  blocks-write b below = by_block at b (IsBlock (get_or (set r.contents at held) b []))
      (λ e. let lt' : at < length r.contents = omega (arith, h.contents_size) in
      subst (λ (k : ℕ). IsBlock (get_or (set r.contents at held) k [])) e (rw (get_or-set_same r.contents at held [] lt') holds.block))
      (λ ne. let ne' : b ≢ at = λ e. ne (sym e) in rw (get_or-set_other r.contents at b held [] ne') (h.blocks b below))

  reads-written : (cell_now (with_write r at bytes ok held) at).failed ≡ false → get_or (set r.contents at held) at [] ≡ (cell_now (with_write r at bytes ok held) at).bytes
  reads-written good =
      let lt' : at < length r.contents = omega (arith, h.contents_size) in
      let w : cell_now (with_write r at bytes ok held) at ≡ written_cell bytes ok (cell_now r at) = after-write r at bytes ok (set r.contents at held) in
      let good' : ok ≡ true = not-false ok (sym (ap (λ (c : Cell). c.failed) w) ∙ good) in
      get_or-set_same r.contents at held [] lt' ∙ holds.good good' ∙ sym (ap (λ (c : Cell). c.bytes) w)

  reads-write : (b : ℕ) → b < size → (cell_now (with_write r at bytes ok held) b).failed ≡ false → get_or (set r.contents at held) b [] ≡ (cell_now (with_write r at bytes ok held) b).bytes
  reads-write b below = by_block at b ((cell_now (with_write r at bytes ok held) b).failed ≡ false → get_or (set r.contents at held) b [] ≡ (cell_now (with_write r at bytes ok held) b).bytes)
      (λ e. subst (λ (k : ℕ). (cell_now (with_write r at bytes ok held) k).failed ≡ false → get_or (set r.contents at held) k [] ≡ (cell_now (with_write r at bytes ok held) k).bytes) e reads-written)
      (λ ne good. let ne' : b ≢ at = λ e. ne (sym e) in
      let o : cell_now (with_write r at bytes ok held) b ≡ cell_now r b = other-block r b at bytes ok (set r.contents at held) ne in
      get_or-set_other r.contents at b held [] ne' ∙ h.reads b below (sym (ap (λ (c : Cell). c.failed) o) ∙ good) ∙ sym (ap (λ (c : Cell). c.bytes) o))

  pub IsRecordOf-write : IsBlock bytes → IsRecordOf size (calls + 1) (with_write r at bytes ok held)
  IsRecordOf-write block = record {
    entry_size = h.entry_size;
    counted = omega (arith, h.counted, length-append r.calls (Write at bytes ok ∷ []));
    entry = h.entry;
    each = each-with_call size calls r (Write at bytes ok) h (lt, block);
    contents_size = length-set r.contents at held ∙ h.contents_size;
    blocks = blocks-write;
    reads = reads-write;
  }

-- a flush changes neither a block's bytes nor whether its last write failed
flushed-bytes : (ok : Bool) (cell : Cell) → (flushed_cell ok cell).bytes ≡ cell.bytes
flushed-bytes ok cell = elim (ok && not cell.failed) as (λ t. (if t then settled_cell cell else cell).bytes ≡ cell.bytes) [ true ↦ refl | false ↦ refl ]

flushed-failed : (ok : Bool) (cell : Cell) → (flushed_cell ok cell).failed ≡ cell.failed
flushed-failed true cell = ⊎_elim
    (λ failed. ap (λ (t : Bool). (if not t then settled_cell cell else cell).failed) failed)
    (λ good. ap (λ (t : Bool). (if not t then settled_cell cell else cell).failed) good ∙ sym good)
    (cases_Bool cell.failed)
flushed-failed false cell = refl

pub IsRecordOf-flush : (size calls : ℕ) (r : DiskRecord) (ok : Bool) → IsRecordOf size calls r → IsRecordOf size (calls + 1) (with_flush r ok)
IsRecordOf-flush size calls r ok h = record {
  entry_size = h.entry_size;
  counted = omega (arith, h.counted, length-append r.calls (Flush ok ∷ []));
  entry = h.entry;
  each = each-with_call size calls r (Flush ok) h tt;
  contents_size = h.contents_size;
  blocks = h.blocks;
  reads = λ b below good.
      let o : cell_now (with_flush r ok) b ≡ flushed_cell ok (cell_now r b) = cell_now-with_call r (Flush ok) r.contents b in
      h.reads b below (sym (flushed-failed ok (cell_now r b)) ∙ sym (ap (λ (c : Cell). c.failed) o) ∙ good) ∙ sym (flushed-bytes ok (cell_now r b)) ∙ sym (ap (λ (c : Cell). c.bytes) o);
}

-- a disk before its first call
pub IsRecordOf-fresh : (image : List (List ℕ)) → ((b : ℕ) → b < length image → IsBlock (get_or image b [])) → IsRecordOf (length image) 0 (record { entry = image; calls = []; contents = image })
IsRecordOf-fresh image each = record {
  entry_size = refl;
  counted = refl;
  entry = each;
  each = λ k lt. absurd (omega arith);
  contents_size = refl;
  blocks = each;
  reads = λ b lt good. refl;
}

-- a disk is one of its own images as it reads
pub reads-left : (size calls : ℕ) (r : DiskRecord) → IsRecordOf size calls r → LeftNow r r.contents
reads-left size calls r h = record {
  size = omega (arith, h.contents_size, h.entry_size);
  blocks = λ b lt. h.blocks b (omega (arith, h.entry_size));
  kept = λ b lt fixed. let same : IsFixed (cell_now r b) = fixed-after r b r.calls fixed in h.reads b (omega (arith, h.entry_size)) same.good;
}

-- where nothing is loose, it is the only one
pub reads-alone : (size calls : ℕ) (r : DiskRecord) (image : List (List ℕ)) → IsRecordOf size calls r → ((b : ℕ) → b < length r.entry → (cell_now r b).loose ≡ false) → LeftNow r image → image ≡ r.contents
reads-alone size calls r image h fixed left =
    let mine : LeftNow r r.contents = reads-left size calls r h in
    ext_get_or [] image r.contents (left.size ∙ sym mine.size)
    (λ b lt. let lt' : b < length r.entry = omega (arith, left.size) in left.kept b lt' (fixed b lt') ∙ sym (mine.kept b lt' (fixed b lt')))
