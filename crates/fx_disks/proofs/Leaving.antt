-- The image of picks is what they leave, and may be left.
use Rattle.std.proofs.Common.{◌≡◌, ◌≢◌, ℕ, zero, suc, ◌+◌, ◌-◌, ◌≤◌, ◌<◌, ◌⊎◌, inl, inr, ⊎_elim, ◌==◌, ◌&&◌, not, nat_le, if◌then◌else◌, Bool, true, false, List, [], ◌∷◌, ◌++◌, length, take, drop, get_or, replicate, refl, subst, sym, ◌∙◌, ap, arith, lit<, Option, Some, None}
use Rattle.std.specs.List.{All}
use Rattle.std.proofs.lemmas.List.{length-append, length-take, length-drop, length-replicate, get_or-replicate, get_or_append_left, get_or-take, get_or-drop}
use Rattle.std.proofs.lemmas.List.Elements.{All-head, All-tail}
use Rattle.std.proofs.Math.ListN.{get_or-eq_default}
use Rattle.std.proofs.Math.Seq.{get_or-append_right}
use Rattle.std.proofs.lemmas.Bool.{cases_lt, cases_Bool}
use Rattle.std.proofs.lemmas.Bool.Decides.{eqb_tells}
use Rattle.fx_disk.specs.Record.{Call, Write, Flush, DiskRecord, Cell, IsBlock, Left, call_at, cell_at}
use Rattle.fx_disk.specs.Loose.{IsWriteOf, payload}
use Rattle.fx_disk.specs.Steps.{IsRecordOf, IsCallOf}
use Rattle.fx_base.specs.Blocks.{zero_bytes}
use Rattle.fx_disks.specs.Calls.{bytes_by, bytes_or, record_from}
use Rattle.fx_disks.specs.Tracks.{Tracks, TrackedAt, fresh, is_fixed, settled_number}
use Rattle.fx_disks.specs.Picks.{IsPick, ArePicks, IsImageOf, CanBeLeft, Wrote, pick_of, left_bytes, chosen_bytes}
use Rattle.fx_disks.specs.Left.{AreChosen, HoldsChoices, bytes_of_choice}
use Rattle.fx_disks.specs.declared.track.Track.{Track}
use Rattle.fx_disks.specs.declared.pick.Pick.{Pick}
use Rattle.fx_disks.specs.declared.pick.Loose.{Loose}
use Rattle.fx_disks.specs.declared.pick.Loose.TheVariants.{Settled, Written, Half, Zeros}
use Rattle.fx_disks.proofs.Following.{bytes_by-number}

-- what is picked for a block is a pick of it
pub record Picked (r : DiskRecord) (m b : ℕ) (loose : Loose) : Type 0 where
  pub loose_at : (cell_at r m b).loose ≡ true
  pub left : CanBeLeft r.calls m b loose

pub pick_of-picked : (r : DiskRecord) (m b : ℕ) (loose : Loose) (picks : List Pick) → All (IsPick r m) picks → pick_of picks b ≡ Some loose → Picked r m b loose
pick_of-picked r m b loose [] all e = absurd (cc)
pick_of-picked r m b loose (p ∷ picks) all e = ⊎_elim
    (λ y. let mine : IsPick r m p = All-head (IsPick r m) p picks all in
    let same : Some p.loose ≡ Some loose = subst (λ (t : Bool). (if t then Some p.loose else pick_of picks b) ≡ Some loose) y.0 e in
    let same' : p.loose ≡ loose = cc in
    record {
      loose_at = subst (λ (k : ℕ). (cell_at r m k).loose ≡ true) y.1 mine.loose;
      left = subst (λ (k : ℕ). CanBeLeft r.calls m k loose) y.1 (subst (λ (l : Loose). CanBeLeft r.calls m p.block l) same' mine.left);
    })
    (λ n. pick_of-picked r m b loose picks (All-tail (IsPick r m) p picks all) (subst (λ (t : Bool). (if t then Some p.loose else pick_of picks b) ≡ Some loose) n.0 e))
    (eqb_tells p.block b)

write-bytes : (b : ℕ) (call : Call) (other : List ℕ) → IsWriteOf b call → bytes_or call other ≡ payload call
write-bytes b (Write at bytes ok) other w = refl
write-bytes b (Flush ok) other w = absurd w

wrote-bytes : (r : DiskRecord) (m b number : ℕ) → Wrote r.calls m b number → bytes_by r.entry r.calls b number ≡ payload (call_at r.calls (number - 1))
wrote-bytes r m b number h = bytes_by-number r.entry r.calls b number h.counted ∙ write-bytes b (call_at r.calls (number - 1)) (get_or r.entry b []) h.write

choice-left : (r : DiskRecord) (m b s : ℕ) (loose : Loose) → (cell_at r m b).settled ≡ bytes_by r.entry r.calls b s → CanBeLeft r.calls m b loose → bytes_of_choice r.entry r.calls b s (Some loose) ≡ left_bytes r m b loose
choice-left r m b s Settled e h = sym e
choice-left r m b s (Written number) e h = wrote-bytes r m b number h
choice-left r m b s (Half number) e h = ap (λ (xs : List ℕ). take 2048 xs ++ drop 2048 (bytes_by r.entry r.calls b s)) (wrote-bytes r m b number h) ∙ ap (λ (xs : List ℕ). take 2048 (payload (call_at r.calls (number - 1))) ++ drop 2048 xs) (sym e)
choice-left r m b s Zeros e h = refl

choice-chosen : (r : DiskRecord) (m b s : ℕ) (choice : Option Loose) → (cell_at r m b).settled ≡ bytes_by r.entry r.calls b s → ((loose : Loose) → choice ≡ Some loose → Picked r m b loose)
    → bytes_of_choice r.entry r.calls b s choice ≡ chosen_bytes r m b choice
choice-chosen r m b s None e h = sym e
choice-chosen r m b s (Some loose) e h = let mine : Picked r m b loose = h loose refl in choice-left r m b s loose e mine.left

-- the bytes that are kept are those of blocks
call-block : (n : ℕ) (call : Call) (other : List ℕ) → IsCallOf n call → IsBlock other → IsBlock (bytes_or call other)
call-block n (Write at bytes ok) other h block = h.1
call-block n (Flush ok) other h block = block

bytes_by-block : (size n : ℕ) (r : DiskRecord) (b number : ℕ) → IsRecordOf size n r → b < size → IsBlock (bytes_by r.entry r.calls b number)
bytes_by-block size n r b zero h lt = h.entry b lt
bytes_by-block size n r b (suc k) h lt = ⊎_elim
    (λ below. call-block size (call_at r.calls k) (get_or r.entry b []) (h.each k below) (h.entry b lt))
    (λ past. subst (λ (c : Call). IsBlock (bytes_or c (get_or r.entry b []))) (sym (get_or-eq_default r.calls (Flush false) (omega (arith, h.counted)))) (h.entry b lt))
    (cases_lt k n)

half-block : (xs ys : List ℕ) → IsBlock xs → IsBlock ys → IsBlock (take 2048 xs ++ drop 2048 ys)
half-block xs ys h l = record {
  long = omega (arith, h.long, l.long, length-append (take 2048 xs) (drop 2048 ys), length-take 2048 xs, length-drop 2048 ys);
  each = λ i lt. ⊎_elim
      (λ first. let in-first : i < length (take 2048 xs) = omega (arith, h.long, length-take 2048 xs) in
      rw (get_or_append_left (take 2048 xs) (drop 2048 ys) 0 i in-first, get_or-take 2048 xs i 0 first) (h.each i lt))
      (λ second. let past : length (take 2048 xs) ≤ i = omega (arith, h.long, length-take 2048 xs) in
      rw (get_or-append_right (take 2048 xs) (drop 2048 ys) i 0 past, get_or-drop 2048 ys (i - length (take 2048 xs)) 0) (l.each (2048 + (i - length (take 2048 xs))) (omega (arith, h.long, length-take 2048 xs))))
      (cases_lt i 2048);
}

pub zero-block : IsBlock zero_bytes
unfolding zero_bytes
zero-block = record {
  long = length-replicate {A = ℕ} 4096 0;
  each = λ i lt. rw (get_or-replicate {A = ℕ} 4096 i 0 0 lt) (lit< tt);
}

choice-block : (size n : ℕ) (r : DiskRecord) (b s : ℕ) (choice : Option Loose) → IsRecordOf size n r → b < size → IsBlock (bytes_of_choice r.entry r.calls b s choice)
choice-block size n r b s None h lt = bytes_by-block size n r b s h lt
choice-block size n r b s (Some Settled) h lt = bytes_by-block size n r b s h lt
choice-block size n r b s (Some (Written number)) h lt = bytes_by-block size n r b number h lt
choice-block size n r b s (Some (Half number)) h lt = half-block _ _ (bytes_by-block size n r b number h lt) (bytes_by-block size n r b s h lt)
choice-block size n r b s (Some Zeros) h lt = zero-block

not-true : (t : Bool) → false ≡ not t → t ≡ true
not-true true e = refl
not-true false e = absurd (cc)

-- a settled block has the bytes of its last write
fixed-bytes : (r : DiskRecord) (b n flushed : ℕ) (cell : Cell) (t : Track) → Tracks r b n flushed cell t → cell.loose ≡ false → cell.settled ≡ cell.bytes
fixed-bytes r b n flushed cell t h e =
    let fixed : is_fixed t flushed ≡ true = not-true (is_fixed t flushed) (sym e ∙ h.loose) in
    h.settled ∙ ap (λ (x : Bool). bytes_by r.entry r.calls b (if x then t.written else t.settled)) fixed ∙ sym h.bytes

module _ (n : ℕ) (entry : List (List ℕ)) (calls : List Call) (m flushed : ℕ) (ts : List Track) (chosen : List (Option Loose)) (picks : List Pick) (blocks : List (List ℕ)) where
  image-each : length chosen ≡ length entry → length ts ≡ length entry → AreChosen calls m chosen picks → TrackedAt calls m flushed ts → HoldsChoices entry calls ts flushed chosen blocks (length entry)
      → (b : ℕ) → b < length entry → get_or blocks b [] ≡ chosen_bytes (record_from entry calls) m b (pick_of picks b)
  image-each len lens are tracked held b lt =
      let all : ArePicks (record_from entry calls) m picks = are.are_picks entry (sym len) in
      let track : Tracks (record_from entry calls) b (m + 1) flushed (cell_at (record_from entry calls) m b) (get_or ts b fresh) = tracked entry b (omega arith) in
      held.each b lt
      ∙ ap (bytes_of_choice entry calls b (settled_number (get_or ts b fresh) flushed)) (are.choices b (omega arith))
      ∙ choice-chosen (record_from entry calls) m b (settled_number (get_or ts b fresh) flushed) (pick_of picks b) track.settled (λ loose e. pick_of-picked (record_from entry calls) m b loose picks all.each e)

  pub image-of : length chosen ≡ length entry → length ts ≡ length entry → AreChosen calls m chosen picks → TrackedAt calls m flushed ts → HoldsChoices entry calls ts flushed chosen blocks (length entry)
      → IsImageOf (record_from entry calls) m picks blocks
  image-of len lens are tracked held = record { size = held.size; each = image-each len lens are tracked held }

  kept-at : length chosen ≡ length entry → length ts ≡ length entry → AreChosen calls m chosen picks → TrackedAt calls m flushed ts → HoldsChoices entry calls ts flushed chosen blocks (length entry)
      → (b : ℕ) → b < length entry → (cell_at (record_from entry calls) m b).loose ≡ false → get_or blocks b [] ≡ (cell_at (record_from entry calls) m b).bytes
  kept-at len lens are tracked held b lt still =
      let all : ArePicks (record_from entry calls) m picks = are.are_picks entry (sym len) in
      image-each len lens are tracked held b lt
      ∙ unpicked (pick_of picks b) (λ loose e. pick_of-picked (record_from entry calls) m b loose picks all.each e)
      ∙ fixed-bytes (record_from entry calls) b (m + 1) flushed (cell_at (record_from entry calls) m b) (get_or ts b fresh) (tracked entry b (omega arith)) still
    where
      unpicked : (choice : Option Loose) → ((loose : Loose) → choice ≡ Some loose → Picked (record_from entry calls) m b loose) → chosen_bytes (record_from entry calls) m b choice ≡ (cell_at (record_from entry calls) m b).settled
      unpicked None h = refl
      unpicked (Some loose) h = let mine : Picked (record_from entry calls) m b loose = h loose refl in absurd (cc mine.loose_at)

  pub image-left : IsRecordOf (length entry) n (record_from entry calls) → length chosen ≡ length entry → length ts ≡ length entry → AreChosen calls m chosen picks → TrackedAt calls m flushed ts
      → HoldsChoices entry calls ts flushed chosen blocks (length entry) → Left (record_from entry calls) m blocks
  image-left h len lens are tracked held = record {
    size = held.size;
    blocks = λ b lt. subst IsBlock (sym (held.each b lt)) (choice-block (length entry) n (record_from entry calls) b (settled_number (get_or ts b fresh) flushed) (get_or chosen b None) h lt);
    kept = kept-at len lens are tracked held;
  }
