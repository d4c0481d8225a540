-- What a disk in memory keeps over its calls.
use Rattle.std.proofs.Common.{◌≡◌, ◌≢◌, ◌↔◌, ℕ, zero, suc, ◌+◌, ◌-◌, ◌^◌, ◌≤◌, ◌<◌, ◌⊎◌, inl, inr, ⊎_elim, Bool, true, false, not, if◌then◌else◌, List, [], ◌∷◌, ◌++◌, length, map, take, get_or, slice_set, replicate, refl, subst, sym, ◌∙◌, ap, arith, lit<, Option, Some, None, Contains}
use Rattle.std.proofs.lemmas.List.{length-append, length-map, length-set, length-replicate, get_or-replicate, get_or-set_same, get_or-set_other, get_or_append_left, set-get_or, length-take, get_or-take}
use Rattle.std.proofs.Math.ListN.{get_or-eq_default}
use Rattle.std.proofs.Math.Seq.{get_or-append_seam, get_or-append_right}
use Rattle.std.proofs.lemmas.Bool.{cases_lt}
use Rattle.std.proofs.lemmas.Bool.Decides.{eqb_tells}
use Rattle.fx_disk.specs.Record.{Call, Write, Flush, DiskRecord, IsBlock, call_at}
use Rattle.fx_disk.specs.Steps.{MayHold, with_write, with_flush, IsRecordOf}
use Rattle.fx_disk.proofs.Records.{IsRecordOf-fresh, IsRecordOf-write, IsRecordOf-flush, by_block}
use Rattle.fx_disks.specs.Blocks.{AreBlocks}
use Rattle.fx_base.specs.Blocks.{zero_bytes}
use Rattle.fx_disks.specs.Calls.{bytes_by, bytes_or, contents_after, record_from}
use Rattle.fx_disks.specs.Index.{IsIndex}
use Rattle.fx_disks.specs.State.{written_record}

-- one more call
pub contents_after-append : (now : List (List ℕ)) (xs ys : List Call) → contents_after now (xs ++ ys) ≡ contents_after (contents_after now xs) ys
contents_after-append now [] ys = refl
contents_after-append now (Write at bytes true ∷ xs) ys = contents_after-append (slice_set now at bytes) xs ys
contents_after-append now (Write at bytes false ∷ xs) ys = contents_after-append now xs ys
contents_after-append now (Flush ok ∷ xs) ys = contents_after-append now xs ys

pub length-contents_after : (now : List (List ℕ)) (calls : List Call) → length (contents_after now calls) ≡ length now
length-contents_after now [] = refl
length-contents_after now (Write at bytes true ∷ calls) = length-contents_after (slice_set now at bytes) calls ∙ length-set now at bytes
length-contents_after now (Write at bytes false ∷ calls) = length-contents_after now calls
length-contents_after now (Flush ok ∷ calls) = length-contents_after now calls

-- the bytes of an older call stay
pub bytes_by-append : (entry : List (List ℕ)) (calls : List Call) (call : Call) (b number : ℕ) → number ≤ length calls → bytes_by entry (calls ++ call ∷ []) b number ≡ bytes_by entry calls b number
bytes_by-append entry calls call b zero le = refl
bytes_by-append entry calls call b (suc k) le = ap (λ (c : Call). bytes_or c (get_or entry b [])) (get_or_append_left calls (call ∷ []) (Flush false) k (omega arith))

bytes_by-last : (entry : List (List ℕ)) (calls : List Call) (call : Call) (b : ℕ) → bytes_by entry (calls ++ call ∷ []) b (length calls + 1) ≡ bytes_or call (get_or entry b [])
bytes_by-last entry calls call b =
    let one : length calls + 1 ≡ suc (length calls) = omega arith in
    ap (bytes_by entry (calls ++ call ∷ []) b) one ∙ ap (λ (c : Call). bytes_or c (get_or entry b [])) (get_or-append_seam calls call [] (Flush false))

-- the record after a write and after a flush
pub record-write : (entry : List (List ℕ)) (calls : List Call) (at : ℕ) (bytes : List ℕ) (ok : Bool) → record_from entry (calls ++ Write at bytes ok ∷ []) ≡ written_record (record_from entry calls) at bytes ok
record-write entry calls at bytes true = ap (λ (now : List (List ℕ)). record { entry = entry; calls = calls ++ Write at bytes true ∷ []; contents = now }) (contents_after-append entry calls (Write at bytes true ∷ []))
record-write entry calls at bytes false =
    ap (λ (now : List (List ℕ)). record { entry = entry; calls = calls ++ Write at bytes false ∷ []; contents = now })
    (contents_after-append entry calls (Write at bytes false ∷ []) ∙ sym (set-get_or (contents_after entry calls) at []))

pub record-flush : (entry : List (List ℕ)) (calls : List Call) (ok : Bool) → record_from entry (calls ++ Flush ok ∷ []) ≡ with_flush (record_from entry calls) ok
record-flush entry calls ok = ap (λ (now : List (List ℕ)). record { entry = entry; calls = calls ++ Flush ok ∷ []; contents = now }) (contents_after-append entry calls (Flush ok ∷ []))

-- what a written block holds
pub holds-written : (size calls : ℕ) (r : DiskRecord) (at : ℕ) (bytes : List ℕ) (ok : Bool) → IsRecordOf size calls r → at < size → IsBlock bytes → MayHold bytes ok (if ok then bytes else get_or r.contents at [])
holds-written size calls r at bytes true h lt block = record { block = block; good = λ _. refl }
holds-written size calls r at bytes false h lt block = record { block = h.blocks at lt; good = λ e. absurd (cc) }

-- the ghost facts of the disk, over a write and a flush
pub recorded-write : (entry : List (List ℕ)) (calls : List Call) (n at : ℕ) (bytes : List ℕ) (ok : Bool) → at < length entry → IsBlock bytes
    → IsRecordOf (length entry) n (record_from entry calls) → IsRecordOf (length entry) (n + 1) (record_from entry (calls ++ Write at bytes ok ∷ []))
recorded-write entry calls n at bytes ok lt block h =
    subst (λ (r : DiskRecord). IsRecordOf (length entry) (n + 1) r) (sym (record-write entry calls at bytes ok))
    (IsRecordOf-write (length entry) n (record_from entry calls) at bytes ok (if ok then bytes else get_or (contents_after entry calls) at []) lt (holds-written (length entry) n (record_from entry calls) at bytes ok h lt block) h block)

pub recorded-flush : (entry : List (List ℕ)) (calls : List Call) (n : ℕ) (ok : Bool) → IsRecordOf (length entry) n (record_from entry calls) → IsRecordOf (length entry) (n + 1) (record_from entry (calls ++ Flush ok ∷ []))
recorded-flush entry calls n ok h =
    subst (λ (r : DiskRecord). IsRecordOf (length entry) (n + 1) r) (sym (record-flush entry calls ok)) (IsRecordOf-flush (length entry) n (record_from entry calls) ok h)

pub IsIndex-fresh : (entry : List (List ℕ)) → IsIndex entry [] []
IsIndex-fresh entry = record { within = λ b lt. omega arith; reads = λ b lt. refl }

-- a call that changes no block
same-index : (entry : List (List ℕ)) (calls : List Call) (call : Call) (latest : List ℕ) → contents_after entry (calls ++ call ∷ []) ≡ contents_after entry calls → IsIndex entry calls latest → IsIndex entry (calls ++ call ∷ []) latest
same-index entry calls call latest same h = record {
  within = λ b lt. omega (arith, h.within b lt, length-append calls (call ∷ []));
  reads = λ b lt. ap (λ (now : List (List ℕ)). get_or now b []) same ∙ h.reads b lt ∙ sym (bytes_by-append entry calls call b (get_or latest b 0) (h.within b lt));
}

pub IsIndex-flush : (entry : List (List ℕ)) (calls : List Call) (latest : List ℕ) (ok : Bool) → IsIndex entry calls latest → IsIndex entry (calls ++ Flush ok ∷ []) latest
IsIndex-flush entry calls latest ok h = same-index entry calls (Flush ok) latest (contents_after-append entry calls (Flush ok ∷ [])) h

pub IsIndex-failed : (entry : List (List ℕ)) (calls : List Call) (latest : List ℕ) (at : ℕ) (bytes : List ℕ) → IsIndex entry calls latest → IsIndex entry (calls ++ Write at bytes false ∷ []) latest
IsIndex-failed entry calls latest at bytes h = same-index entry calls (Write at bytes false) latest (contents_after-append entry calls (Write at bytes false ∷ [])) h

pub IsIndex-good : (entry : List (List ℕ)) (calls : List Call) (latest : List ℕ) (at : ℕ) (bytes : List ℕ) → at < length latest → IsIndex entry calls latest → IsIndex entry (calls ++ Write at bytes true ∷ []) (slice_set latest at (length calls + 1))
IsIndex-good entry calls latest at bytes room h = record {
  within = λ b lt. by_block at b (get_or (slice_set latest at (length calls + 1)) b 0 ≤ length (calls ++ Write at bytes true ∷ []))
      (λ e. subst (λ (k : ℕ). get_or (slice_set latest at (length calls + 1)) k 0 ≤ length (calls ++ Write at bytes true ∷ [])) e
      (omega (arith, get_or-set_same latest at (length calls + 1) 0 room, length-append calls (Write at bytes true ∷ []))))
      (λ ne. let other : b ≢ at = λ e. ne (sym e) in omega (arith, h.within b lt, get_or-set_other latest at b (length calls + 1) 0 other, length-append calls (Write at bytes true ∷ [])));
  reads = λ b lt. ap (λ (now : List (List ℕ)). get_or now b []) (contents_after-append entry calls (Write at bytes true ∷ [])) ∙ written b lt;
}
  where
    written : (b : ℕ) → b < length entry → get_or (slice_set (contents_after entry calls) at bytes) b [] ≡ bytes_by entry (calls ++ Write at bytes true ∷ []) b (get_or (slice_set latest at (length calls + 1)) b 0)
    written b lt = by_block at b (get_or (slice_set (contents_after entry calls) at bytes) b [] ≡ bytes_by entry (calls ++ Write at bytes true ∷ []) b (get_or (slice_set latest at (length calls + 1)) b 0))
        (λ e. let held : b < length (contents_after entry calls) = omega (arith, length-contents_after entry calls) in
        let held' : b < length latest = omega arith in
        subst (λ (k : ℕ). get_or (slice_set (contents_after entry calls) k bytes) b [] ≡ bytes_by entry (calls ++ Write at bytes true ∷ []) b (get_or (slice_set latest k (length calls + 1)) b 0)) (sym e)
        (get_or-set_same (contents_after entry calls) b bytes [] held ∙ sym (ap (bytes_by entry (calls ++ Write at bytes true ∷ []) b) (get_or-set_same latest b (length calls + 1) 0 held') ∙ bytes_by-last entry calls (Write at bytes true) b)))
        (λ ne. let other : b ≢ at = λ e. ne (sym e) in
        get_or-set_other (contents_after entry calls) at b bytes [] other ∙ h.reads b lt
        ∙ sym (ap (bytes_by entry (calls ++ Write at bytes true ∷ []) b) (get_or-set_other latest at b (length calls + 1) 0 other) ∙ bytes_by-append entry calls (Write at bytes true) b (get_or latest b 0) (h.within b lt)))

zero-get : (n k : ℕ) → get_or {A = ℕ} (replicate n 0) k 0 ≡ 0
zero-get n k = ⊎_elim (λ lt. get_or-replicate {A = ℕ} n k 0 0 lt) (λ ge. get_or-eq_default {A = ℕ} (replicate n 0) 0 (omega (arith, length-replicate {A = ℕ} n 0))) (cases_lt k n)

-- a longer index
pub IsIndex-resize : (entry : List (List ℕ)) (calls : List Call) (latest : List ℕ) → IsIndex entry calls latest → IsIndex entry calls (take (length entry) latest ++ replicate (length entry - length latest) 0)
IsIndex-resize entry calls latest h = record {
  within = λ b lt. subst (λ (k : ℕ). k ≤ length calls) (sym (same b lt)) (h.within b lt);
  reads = λ b lt. h.reads b lt ∙ ap (bytes_by entry calls b) (sym (same b lt));
}
  where
    same : (b : ℕ) → b < length entry → get_or (take (length entry) latest ++ replicate (length entry - length latest) 0) b 0 ≡ get_or latest b 0
    same b lt = ⊎_elim
        (λ below. get_or_append_left (take (length entry) latest) (replicate (length entry - length latest) 0) 0 b (omega (arith, below, length-take (length entry) latest)) ∙ get_or-take (length entry) latest b 0 lt)
        (λ past. get_or-append_right (take (length entry) latest) (replicate (length entry - length latest) 0) b 0 (omega (arith, past, length-take (length entry) latest))
        ∙ zero-get (length entry - length latest) (b - length (take (length entry) latest)) ∙ sym (get_or-eq_default latest 0 past))
        (cases_lt b (length latest))

pub recorded-fresh : (entry : List (List ℕ)) → AreBlocks entry → IsRecordOf (length entry) 0 (record_from entry [])
recorded-fresh entry blocks = IsRecordOf-fresh entry blocks

pub IsIndex-write : (entry : List (List ℕ)) (calls : List Call) (latest : List ℕ) (at : ℕ) (bytes : List ℕ) (number : ℕ) (ok : Bool) → at < length latest → number ≡ length calls + 1 → IsIndex entry calls latest
    → IsIndex entry (calls ++ Write at bytes ok ∷ []) (if ok then slice_set latest at number else latest)
IsIndex-write entry calls latest at bytes number true room e h = rw e (IsIndex-good entry calls latest at bytes room h)
IsIndex-write entry calls latest at bytes number false room e h = IsIndex-failed entry calls latest at bytes h

pub few-more : (xs ys : List Call) (call : Call) → ys ≡ xs ++ call ∷ [] → length xs < 2 ^ 63 → length ys ≤ 2 ^ 63
few-more xs ys call e lt = omega (arith, ap length e, length-append xs (call ∷ []))

pub recorded-write_to : (entry : List (List ℕ)) (xs ys : List Call) (at : ℕ) (bytes : List ℕ) (ok : Bool) → ys ≡ xs ++ Write at bytes ok ∷ [] → at < length entry → IsBlock bytes
    → IsRecordOf (length entry) (length xs) (record_from entry xs) → IsRecordOf (length entry) (length ys) (record_from entry ys)
recorded-write_to entry xs ys at bytes ok e lt block h = rw (e, length-append xs (Write at bytes ok ∷ [])) (recorded-write entry xs (length xs) at bytes ok lt block h)

pub recorded-flush_to : (entry : List (List ℕ)) (xs ys : List Call) (ok : Bool) → ys ≡ xs ++ Flush ok ∷ [] → IsRecordOf (length entry) (length xs) (record_from entry xs) → IsRecordOf (length entry) (length ys) (record_from entry ys)
recorded-flush_to entry xs ys ok e h = rw (e, length-append xs (Flush ok ∷ [])) (recorded-flush entry xs (length xs) ok h)
