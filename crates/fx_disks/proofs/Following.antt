-- What the tracks of the blocks keep over a call.
use Rattle.std.proofs.Common.{◌≡◌, ◌≢◌, ℕ, zero, suc, ◌+◌, ◌-◌, ◌≤◌, ◌<◌, ◌==◌, ◌&&◌, not, if◌then◌else◌, nat_le, List, [], ◌∷◌, ◌++◌, length, take, get_or, set, map, replicate, refl, subst, sym, ◌∙◌, ap, arith, ⊎_elim, ◌⊎◌, inl, inr, Bool, true, false}
use Rattle.std.proofs.lemmas.List.{length-set, get_or-set_other, get_or-set_same, get_or-replicate, length-replicate, get_or-map, length-map}
use Rattle.std.proofs.Math.ListN.{get_or-eq_default}
use Rattle.std.proofs.lemmas.Bool.{cases_lt, cases_Bool, le-leb, lt-leb}
use Rattle.std.proofs.lemmas.Bool.Decides.{eqb_tells}
use Rattle.fx_disk.specs.Record.{Call, Write, Flush, DiskRecord, Cell, call_at, cell_first, cell_after, cell_at, settled_cell, written_cell, flushed_cell, after_call, within_call}
use Rattle.fx_disk.specs.Steps.{IsCallOf}
use Rattle.fx_disk.proofs.Loose.{cell_after-more}
use Rattle.fx_disks.specs.Calls.{bytes_by, bytes_or, record_from, call_of, is_write}
use Rattle.fx_disks.specs.declared.call.Made.{Made}
use Rattle.fx_disks.specs.declared.call.Made.TheVariants as made
use Rattle.fx_disks.specs.Tracks.{fresh, is_fixed, settled_number, track_after, tracks_after, flushed_after, Tracks, AllTracked, AllCallsOf, TrackedAfter, TrackedAt}
use Rattle.fx_disks.specs.declared.track.Track.{Track}

and-false : (a : Bool) → (a && false) ≡ false
and-false true = refl
and-false false = refl

bytes_by-suc : (entry : List (List ℕ)) (calls : List Call) (b n : ℕ) → bytes_by entry calls b (n + 1) ≡ bytes_or (call_at calls n) (get_or entry b [])
bytes_by-suc entry calls b n = let one : n + 1 ≡ suc n = omega arith in ap (bytes_by entry calls b) one

module _ (r : DiskRecord) (b n flushed : ℕ) (cell : Cell) (t : Track) (h : Tracks r b n flushed cell t) where
  Tracks-later : Tracks r b (n + 1) flushed cell t
  Tracks-later = record { written = omega (arith, h.written); failed = h.failed; loose = h.loose; bytes = h.bytes; settled = h.settled }

  Tracks-write : (at : ℕ) (bytes : List ℕ) (ok : Bool) → call_at r.calls n ≡ Write at bytes ok → flushed ≤ n → Tracks r b (n + 1) flushed (written_cell bytes ok cell) (track_after (n + 1) ok flushed t)
  Tracks-write at bytes ok is le =
      let unfixed : is_fixed (track_after (n + 1) ok flushed t) flushed ≡ false = ap (λ (x : Bool). ok && x) (lt-leb (n + 1) flushed (omega arith)) ∙ and-false ok in
      record {
        written = omega arith;
        failed = refl;
        loose = sym (ap not unfixed);
        bytes = sym (bytes_by-suc r.entry r.calls b n ∙ ap (λ (c : Call). bytes_or c (get_or r.entry b [])) is);
        settled = h.settled ∙ ap (bytes_by r.entry r.calls b) (sym (ap (λ (x : Bool). if x then n + 1 else settled_number t flushed) unfixed));
      }

  good-flush : t.good ≡ true → Tracks r b (n + 1) (n + 1) (flushed_cell true cell) t
  good-flush good =
      let fixed : is_fixed t (n + 1) ≡ true = ap (λ (x : Bool). x && nat_le t.written (n + 1)) good ∙ le-leb t.written (n + 1) (omega (arith, h.written)) in
      let done : settled_cell cell ≡ flushed_cell true cell = sym (ap (λ (x : Bool). if not x then settled_cell cell else cell) (h.failed ∙ ap not good)) in
      subst (λ (c : Cell). Tracks r b (n + 1) (n + 1) c t) done (record {
        written = omega (arith, h.written);
        failed = sym (ap not good);
        loose = sym (ap not fixed);
        bytes = h.bytes;
        settled = h.bytes ∙ ap (bytes_by r.entry r.calls b) (sym (ap (λ (x : Bool). if x then t.written else t.settled) fixed));
      })

  failed-flush : t.good ≡ false → Tracks r b (n + 1) (n + 1) (flushed_cell true cell) t
  failed-flush bad =
      let before : is_fixed t flushed ≡ false = ap (λ (x : Bool). x && nat_le t.written flushed) bad in
      let after : is_fixed t (n + 1) ≡ false = ap (λ (x : Bool). x && nat_le t.written (n + 1)) bad in
      let kept : cell ≡ flushed_cell true cell = sym (ap (λ (x : Bool). if not x then settled_cell cell else cell) (h.failed ∙ ap not bad)) in
      subst (λ (c : Cell). Tracks r b (n + 1) (n + 1) c t) kept (record {
        written = omega (arith, h.written);
        failed = h.failed;
        loose = h.loose ∙ ap not (before ∙ sym after);
        bytes = h.bytes;
        settled = h.settled ∙ ap (λ (x : Bool). bytes_by r.entry r.calls b (if x then t.written else t.settled)) (before ∙ sym after);
      })

  Tracks-flush : Tracks r b (n + 1) (n + 1) (flushed_cell true cell) t
  Tracks-flush = ⊎_elim good-flush failed-flush (cases_Bool t.good)

-- every block over one call
pub AllTracked-step : (r : DiskRecord) (n flushed : ℕ) (cells : ℕ → Cell) (ts : List Track) (call : Call) → IsCallOf (length ts) call → call_at r.calls n ≡ call → flushed ≤ n
    → AllTracked r n flushed cells ts → AllTracked r (n + 1) (flushed_after call (n + 1) flushed) (λ b. after_call b call (cells b)) (tracks_after call (n + 1) flushed ts)
AllTracked-step r n flushed cells ts (Write at bytes ok) call is le h = λ b lt.
    let lt' : b < length ts = omega (arith, lt, length-set ts at (track_after (n + 1) ok flushed (get_or ts at fresh))) in
    ⊎_elim
    (λ y. let same : at ≡ b = y.1 in
    subst (λ (t : Bool). Tracks r b (n + 1) flushed (if t then written_cell bytes ok (cells b) else cells b) (get_or (set ts at (track_after (n + 1) ok flushed (get_or ts at fresh))) b fresh)) (sym y.0)
    (subst (λ (k : ℕ). Tracks r b (n + 1) flushed (written_cell bytes ok (cells b)) (get_or (set ts k (track_after (n + 1) ok flushed (get_or ts k fresh))) b fresh)) (sym same)
    (subst (λ (t : Track). Tracks r b (n + 1) flushed (written_cell bytes ok (cells b)) t) (sym (get_or-set_same ts b (track_after (n + 1) ok flushed (get_or ts b fresh)) fresh lt'))
    (Tracks-write r b n flushed (cells b) (get_or ts b fresh) (h b lt') at bytes ok is le))))
    (λ m. let other : b ≢ at = λ e. m.1 (sym e) in
    subst (λ (t : Bool). Tracks r b (n + 1) flushed (if t then written_cell bytes ok (cells b) else cells b) (get_or (set ts at (track_after (n + 1) ok flushed (get_or ts at fresh))) b fresh)) (sym m.0)
    (subst (λ (t : Track). Tracks r b (n + 1) flushed (cells b) t) (sym (get_or-set_other ts at b (track_after (n + 1) ok flushed (get_or ts at fresh)) fresh other))
    (Tracks-later r b n flushed (cells b) (get_or ts b fresh) (h b lt'))))
    (eqb_tells at b)
AllTracked-step r n flushed cells ts (Flush true) call is le h = λ b lt. Tracks-flush r b n flushed (cells b) (get_or ts b fresh) (h b lt)
AllTracked-step r n flushed cells ts (Flush false) call is le h = λ b lt. Tracks-later r b n flushed (cells b) (get_or ts b fresh) (h b lt)

pub flushed-le : (call : Call) (n flushed : ℕ) → flushed ≤ n → flushed_after call (n + 1) flushed ≤ n + 1
flushed-le (Write at bytes ok) n flushed le = omega arith
flushed-le (Flush true) n flushed le = omega arith
flushed-le (Flush false) n flushed le = omega arith

pub length-tracks_after : (call : Call) (number flushed : ℕ) (ts : List Track) → length (tracks_after call number flushed ts) ≡ length ts
length-tracks_after (Write at bytes ok) number flushed ts = length-set ts at (track_after number ok flushed (get_or ts at fresh))
length-tracks_after (Flush ok) number flushed ts = refl

pub Tracks-fresh : (r : DiskRecord) (b : ℕ) → Tracks r b 0 0 (cell_first r b) fresh
Tracks-fresh r b = record { written = omega arith; failed = refl; loose = refl; bytes = refl; settled = refl }

-- the tracks of blocks that no call wrote
pub fresh-get : (n b : ℕ) → get_or (replicate n fresh) b fresh ≡ fresh
fresh-get n b = ⊎_elim (λ lt. get_or-replicate n b fresh fresh lt) (λ ge. get_or-eq_default (replicate n fresh) fresh (omega (arith, length-replicate n fresh))) (cases_lt b n)

pub TrackedAfter-begin : (calls : List Call) (ts : List Track) → ts ≡ replicate (length ts) fresh → TrackedAfter calls 0 0 ts
TrackedAfter-begin calls ts e = λ entry b lt. subst (λ (t : Track). Tracks (record_from entry calls) b 0 0 (cell_first (record_from entry calls) b) t) (sym (ap (λ (us : List Track). get_or us b fresh) e ∙ fresh-get (length ts) b)) (Tracks-fresh (record_from entry calls) b)

pub TrackedAfter-step : (calls : List Call) (m flushed : ℕ) (ts : List Track) (call : Call) → m < length calls → call_at calls m ≡ call → IsCallOf (length ts) call → flushed ≤ m
    → TrackedAfter calls m flushed ts → TrackedAfter calls (m + 1) (flushed_after call (m + 1) flushed) (tracks_after call (m + 1) flushed ts)
TrackedAfter-step calls m flushed ts call lt is of le h = λ entry b below.
    let r : DiskRecord = record_from entry calls in
    subst (λ (c : Cell). Tracks r b (m + 1) (flushed_after call (m + 1) flushed) c (get_or (tracks_after call (m + 1) flushed ts) b fresh)) (sym (cell_after-more r m b lt ∙ ap (λ (c : Call). after_call b c (cell_after r m b)) is))
    (AllTracked-step r m flushed (cell_after r m) ts call of is le (h entry) b below)

-- the call that the code reads is the one at its place
pub call_at-map : (calls : List Made) (k : ℕ) (made : Made) → k < length calls → made ≡ get_or calls k made → call_at (map call_of calls) k ≡ call_of made
call_at-map calls k made lt e = get_or-map call_of calls k made (Flush false) lt ∙ sym (ap call_of e)

pub is_call_of : (n : ℕ) (calls : List Made) (k : ℕ) (made : Made) → AllCallsOf n (map call_of calls) → k < length calls → made ≡ get_or calls k made → IsCallOf n (call_of made)
is_call_of n calls k made all lt e = subst (λ (c : Call). IsCallOf n c) (call_at-map calls k made lt e) (all k (omega (arith, length-map calls call_of)))

-- at the moment, a next call that is a write counts
write-within : (r : DiskRecord) (n flushed b : ℕ) (cell : Cell) (made : Made) (t : Track) → is_write made ≡ true
    → Tracks r b n (flushed_after (call_of made) n flushed) (after_call b (call_of made) cell) t → Tracks r b n flushed (within_call b (call_of made) cell) t
write-within r n flushed b cell (made.Write at bytes ok) t e h = h
write-within r n flushed b cell (made.Flush ok) t e h = absurd (cc)

pub TrackedAt-write : (calls : List Call) (m flushed : ℕ) (ts : List Track) (made : Made) → m < length calls → call_at calls m ≡ call_of made → is_write made ≡ true → IsCallOf (length ts) (call_of made) → flushed ≤ m
    → TrackedAfter calls m flushed ts → TrackedAt calls m flushed (tracks_after (call_of made) (m + 1) flushed ts)
TrackedAt-write calls m flushed ts made lt is write of le h = λ entry b below.
    let r : DiskRecord = record_from entry calls in
    subst (λ (c : Call). Tracks r b (m + 1) flushed (within_call b c (cell_after r m b)) (get_or (tracks_after (call_of made) (m + 1) flushed ts) b fresh)) (sym is)
    (write-within r (m + 1) flushed b (cell_after r m b) made _ write (AllTracked-step r m flushed (cell_after r m) ts (call_of made) of is le (h entry) b below))

flush-within : (b : ℕ) (cell : Cell) (made : Made) → is_write made ≡ false → within_call b (call_of made) cell ≡ cell
flush-within b cell (made.Write at bytes ok) e = absurd (cc)
flush-within b cell (made.Flush ok) e = refl

TrackedAt-same : (calls : List Call) (m flushed : ℕ) (ts : List Track) → ((b : ℕ) (cell : Cell) → within_call b (call_at calls m) cell ≡ cell) → TrackedAfter calls m flushed ts → TrackedAt calls m flushed ts
TrackedAt-same calls m flushed ts same h = λ entry b below.
    let r : DiskRecord = record_from entry calls in
    subst (λ (c : Cell). Tracks r b (m + 1) flushed c (get_or ts b fresh)) (sym (same b (cell_after r m b))) (Tracks-later r b m flushed (cell_after r m b) (get_or ts b fresh) (h entry b below))

pub TrackedAt-flush : (calls : List Call) (m flushed : ℕ) (ts : List Track) (made : Made) → call_at calls m ≡ call_of made → is_write made ≡ false → TrackedAfter calls m flushed ts → TrackedAt calls m flushed ts
TrackedAt-flush calls m flushed ts made is flush h = TrackedAt-same calls m flushed ts (λ b cell. ap (λ (c : Call). within_call b c cell) is ∙ flush-within b cell made flush) h

pub TrackedAt-end : (calls : List Call) (m flushed : ℕ) (ts : List Track) → m ≡ length calls → TrackedAfter calls m flushed ts → TrackedAt calls m flushed ts
TrackedAt-end calls m flushed ts e h = TrackedAt-same calls m flushed ts (λ b cell. ap (λ (c : Call). within_call b c cell) (get_or-eq_default calls (Flush false) (omega arith))) h

pub bytes_by-number : (entry : List (List ℕ)) (calls : List Call) (b number : ℕ) → 0 < number → bytes_by entry calls b number ≡ bytes_or (call_at calls (number - 1)) (get_or entry b [])
bytes_by-number entry calls b number lt = let e : number ≡ suc (number - 1) = omega arith in ap (bytes_by entry calls b) e

pub bytes_by-none : (entry : List (List ℕ)) (calls : List Call) (b number : ℕ) → (number ≡ 0) ⊎ (length calls ≤ number - 1) → bytes_by entry calls b number ≡ get_or entry b []
bytes_by-none entry calls b number (inl e) = ap (bytes_by entry calls b) e
bytes_by-none entry calls b zero (inr le) = refl
bytes_by-none entry calls b (suc k) (inr le) = ap (λ (c : Call). bytes_or c (get_or entry b [])) (get_or-eq_default calls (Flush false) (omega arith))
