-- What is read off notes, with one note more.
use Rattle.std.proofs.Common.{◌≡◌, ℕ, ◌+◌, ◌<◌, ◌≤◌, Bool, true, false, cond, List, [], ◌∷◌, ◌++◌, length, length-append, map, refl, sym, ap, subst, ◌∙◌, append_assoc, arith}
use Rattle.std.specs.Prelude.{nat_le}
use Rattle.std.proofs.lemmas.Bool.{leb-true}
use Rattle.std.proofs.lemmas.List.{append-nil, length-map, map-append}
use Rattle.fx_history.specs.declared.entry.Entry.{Entry}
use Rattle.fx_events.specs.Notes.{AreNotes, FollowOn, Mounted, Note, Commits, Raises, Settles, calls_in, entries_in, history_in, last_calls, last_commit, settled_at, settled_upto}
use Rattle.fx_events.proofs.Entries.{entries_more}

-- a commit settles nothing
calls_commit : (notes : List Note) (e : Entry) (n : ℕ) → calls_in (notes ++ Commits e ∷ []) n ≡ calls_in notes n
calls_commit [] e n = refl
calls_commit (Commits x ∷ notes) e n = calls_commit notes e n
calls_commit (Settles number calls ∷ notes) e n = ap (cond (nat_le n number) calls) (calls_commit notes e n)
calls_commit (Raises base ∷ notes) e n = calls_commit notes e n

pub settled_commit : (kept : ℕ) (notes : List Note) (e : Entry) → settled_upto kept (notes ++ Commits e ∷ []) ≡ settled_upto kept notes
settled_commit kept [] e = refl
settled_commit kept (Commits x ∷ notes) e = settled_commit kept notes e
settled_commit kept (Settles number calls ∷ notes) e = settled_commit number notes e
settled_commit kept (Raises base ∷ notes) e = settled_commit kept notes e

pub last_calls_commit : (before : ℕ) (notes : List Note) (e : Entry) → last_calls before (notes ++ Commits e ∷ []) ≡ last_calls before notes
last_calls_commit before [] e = refl
last_calls_commit before (Commits x ∷ notes) e = last_calls_commit before notes e
last_calls_commit before (Settles number calls ∷ notes) e = last_calls_commit calls notes e
last_calls_commit before (Raises base ∷ notes) e = last_calls_commit before notes e

-- a raised base neither commits nor settles
calls_base : (notes : List Note) (b n : ℕ) → calls_in (notes ++ Raises b ∷ []) n ≡ calls_in notes n
calls_base [] b n = refl
calls_base (Commits x ∷ notes) b n = calls_base notes b n
calls_base (Settles number calls ∷ notes) b n = ap (cond (nat_le n number) calls) (calls_base notes b n)
calls_base (Raises base ∷ notes) b n = calls_base notes b n

pub settled_base : (kept : ℕ) (notes : List Note) (b : ℕ) → settled_upto kept (notes ++ Raises b ∷ []) ≡ settled_upto kept notes
settled_base kept [] b = refl
settled_base kept (Commits x ∷ notes) b = settled_base kept notes b
settled_base kept (Settles number calls ∷ notes) b = settled_base number notes b
settled_base kept (Raises base ∷ notes) b = settled_base kept notes b

pub last_calls_base : (before : ℕ) (notes : List Note) (b : ℕ) → last_calls before (notes ++ Raises b ∷ []) ≡ last_calls before notes
last_calls_base before [] b = refl
last_calls_base before (Commits x ∷ notes) b = last_calls_base before notes b
last_calls_base before (Settles number calls ∷ notes) b = last_calls_base calls notes b
last_calls_base before (Raises base ∷ notes) b = last_calls_base before notes b

-- ---- what comes after all notes is not settled

not_upto : (n number : ℕ) → number < n → nat_le n number ≡ false
not_upto n number l = by (nat_le n number) refl
  where
    by : (b : Bool) → nat_le n number ≡ b → b ≡ false
    by false e = refl
    by true e = absurd (let a : n ≤ number = leb-true n number e in omega arith)

beyond : (mounted : Mounted) (former latter : List Note) → FollowOn mounted former latter → (n : ℕ) → last_commit mounted.kept (former ++ latter) < n → calls_in latter n ≡ 0
beyond mounted former [] f n l = refl
beyond mounted former (note ∷ latter) f n l = by note f.0 (beyond mounted (former ++ note ∷ []) latter f.1 n (subst (λ notes. last_commit mounted.kept notes < n) (sym (append_assoc former (note ∷ []) latter)) l))
  where
    longer : last_commit mounted.kept former < n
    longer = omega (arith, l, ap length (entries_more former (note ∷ latter)), length-append (entries_in former) (entries_in (note ∷ latter)))

    by : (x : Note) → Rattle.fx_events.specs.Notes.IsNextNote mounted former x → calls_in latter n ≡ 0 → calls_in (x ∷ latter) n ≡ 0
    by (Commits e) next rest = rest
    by (Raises b) next rest = rest
    by (Settles number calls) next rest = ap (λ b. cond b calls (calls_in latter n)) (not_upto n number (omega (arith, next.within, longer))) ∙ rest

-- ---- the history

put : List Note → Entry → Entry
put notes entry = settled_at (calls_in notes entry.number) entry

-- a commit stands behind the history, not settled
pub history_more : (mounted : Mounted) (notes : List Note) (e : Entry) → AreNotes mounted notes → e.number ≡ last_commit mounted.kept notes + 1 → e.settled ≡ 0 → history_in (notes ++ Commits e ∷ []) ≡ history_in notes ++ e ∷ []
history_more mounted notes e are number unsettled =
    ap (λ (f : Entry → Entry). map f (entries_in (notes ++ Commits e ∷ []))) (λ i x. settled_at (calls_commit notes e x.number i) x)
    ∙ ap (map (λ (x : Entry). settled_at (calls_in notes x.number) x)) (entries_more notes (Commits e ∷ []))
    ∙ map-append (λ (x : Entry). settled_at (calls_in notes x.number) x) (entries_in notes) (e ∷ [])
    ∙ ap (λ (x : Entry). history_in notes ++ x ∷ []) (ap (λ n. settled_at n e) (beyond mounted [] notes are e.number (omega (arith, number)) ∙ sym unsettled))

pub history_base : (notes : List Note) (b : ℕ) → history_in (notes ++ Raises b ∷ []) ≡ history_in notes
history_base notes b =
    ap (λ (f : Entry → Entry). map f (entries_in (notes ++ Raises b ∷ []))) (λ i x. settled_at (calls_base notes b x.number i) x)
    ∙ ap (map (λ (x : Entry). settled_at (calls_in notes x.number) x)) (entries_more notes (Raises b ∷ []) ∙ append-nil (entries_in notes))

pub history_length : (notes : List Note) → length (history_in notes) ≡ length (entries_in notes)
history_length notes = length-map (entries_in notes) (λ (x : Entry). settled_at (calls_in notes x.number) x)
