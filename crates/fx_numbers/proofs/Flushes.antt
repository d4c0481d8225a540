-- Flushes and entries of one note more, and the history by them.
use Rattle.std.proofs.Common.{◌≡◌, ℕ, zero, suc, ◌+◌, ◌<◌, cond, List, [], ◌∷◌, ◌++◌, length, map, take, get_or, refl, sym, ap, ◌∙◌, arith, nat_le}
use Rattle.std.proofs.lemmas.List.{map-append}
use Rattle.fx_history.specs.declared.entry.Entry.{Entry}
use Rattle.fx_events.specs.Notes.{Commits, Note, Raises, Settles, calls_in, entries_in, history_in, settled_at}
use Rattle.fx_numbers.specs.Noted.{calls_by, flushes_in, note_of, settled_with}
use Rattle.fx_numbers.specs.declared.flush.Flush.{Flush}
use Rattle.fx_numbers.specs.declared.log.Happened.{Happened}
use Rattle.fx_numbers.specs.declared.log.Happened.TheVariants as happened

abbrev pub one_flush : Happened → List Flush
one_flush (happened.Commits entry) = []
one_flush (happened.Settles number calls) = record { number = number; calls = calls } ∷ []
one_flush (happened.Raises base) = []

abbrev pub one_entry : Happened → List Entry
one_entry (happened.Commits entry) = entry ∷ []
one_entry (happened.Settles number calls) = []
one_entry (happened.Raises base) = []

flushes_push : (hs : List Happened) (h : Happened) → flushes_in (map note_of (hs ++ h ∷ [])) ≡ flushes_in (map note_of hs) ++ one_flush h
flushes_push [] (happened.Commits entry) = refl
flushes_push [] (happened.Settles number calls) = refl
flushes_push [] (happened.Raises base) = refl
flushes_push (happened.Commits entry ∷ hs) h = flushes_push hs h
flushes_push (happened.Settles number calls ∷ hs) h = ap (λ l. record { number = number; calls = calls } ∷ l) (flushes_push hs h)
flushes_push (happened.Raises base ∷ hs) h = flushes_push hs h

pub entries_push : (hs : List Happened) (h : Happened) → entries_in (map note_of (hs ++ h ∷ [])) ≡ entries_in (map note_of hs) ++ one_entry h
entries_push [] (happened.Commits entry) = refl
entries_push [] (happened.Settles number calls) = refl
entries_push [] (happened.Raises base) = refl
entries_push (happened.Commits entry ∷ hs) h = ap (λ l. entry ∷ l) (entries_push hs h)
entries_push (happened.Settles number calls ∷ hs) h = entries_push hs h
entries_push (happened.Raises base ∷ hs) h = entries_push hs h

take_one : (hs : List Happened) (i : ℕ) (h : Happened) → i < length hs → h ≡ get_or hs i h → take (suc i) hs ≡ take i hs ++ h ∷ []
take_one [] i h lt e = absurd (omega arith)
take_one (g ∷ hs) zero h lt e = ap (λ z. z ∷ []) (sym e)
take_one (g ∷ hs) (suc i) h lt e = ap (λ l. g ∷ l) (take_one hs i h (omega arith) e)

pub flush_step : (hs : List Happened) (i : ℕ) (h : Happened) → i < length hs → h ≡ get_or hs i h → flushes_in (map note_of (take (i + 1) hs)) ≡ flushes_in (map note_of (take i hs)) ++ one_flush h
flush_step hs i h lt e =
    ap (λ n. flushes_in (map note_of (take n hs))) (let f : i + 1 ≡ suc i = omega arith in f)
    ∙ ap (λ l. flushes_in (map note_of l)) (take_one hs i h lt e)
    ∙ flushes_push (take i hs) h

append_none : {X : Type 0} (xs : List X) → xs ++ [] ≡ xs
append_none [] = refl
append_none (x ∷ xs) = ap (λ l. x ∷ l) (append_none xs)

pub no_flush : (fs : List Flush) (h : Happened) → ((number calls : ℕ) → h ≡ happened.Settles number calls → ⊥) → fs ≡ fs ++ one_flush h
no_flush fs (happened.Commits entry) none = sym (append_none fs)
no_flush fs (happened.Settles number calls) none = absurd (none number calls refl)
no_flush fs (happened.Raises base) none = sym (append_none fs)

pub no_entry : (fs : List Flush) (hs : List Happened) (h : Happened) → ((entry : Entry) → h ≡ happened.Commits entry → ⊥) → settled_with fs (entries_in (map note_of hs)) ≡ settled_with fs (entries_in (map note_of (hs ++ h ∷ [])))
no_entry fs hs h none = ap (settled_with fs) (by h none ∙ sym (entries_push hs h))
  where
    by : (h : Happened) → ((entry : Entry) → h ≡ happened.Commits entry → ⊥) → entries_in (map note_of hs) ≡ entries_in (map note_of hs) ++ one_entry h
    by (happened.Commits entry) none = absurd (none entry refl)
    by (happened.Settles number calls) none = sym (append_none (entries_in (map note_of hs)))
    by (happened.Raises base) none = sym (append_none (entries_in (map note_of hs)))

pub one_settled : (fs : List Flush) (hs : List Happened) (entry new : Entry) (calls : ℕ) → new ≡ settled_at calls entry → calls ≡ calls_by fs entry.number → settled_with fs (entries_in (map note_of hs)) ++ new ∷ [] ≡ settled_with fs (entries_in (map note_of (hs ++ happened.Commits entry ∷ [])))
one_settled fs hs entry new calls is same =
    ap (λ (z : Entry). settled_with fs (entries_in (map note_of hs)) ++ z ∷ []) (is ∙ ap (λ n. settled_at n entry) same)
    ∙ sym (ap (settled_with fs) (entries_push hs (happened.Commits entry)) ∙ map-append (λ (e : Entry). settled_at (calls_by fs e.number) e) (entries_in (map note_of hs)) (entry ∷ []))

calls_same : (notes : List Note) (number : ℕ) → calls_by (flushes_in notes) number ≡ calls_in notes number
calls_same [] number = refl
calls_same (Commits entry ∷ notes) number = calls_same notes number
calls_same (Settles reached calls ∷ notes) number = ap (λ r. cond (nat_le number reached) calls r) (calls_same notes number)
calls_same (Raises base ∷ notes) number = calls_same notes number

pub settled_history : (notes : List Note) → settled_with (flushes_in notes) (entries_in notes) ≡ history_in notes
settled_history notes = each (entries_in notes)
  where
    each : (entries : List Entry) → map (λ (e : Entry). settled_at (calls_by (flushes_in notes) e.number) e) entries ≡ map (λ (e : Entry). settled_at (calls_in notes e.number) e) entries
    each [] = refl
    each (e ∷ es) = ap (λ (z : Entry). z ∷ map (λ (e : Entry). settled_at (calls_by (flushes_in notes) e.number) e) es) (ap (λ n. settled_at n e) (calls_same notes e.number)) ∙ ap (λ l. settled_at (calls_in notes e.number) e ∷ l) (each es)
