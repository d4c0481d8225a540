-- The entries that are read off notes, and the history that they make.
use Rattle.std.proofs.Common.{◌≡◌, ℕ, zero, suc, ◌+◌, ◌<◌, ◌≤◌, Bool, true, false, cond, List, [], ◌∷◌, ◌++◌, map, refl, sym, ap, subst, ◌∙◌, append_assoc, arith}
use Rattle.std.specs.Prelude.{Some, IsOk, nat_le, filter, fold, slice_get}
use Rattle.std.proofs.lemmas.List.{append-nil}
use Rattle.fx_plain.specs.Tree.{Tree}
use Rattle.fx_plain.specs.Table.{do_all}
use Rattle.fx_history.specs.declared.entry.Entry.{Entry}
use Rattle.fx_history.specs.History.{Legal, tree_after, tree_at}
use Rattle.fx_history.proofs.Histories.{legal_next, legal_none}
use Rattle.fx_events.specs.Notes.{AreNotes, FollowOn, IsNextNote, Mounted, Note, Commits, Raises, Settles, calls_in, entries_in, history_in, settled_at}
use Rattle.fx_events.proofs.Numbers.{in_order, rise}

pub entries_more : (former latter : List Note) → entries_in (former ++ latter) ≡ entries_in former ++ entries_in latter
entries_more [] latter = refl
entries_more (Commits entry ∷ former) latter = ap (λ h. entry ∷ h) (entries_more former latter)
entries_more (Settles number calls ∷ former) latter = entries_more former latter
entries_more (Raises base ∷ former) latter = entries_more former latter

-- one note more
pub follow_next : (mounted : Mounted) (former latter : List Note) (note : Note) → FollowOn mounted former latter → IsNextNote mounted (former ++ latter) note → FollowOn mounted former (latter ++ note ∷ [])
follow_next mounted former [] note f next = (subst (λ notes. IsNextNote mounted notes note) (append-nil former) next, tt)
follow_next mounted former (x ∷ latter) note f next =
    (f.0, follow_next mounted (former ++ x ∷ []) latter note f.1 (subst (λ notes. IsNextNote mounted notes note) (sym (append_assoc former (x ∷ []) latter)) next))

-- ---- the entries are legal

one_more : (mounted : Mounted) (former : List Note) (note : Note) → Legal mounted.tree mounted.kept (entries_in former) → IsNextNote mounted former note → Legal mounted.tree mounted.kept (entries_in (former ++ note ∷ []))
one_more mounted former (Commits entry) k next =
    subst (Legal mounted.tree mounted.kept) (sym (entries_more former (Commits entry ∷ [])))
    (legal_next mounted.tree mounted.kept (entries_in former) entry k next.number next.unsettled next.upkeep next.done)
one_more mounted former (Settles number calls) k next = subst (Legal mounted.tree mounted.kept) (sym (entries_more former (Settles number calls ∷ []) ∙ append-nil (entries_in former))) k
one_more mounted former (Raises base) k next = subst (Legal mounted.tree mounted.kept) (sym (entries_more former (Raises base ∷ []) ∙ append-nil (entries_in former))) k

legal_from : (mounted : Mounted) (former latter : List Note) → Legal mounted.tree mounted.kept (entries_in former) → FollowOn mounted former latter → Legal mounted.tree mounted.kept (entries_in (former ++ latter))
legal_from mounted former [] k f = subst (λ notes. Legal mounted.tree mounted.kept (entries_in notes)) (sym (append-nil former)) k
legal_from mounted former (note ∷ latter) k f =
    subst (λ notes. Legal mounted.tree mounted.kept (entries_in notes)) (append_assoc former (note ∷ []) latter)
    (legal_from mounted (former ++ note ∷ []) latter (one_more mounted former note k f.0) f.1)

pub legal_entries : (mounted : Mounted) (notes : List Note) → AreNotes mounted notes → Legal mounted.tree mounted.kept (entries_in notes)
legal_entries mounted notes f = legal_from mounted [] notes (legal_none mounted.tree mounted.kept) f

-- ---- entries that are settled by their numbers

pub map_get : {X Y : Type 0} (f : X → Y) (xs : List X) (i : ℕ) (x : X) → slice_get xs i ≡ Some x → slice_get (map f xs) i ≡ Some (f x)
map_get f [] i x got = absurd (cc got)
map_get f (y ∷ xs) zero x got = let same : y ≡ x = cc got in ap (λ z. Some (f z)) same
map_get f (y ∷ xs) (suc i) x got = map_get f xs i x got

pub map_got : {X Y : Type 0} (f : X → Y) (xs : List X) (i : ℕ) (y : Y) → slice_get (map f xs) i ≡ Some y → (x : X) × (slice_get xs i ≡ Some x) × (f x ≡ y)
map_got f [] i y got = absurd (cc got)
map_got f (x ∷ xs) zero y got = (x, refl, cc got)
map_got f (x ∷ xs) (suc i) y got = map_got f xs i y got

module _ (g : ℕ → ℕ) where
  abbrev put : Entry → Entry
  put entry = settled_at (g entry.number) entry

  after_put : (t : Tree) (h : List Entry) → fold tree_after t (map put h) ≡ fold tree_after t h
  after_put t [] = refl
  after_put t (e ∷ h) = after_put (tree_after t e) h

  filter_put : (h : List Entry) (n : ℕ) → filter (λ (e : Entry). nat_le e.number n) (map put h) ≡ map put (filter (λ (e : Entry). nat_le e.number n) h)
  filter_put [] n = refl
  filter_put (e ∷ h) n = by (nat_le e.number n) (filter_put h n)
    where
      p : Entry → Bool
      p = λ (x : Entry). nat_le x.number n

      by : (b : Bool) → filter p (map put h) ≡ map put (filter p h) → cond b (put e ∷ filter p (map put h)) (filter p (map put h)) ≡ map put (cond b (e ∷ filter p h) (filter p h))
      by true rest = ap (λ (xs : List Entry). put e ∷ xs) rest
      by false rest = rest

  pub tree_at_put : (t : Tree) (h : List Entry) (n : ℕ) → tree_at t (map put h) n ≡ tree_at t h n
  tree_at_put t h n = ap (fold tree_after t) (filter_put h n) ∙ after_put t (filter (λ (e : Entry). nat_le e.number n) h)

  pub legal_put : (t : Tree) (base : ℕ) (h : List Entry) → ((m n : ℕ) → m ≤ n → 0 < g n → (0 < g m) × (g m ≤ g n)) → Legal t base h → Legal t base (map put h)
  legal_put t base h ordered k = record {
    numbered = λ i e got. let old = map_got put h i e got in subst (λ (x : Entry). x.number ≡ base + i + 1) old.2 (k.numbered i old.0 old.1);
    done = λ i e got. let old = map_got put h i e got in
        subst (λ (x : Entry). IsOk (do_all (tree_at t (map put h) (base + i)) x.steps)) old.2
        (subst (λ (u : Tree). IsOk (do_all u old.0.steps)) (sym (tree_at_put t h (base + i))) (k.done i old.0 old.1));
    upkeep = λ i e got zero_who. let old = map_got put h i e got in
        ap (λ (x : Entry). x.steps) (sym old.2) ∙ k.upkeep i old.0 old.1 (ap (λ (x : Entry). x.who) old.2 ∙ zero_who);
    settles = λ i j x y before gotx goty later.
        let a = map_got put h i x gotx in let b = map_got put h j y goty in
        let lower : a.0.number ≤ b.0.number = omega (arith, before, k.numbered i a.0 a.1, k.numbered j b.0 b.1) in
        let both = ordered a.0.number b.0.number lower (subst (λ (z : Entry). 0 < z.settled) (sym b.2) later) in
        subst (λ (u : Entry). (0 < u.settled) × (u.settled ≤ y.settled)) a.2 (subst (λ (v : Entry). (0 < g a.0.number) × (g a.0.number ≤ v.settled)) b.2 both);
  }

pub legal_history : (mounted : Mounted) (notes : List Note) → AreNotes mounted notes → Legal mounted.tree mounted.kept (history_in notes)
legal_history mounted notes f = legal_put (calls_in notes) mounted.tree mounted.kept (entries_in notes) (in_order mounted.kept 0 notes (rise mounted [] notes f)) (legal_entries mounted notes f)

pub tree_history : (t : Tree) (notes : List Note) (n : ℕ) → tree_at t (history_in notes) n ≡ tree_at t (entries_in notes) n
tree_history t notes n = tree_at_put (calls_in notes) t (entries_in notes) n
