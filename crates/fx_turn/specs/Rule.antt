-- The rule of a turn's table, which each step keeps, and what the steps on the word tell.
use Rattle.std.specs.Prelude.{◌≡◌, ◌≢◌, ℕ, ◌<◌, Bool, true, List, [], ◌∷◌, length, slice_index, count_by, Option, Some, None}
use Rattle.std.specs.List.{sum_by}
use Rattle.std.specs.FinMap.{get}
use mathlib.Core.Option.{some}
use mathlib.Core.List.{IsPrefix}
use lib.ListN.{get_elem?}
use Rattle.atomic_table.specs.Table.{State, Me, Step}
use Rattle.fx_turn.specs.declared.view.View.{View}
use Rattle.fx_turn.specs.Parts.{Parts, IsWithin, AreApart}
use Rattle.fx_turn.specs.Views.{holding, given}

module _ {N P : Type 0} where
  -- What holds of the view v of the seat k, where the longest list seen is all, the parts are whole, and a number's part is its owner's:
  -- it has seen a beginning of the log; while it holds the turn, no other seat does, and the value was taken with that log and those parts; it has nothing without a share;
  -- each part that it has is in the whole, and it is the owner; and of the two passes that it was joined of, both had seen a beginning of what it has seen, and no number had a part in both
  pub record Knows (all : List N) (whole : Parts P) (owner : ℕ → ℕ) (word holder k : ℕ)
      (v : View N P) : Type 0 where
    pub seen : IsPrefix v.seen all
    pub busy : v.holds ≡ true → (k ≡ holder) × (word ≡ 1) × (v.taken_log ≡ all)
        × (v.taken_parts ≡ whole) × (0 < v.shares)
    pub idle : v.shares ≡ 0 → (v.own ≡ 0) × ((q : ℕ) → get v.mine q ≡ None)
    pub mine : (q : ℕ) (p : P) → get v.mine q ≡ Some p → (get whole q ≡ Some p) × (owner q ≡ k)
    pub begun : IsPrefix v.shorter v.seen
    pub apart : AreApart v.first v.second

  -- What the passes know and have together, of a value with this log and these parts, of which n shares were given out
  pub record AddsUp (counts : N → Bool) (all : List N) (whole : Parts P) (n : ℕ)
      (views : List (View N P)) : Type 0 where
    pub seen : (k : ℕ) (v : View N P) → get_elem? views k ≡ some v → IsPrefix v.seen all
    pub longest : (k : ℕ) × (v : View N P) × (get_elem? views k ≡ some v) × (v.seen ≡ all)
    pub owns : sum_by (λ v. v.own) views ≡ count_by counts all
    pub shares : sum_by (λ v. v.shares) views ≡ n
    pub apart : (j k : ℕ) (v w : View N P) → get_elem? views j ≡ some v → get_elem? views k ≡ some w
        → j ≢ k → AreApart v.mine w.mine
    pub within : (k : ℕ) (v : View N P) → get_elem? views k ≡ some v → IsWithin v.mine whole
    pub covered : (q : ℕ) (p : P) → get whole q ≡ Some p
        → (k : ℕ) × (v : View N P) × (get_elem? views k ≡ some v) × (get v.mine q ≡ Some p)

module _ {T N P : Type 0} (log : T → List N) (counts : N → Bool) (parts : T → Parts P) where
  -- While the word is 0 the value is at home, and its log is the longest list seen. While it is not, one seat holds the turn.
  -- At each moment the longest list seen, the counted notes, the shares and the parts are those of all views together
  pub record Ruled (n : ℕ) (s : State (Option T) (View N P)) : Type 0 where
    pub all : List N
    pub whole : Parts P
    pub owner : ℕ → ℕ
    pub holder : ℕ
    pub top : ℕ
    pub one_word : length s.words ≡ 1
    pub home : slice_index s.words 0 ≡ 0
        → (x : T) × (get_elem? s.homes 0 ≡ some (some (Some x))) × (log x ≡ all) × (parts x ≡ whole)
    pub held : slice_index s.words 0 ≢ 0
        → (v : View N P) × (get_elem? s.views holder ≡ some v) × (v.holds ≡ true)
    pub each : (k : ℕ) (v : View N P) → get_elem? s.views k ≡ some v
        → Knows all whole owner (slice_index s.words 0) holder k v
    pub last : (v : View N P) × (get_elem? s.views top ≡ some v) × (v.seen ≡ all) × (0 < v.shares)
    pub owns : sum_by (λ v. v.own) s.views ≡ count_by counts all
    pub sum : sum_by (λ v. v.shares) s.views ≡ n
    pub covered : (q : ℕ) (p : P) → get whole q ≡ Some p
        → (v : View N P) × (get_elem? s.views (owner q) ≡ some v) × (get v.mine q ≡ Some p)

  -- the value x, which the seat had, is at home again
  abbrev pub Frees : Step (Option T) → Me (Option T) (View N P) → ℕ
      → Me (Option T) (View N P) → Type 0
  Frees st m stored after = (x : T) → m.1 ≡ (0, Some x) ∷ []
      → after ≡ (given counts m.0 (log x) (parts x), [])

module _ {T N P : Type 0} where
  -- a try to take: at 0 the seat has the value, which knows all that the pass has seen and has its parts; else nothing has changed
  abbrev pub Takes : (T → List N) → (T → Parts P) → Step (Option T) → Me (Option T) (View N P) → ℕ
      → Me (Option T) (View N P) → Type 0
  Takes log parts st m found after =
      (found ≡ 0 → (x : T) × (after ≡ (holding m.0 (log x) (parts x), (0, Some x) ∷ m.1))
      × IsPrefix m.0.seen (log x) × IsWithin m.0.mine (parts x)) × (found ≢ 0 → after ≡ m)

  -- nothing has changed, and what the two passes had of which this one was joined agrees
  abbrev pub Agrees : Step (Option T) → Me (Option T) (View N P) → ℕ
      → Me (Option T) (View N P) → Type 0
  Agrees st m found after = (after ≡ m) × IsPrefix m.0.shorter m.0.seen
      × AreApart m.0.first m.0.second
