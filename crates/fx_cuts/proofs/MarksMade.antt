-- One more mark.
use Rattle.std.proofs.Common.{◌≡◌, ℕ, zero, suc, length, ◌+◌, ◌-◌, ◌<◌, ◌≤◌, List, [], ◌∷◌, ◌++◌, refl, sym, ap, arith, length-append, inl, inr, Some}
use Rattle.std.specs.Prelude.{slice_get}
use Rattle.std.proofs.lemmas.Option.{slice_get_within}
use Rattle.fx_uses.proofs.LiveOverLists.{got_more, got_split}
use Rattle.fx_cuts.specs.Images.{Mark}
use Rattle.fx_cuts.specs.KeepsJoined.{AreMarks}

pub marks_later : (kept from settled calls more : ℕ) (marks : List Mark) → calls ≤ more → AreMarks kept from settled calls marks → AreMarks kept from settled more marks
marks_later kept from settled calls more marks le h = record {
  first = h.first;
  rise = h.rise;
  latest = h.latest;
  settled_by = h.settled_by;
  by_now = λ i mark got. let m : mark.calls ≤ calls = h.by_now i mark got in omega (arith, m, le);
}

pub first_mark : (kept from calls : ℕ) → from ≤ calls → AreMarks kept from kept calls (record { number = kept; calls = from } ∷ [])
first_mark kept from calls le = record {
  first = refl;
  rise = λ i a b e q. absurd (omega (arith, slice_get_within marks (i + 1) b q));
  latest = λ i mark e is. let s = got_split [] (record { number = kept; calls = from }) i mark e in elim s [
    | inl early ↦ absurd (omega (arith, slice_get_within (let none : List Mark = [] in none) i mark early))
    | inr new ↦ ap (λ (y : Mark). y.number) (sym new.1)
  ];
  settled_by = λ i mark e. elim (got_split [] (record { number = kept; calls = from }) i mark e) [
    | inl early ↦ absurd (omega (arith, slice_get_within (let none : List Mark = [] in none) i mark early))
    | inr new ↦ let q : kept ≡ mark.number = ap (λ (y : Mark). y.number) new.1 in omega (arith, q)
  ];
  by_now = λ i mark e. elim (got_split [] (record { number = kept; calls = from }) i mark e) [
    | inl early ↦ absurd (omega (arith, slice_get_within (let none : List Mark = [] in none) i mark early))
    | inr new ↦ let q : from ≡ mark.calls = ap (λ (y : Mark). y.calls) new.1 in omega (arith, q, le)
  ];
}
  where
    marks : List Mark
    marks = record { number = kept; calls = from } ∷ []

module _ (kept from settled calls n : ℕ) (marks : List Mark) (h : AreMarks kept from settled calls marks) (up : settled ≤ n) where
  abbrev pub made : Mark
  made = record { number = n; calls = calls + 1 }

  rises : (i : ℕ) (a b : Mark) → slice_get (marks ++ made ∷ []) i ≡ Some a → slice_get (marks ++ made ∷ []) (i + 1) ≡ Some b → (a.number ≤ b.number) × (a.calls < b.calls)
  rises i a b e q = elim (got_split marks made (i + 1) b q) [
    | inl old ↦ elim (got_split marks made i a e) [
      | inl here ↦ h.rise i a b here old
      | inr past ↦ absurd (omega (arith, past.0, slice_get_within marks (i + 1) b old))
    ]
    | inr is ↦ elim (got_split marks made i a e) [
      | inl here ↦
          let number : n ≡ b.number = ap (λ (y : Mark). y.number) is.1 in
          let call : calls + 1 ≡ b.calls = ap (λ (y : Mark). y.calls) is.1 in
          let most : a.number ≤ settled = h.settled_by i a here in
          let now : a.calls ≤ calls = h.by_now i a here in
          (omega (arith, number, most, up), omega (arith, call, now))
      | inr past ↦ absurd (omega (arith, past.0, is.0))
    ]
  ]

  pub marks_more : AreMarks kept from n (calls + 1) (marks ++ made ∷ [])
  marks_more = record {
    first = got_more marks (made ∷ []) 0 (record { number = kept; calls = from }) h.first;
    rise = rises;
    latest = λ i mark e is. elim (got_split marks made i mark e) [
      | inl old ↦ absurd (omega (arith, slice_get_within marks i mark old, is, length-append marks (made ∷ [])))
      | inr new ↦ sym (ap (λ (y : Mark). y.number) new.1)
    ];
    settled_by = λ i mark e. elim (got_split marks made i mark e) [
      | inl old ↦ let m : mark.number ≤ settled = h.settled_by i mark old in omega (arith, m, up)
      | inr new ↦ let q : n ≡ mark.number = ap (λ (y : Mark). y.number) new.1 in omega (arith, q)
    ];
    by_now = λ i mark e. elim (got_split marks made i mark e) [
      | inl old ↦ let m : mark.calls ≤ calls = h.by_now i mark old in omega (arith, m)
      | inr new ↦ let q : calls + 1 ≡ mark.calls = ap (λ (y : Mark). y.calls) new.1 in omega (arith, q)
    ];
  }

  -- a mark that was made before it stood there already
  pub marks_old : (i : ℕ) (mark : Mark) → slice_get (marks ++ made ∷ []) i ≡ Some mark → mark.calls ≤ calls → slice_get marks i ≡ Some mark
  marks_old i mark e le = elim (got_split marks made i mark e) [
    | inl old ↦ old
    | inr new ↦ let q : calls + 1 ≡ mark.calls = ap (λ (y : Mark). y.calls) new.1 in absurd (omega (arith, q, le))
  ]

got_within : (marks : List Mark) (i : ℕ) → i < length marks → (mark : Mark) × (slice_get marks i ≡ Some mark)
got_within [] i lt = absurd (omega (arith, lt))
got_within (x ∷ xs) zero lt = (x, refl)
got_within (x ∷ xs) (suc i) lt = got_within xs i (omega (arith, lt))

-- what no mark by the moment passes, the settled number does not
pub by_latest : (kept from settled calls m reached : ℕ) (marks : List Mark) → AreMarks kept from settled calls marks → calls ≤ m → ((i : ℕ) (mark : Mark) → slice_get marks i ≡ Some mark → mark.calls ≤ m → mark.number ≤ reached) → settled ≤ reached
by_latest kept from settled calls m reached marks h le all =
    let some : 0 < length marks = slice_get_within marks 0 (record { number = kept; calls = from }) h.first in
    let one = got_within marks (length marks - 1) (omega (arith, some)) in
    let number : one.0.number ≡ settled = h.latest (length marks - 1) one.0 one.1 (omega (arith, some)) in
    let now : one.0.calls ≤ calls = h.by_now (length marks - 1) one.0 one.1 in
    let up : one.0.number ≤ reached = all (length marks - 1) one.0 one.1 (omega (arith, now, le)) in
    omega (arith, number, up)
