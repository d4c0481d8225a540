-- There is always a greatest number that passes.
use Rattle.std.proofs.Common.{◌≡◌, ℕ, zero, suc, ◌+◌, ◌<◌, ◌≤◌, ◌&&◌, Bool, true, false, if◌then◌else◌, ◌==◌, List, [], ◌∷◌, length, refl, sym, ap, subst, ◌∙◌, arith, ◌⊎◌, inl, inr, Option, Some, None, IsSome, eq-eqb}
use Rattle.std.specs.Prelude.{nat_le, slice_get}
use Rattle.std.proofs.lemmas.Bool.{cases_lt, cases_Bool, and_parts, and_from, eqb-true, le-leb}
use Rattle.std.proofs.lemmas.Bool.Decides.{eqb_tells, leb_tells}
use Rattle.fx_verify.specs.Kept.{last_stated}
use Rattle.fx_uses.specs.Live.{Txn, AreNumbered, IsPut, put_in, put_over, live_after}
use Rattle.fx_kept.specs.Kept.{PassesAt, IsKeptUpTo}
use Rattle.fx_uses.proofs.LiveOverLists.{numbered_least, stated_over}

module _ (found : ℕ → Option ℕ) (first : ℕ → Option ℕ) (whole : List Txn) (k : ℕ) where
  -- whether a stated sum is the one that is found
  abbrev fits : Option ℕ → Option ℕ → Bool
  fits None here = true
  fits (Some x) None = false
  fits (Some x) (Some y) = y == x

  abbrev block_fits : ℕ → Bool
  block_fits b = fits (live_after first whole k b) (found b)

  abbrev puts_fit : List (ℕ × ℕ) → Bool
  puts_fit [] = true
  puts_fit (p ∷ ps) = block_fits p.0 && puts_fit ps

  abbrev txn_fits : Txn → Bool
  txn_fits t = if nat_le t.number k then puts_fit t.puts else true

  abbrev all_fit : List Txn → Bool
  all_fit [] = true
  all_fit (t ∷ ts) = txn_fits t && all_fit ts

  Fits : ℕ → Type 0
  Fits b = (x : ℕ) → live_after first whole k b ≡ Some x → found b ≡ Some x

  fits_tells : (o here : Option ℕ) → fits o here ≡ true → (x : ℕ) → o ≡ Some x → here ≡ Some x
  fits_tells None here e x q = absurd (cc)
  fits_tells (Some y) None e x q = let z : false ≡ true = e in absurd (cc)
  fits_tells (Some y) (Some n) e x q = let z : y ≡ x = cc in ap Some (eqb-true n y e ∙ z)

  fits_from : (o here : Option ℕ) → ((x : ℕ) → o ≡ Some x → here ≡ Some x) → fits o here ≡ true
  fits_from None here h = refl
  fits_from (Some y) None h = let z : None ≡ Some y = h y refl in absurd (cc)
  fits_from (Some y) (Some n) h =
      let z : Some n ≡ Some y = h y refl in
      let q : n ≡ y = cc in
      eq-eqb n y q

  -- ---- the puts of one transaction

  some_at_last : (newest : Option ℕ) (x : ℕ) → IsSome (put_over newest (Some x))
  some_at_last None x = refl
  some_at_last (Some y) x = refl

  some_already : (newest old : Option ℕ) → IsSome newest → IsSome (put_over newest old)
  some_already None old h = absurd (cc)
  some_already (Some x) old h = refl

  put_head : (b : ℕ) (p : ℕ × ℕ) (ps : List (ℕ × ℕ)) → p.0 ≡ b → IsSome (put_in b (p ∷ ps))
  put_head b p ps e =
      subst IsSome (sym (stated_over b ps (if p.0 == b then Some p.1 else None)))
      (subst (λ (t : Bool). IsSome (put_over (put_in b ps) (if t then Some p.1 else None))) (sym (eq-eqb p.0 b e)) (some_at_last (put_in b ps) p.1))

  put_tail : (b : ℕ) (p : ℕ × ℕ) (ps : List (ℕ × ℕ)) → IsSome (put_in b ps) → IsSome (put_in b (p ∷ ps))
  put_tail b p ps h =
      subst IsSome (sym (stated_over b ps (if p.0 == b then Some p.1 else None)))
      (some_already (put_in b ps) (if p.0 == b then Some p.1 else None) h)

  puts_tell : (ps : List (ℕ × ℕ)) (b : ℕ) → puts_fit ps ≡ true → IsSome (put_in b ps) → Fits b
  unfolding Fits
  puts_tell [] b e h = absurd (cc)
  puts_tell (p ∷ ps) b e h = elim (eqb_tells p.0 b) [
    | inl same ↦ subst Fits same.1 (fits_tells (live_after first whole k p.0) (found p.0) (and_parts (block_fits p.0) (puts_fit ps) e).0)
    | inr other ↦ puts_tell ps b (and_parts (block_fits p.0) (puts_fit ps) e).1 (subst (λ (t : Bool). IsSome (last_stated b ps (if t then Some p.1 else None))) other.0 h)
  ]

  puts_from : (ps : List (ℕ × ℕ)) → ((b : ℕ) → IsSome (put_in b ps) → Fits b) → puts_fit ps ≡ true
  unfolding Fits
  puts_from [] h = refl
  puts_from (p ∷ ps) h = and_from (block_fits p.0) (puts_fit ps)
      (fits_from (live_after first whole k p.0) (found p.0) (h p.0 (put_head p.0 p ps refl)))
      (puts_from ps (λ b some. h b (put_tail b p ps some)))

  -- ---- all transactions

  all_tell : (ts : List Txn) (i : ℕ) (t : Txn) → all_fit ts ≡ true → slice_get ts i ≡ Some t → t.number ≤ k → puts_fit t.puts ≡ true
  all_tell [] i t e got le = absurd (cc)
  all_tell (u ∷ ts) zero t e got le =
      let same : u ≡ t = cc in
      let one : txn_fits t ≡ true = subst (λ (v : Txn). txn_fits v ≡ true) same (and_parts (txn_fits u) (all_fit ts) e).0 in
      sym (ap (λ (b : Bool). if b then puts_fit t.puts else true) (le-leb t.number k le)) ∙ one
  all_tell (u ∷ ts) (suc i) t e got le = all_tell ts i t (and_parts (txn_fits u) (all_fit ts) e).1 got le

  all_from : (ts : List Txn) → ((i : ℕ) (t : Txn) → slice_get ts i ≡ Some t → t.number ≤ k → puts_fit t.puts ≡ true) → all_fit ts ≡ true
  all_from [] h = refl
  all_from (u ∷ ts) h = and_from (txn_fits u) (all_fit ts)
      (elim (leb_tells u.number k) [
        | inl up ↦ ap (λ (b : Bool). if b then puts_fit u.puts else true) up.0 ∙ h 0 u refl up.1
        | inr beyond ↦ ap (λ (b : Bool). if b then puts_fit u.puts else true) beyond.0
      ])
      (all_from ts (λ i t got le. h (suc i) t got le))

  -- ---- the test is exact

  pub fit_passes : all_fit whole ≡ true → PassesAt found first whole k
  unfolding Fits
  fit_passes e b x live_here tested =
      let p : IsPut whole tested.number b = tested.put in
      puts_tell p.txn.puts b (all_tell whole p.at p.txn e p.got (omega (arith, p.number, tested.most))) p.written x live_here

  passes_fit : PassesAt found first whole k → all_fit whole ≡ true
  unfolding Fits
  passes_fit h = all_from whole (λ i t got le. puts_from t.puts (λ b some x live_here. h b x live_here (record { number = t.number; most = le; put = record { at = i; txn = t; got = got; number = refl; written = some } })))

  pub passes_decided : PassesAt found first whole k ⊎ (PassesAt found first whole k → ⊥)
  passes_decided = elim (cases_Bool (all_fit whole)) [
    | inl fit ↦ inl (fit_passes fit)
    | inr not_fit ↦ inr (λ h. let e : true ≡ false = sym (passes_fit h) ∙ not_fit in cc)
  ]

module _ (found : ℕ → Option ℕ) (base : ℕ) (first : ℕ → Option ℕ) (stream : List Txn) (numbered : AreNumbered base stream) where
  -- nothing is tested at the base count
  pub passes_base : PassesAt found first stream base
  passes_base b x live_here tested =
      let p : IsPut stream tested.number b = tested.put in
      let lt : base < p.txn.number = numbered_least base stream numbered p.at p.txn p.got in
      absurd (omega (arith, lt, p.number, tested.most))

  down : (n : ℕ) → n ≤ length stream → ((j : ℕ) → base + n < j → j ≤ base + length stream → PassesAt found first stream j → ⊥) → (k : ℕ) × IsKeptUpTo found base first stream k
  down zero le above = (
    base,
    record {
      least = omega arith;
      most = omega arith;
      passes = passes_base;
      greatest = λ j lt within. above j (omega (arith, lt)) within;
    },
  )
  down (suc n) le above = elim (passes_decided found first stream (base + suc n)) [
    | inl here ↦ (base + suc n, record { least = omega arith; most = omega (arith, le); passes = here; greatest = above })
    | inr not_here ↦ down n (omega (arith, le)) (λ j lt within. elim (eqb_tells j (base + suc n)) [
      | inl same ↦ subst (λ (m : ℕ). PassesAt found first stream m → ⊥) (sym same.1) not_here
      | inr other ↦ above j (omega (arith, other.1, lt)) within
    ])
  ]

  pub kept_exists : (k : ℕ) × IsKeptUpTo found base first stream k
  kept_exists = down (length stream) (omega arith) (λ j lt within passes. omega (arith, lt, within))

-- and one only
pub kept_one : (found : ℕ → Option ℕ) (base : ℕ) (first : ℕ → Option ℕ) (stream : List Txn) (j k : ℕ) → IsKeptUpTo found base first stream j → IsKeptUpTo found base first stream k → j ≡ k
kept_one found base first stream j k a b = elim (cases_lt j k) [
  | inl lt ↦ absurd (a.greatest k lt b.most b.passes)
  | inr le ↦ elim (cases_lt k j) [
    | inl lt ↦ absurd (b.greatest j lt a.most a.passes)
    | inr ge ↦ omega (arith, le, ge)
  ]
]
