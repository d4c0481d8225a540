-- What a list of transactions leaves in a block, with one more, and cut in pieces.
use Rattle.std.proofs.Common.{◌≡◌, ℕ, zero, suc, ◌+◌, ◌<◌, ◌≤◌, Bool, true, false, if◌then◌else◌, ◌==◌, List, [], ◌∷◌, ◌++◌, refl, sym, ap, subst, ◌∙◌, length, arith, ◌⊎◌, inl, inr, Option, Some, None, IsSome}
use Rattle.std.specs.Prelude.{nat_le, slice_get}
use Rattle.std.proofs.lemmas.Option.{slice_get_within}
use Rattle.std.proofs.lemmas.Bool.{lt-leb, le-leb}
use Rattle.fx_verify.specs.Kept.{last_stated}
use Rattle.fx_uses.specs.Live.{Txn, AreNumbered, IsPut, put_in, put_over, after_txn, live_from, live_after}

pub got_more : {X : Type 0} (xs ys : List X) (i : ℕ) (x : X) → slice_get xs i ≡ Some x → slice_get (xs ++ ys) i ≡ Some x
got_more [] ys i x e = cc
got_more (y ∷ xs) ys zero x e = e
got_more (y ∷ xs) ys (suc i) x e = got_more xs ys i x e

pub got_after : {X : Type 0} (xs ys : List X) (i : ℕ) (x : X) → slice_get ys i ≡ Some x → slice_get (xs ++ ys) (length xs + i) ≡ Some x
got_after [] ys i x e = let z : i ≡ 0 + i = omega arith in subst (λ (j : ℕ). slice_get ys j ≡ Some x) z e
got_after (y ∷ xs) ys i x e = let z : suc (length xs + i) ≡ suc (length xs) + i = omega arith in subst (λ (j : ℕ). slice_get (y ∷ xs ++ ys) j ≡ Some x) z (got_after xs ys i x e)

pub got_last : {X : Type 0} (xs : List X) (x : X) → slice_get (xs ++ x ∷ []) (length xs) ≡ Some x
got_last [] x = refl
got_last (y ∷ xs) x = got_last xs x

pub got_split : {X : Type 0} (xs : List X) (last : X) (i : ℕ) (x : X) → slice_get (xs ++ last ∷ []) i ≡ Some x → (slice_get xs i ≡ Some x) ⊎ ((i ≡ length xs) × (last ≡ x))
got_split [] last zero x e = inr (refl, cc)
got_split [] last (suc i) x e = cc
got_split (y ∷ xs) last zero x e = inl e
got_split (y ∷ xs) last (suc i) x e = elim (got_split xs last i x e) [ inl a ↦ inl a | inr a ↦ inr (ap suc a.0, a.1) ]

-- what holds of each element
abbrev pub Each : {X : Type 0} → (X → Type 0) → List X → Type 0
Each P xs = (i : ℕ) (x : _) → slice_get xs i ≡ Some x → P x

pub live_append : (b k : ℕ) (xs ys : List Txn) (old : Option ℕ) → live_from b k (xs ++ ys) old ≡ live_from b k ys (live_from b k xs old)
live_append b k [] ys old = refl
live_append b k (x ∷ xs) ys old = live_append b k xs ys (if nat_le x.number k then after_txn b x old else old)

-- transactions beyond the number change nothing
pub live_beyond : (b k : ℕ) (ts : List Txn) (old : Option ℕ) → Each (λ t. k < t.number) ts → live_from b k ts old ≡ old
live_beyond b k [] old h = refl
live_beyond b k (t ∷ ts) old h =
    ap (λ (x : Bool). live_from b k ts (if x then after_txn b t old else old)) (lt-leb t.number k (h 0 t refl))
    ∙ live_beyond b k ts old (λ i x e. h (suc i) x e)

-- two numbers that reach all of them give the same
pub live_reached : (b j k : ℕ) (ts : List Txn) (old : Option ℕ) → Each (λ t. (t.number ≤ j) × (t.number ≤ k)) ts → live_from b j ts old ≡ live_from b k ts old
live_reached b j k [] old h = refl
live_reached b j k (t ∷ ts) old h =
    let at : (t.number ≤ j) × (t.number ≤ k) = h 0 t refl in
    ap (λ (x : Bool). live_from b j ts (if x then after_txn b t old else old)) (le-leb t.number j at.0 ∙ sym (le-leb t.number k at.1))
    ∙ live_reached b j k ts (if nat_le t.number k then after_txn b t old else old) (λ i x e. h (suc i) x e)

-- one more transaction, beyond the number or not
pub live_before : (first : ℕ → Option ℕ) (ts : List Txn) (t : Txn) (k b : ℕ) → k < t.number → live_after first (ts ++ t ∷ []) k b ≡ live_after first ts k b
live_before first ts t k b lt = live_append b k ts (t ∷ []) (first b)
    ∙ ap (λ (x : Bool). if x then after_txn b t (live_after first ts k b) else live_after first ts k b) (lt-leb t.number k lt)

pub live_with : (first : ℕ → Option ℕ) (ts : List Txn) (t : Txn) (k b : ℕ) → t.number ≤ k → live_after first (ts ++ t ∷ []) k b ≡ after_txn b t (live_after first ts k b)
live_with first ts t k b le = live_append b k ts (t ∷ []) (first b)
    ∙ ap (λ (x : Bool). if x then after_txn b t (live_after first ts k b) else live_after first ts k b) (le-leb t.number k le)

-- ---- numbers

pub numbered_most : (base : ℕ) (ts : List Txn) → AreNumbered base ts → Each (λ t. t.number ≤ base + length ts) ts
numbered_most base ts h i t got = let lt : i < length ts = slice_get_within ts i t got in omega (arith, h.each i t got, lt)

pub numbered_least : (base : ℕ) (ts : List Txn) → AreNumbered base ts → Each (λ t. base < t.number) ts
numbered_least base ts h i t got = omega (arith, h.each i t got)

pub numbered_more : (base : ℕ) (ts : List Txn) (t : Txn) → t.number ≡ base + length ts + 1 → AreNumbered base ts → AreNumbered base (ts ++ t ∷ [])
numbered_more base ts t e h = record {
  each = λ i x got. elim (got_split ts t i x got) [
    | inl old ↦ h.each i x old
    | inr new ↦ let n : t.number ≡ x.number = ap (λ (y : Txn). y.number) new.1 in omega (arith, n, new.0, e)
  ];
}

pub numbered_front : (base : ℕ) (xs ys : List Txn) → AreNumbered base (xs ++ ys) → AreNumbered base xs
numbered_front base xs ys h = record { each = λ i t got. h.each i t (got_more xs ys i t got) }

pub numbered_rest : (base : ℕ) (xs ys : List Txn) → AreNumbered base (xs ++ ys) → AreNumbered (base + length xs) ys
numbered_rest base xs ys h = record { each = λ i t got. let e : t.number ≡ base + (length xs + i) + 1 = h.each (length xs + i) t (got_after xs ys i t got) in omega (arith, e) }

-- ---- puts

pub put_more : (xs ys : List Txn) (n b : ℕ) → IsPut xs n b → IsPut (xs ++ ys) n b
put_more xs ys n b p = record { at = p.at; txn = p.txn; got = got_more xs ys p.at p.txn p.got; number = p.number; written = p.written }

pub put_after : (xs ys : List Txn) (n b : ℕ) → IsPut ys n b → IsPut (xs ++ ys) n b
put_after xs ys n b p = record { at = length xs + p.at; txn = p.txn; got = got_after xs ys p.at p.txn p.got; number = p.number; written = p.written }

pub put_split : (ts : List Txn) (t : Txn) (n b : ℕ) → IsPut (ts ++ t ∷ []) n b → IsPut ts n b ⊎ ((n ≡ t.number) × IsSome (put_in b t.puts))
put_split ts t n b p = elim (got_split ts t p.at p.txn p.got) [
  | inl old ↦ inl (record { at = p.at; txn = p.txn; got = old; number = p.number; written = p.written })
  | inr new ↦ inr (sym p.number ∙ sym (ap (λ (u : Txn). u.number) new.1), subst (λ (u : Txn). IsSome (put_in b u.puts)) (sym new.1) p.written)
]

-- ---- what a list of puts states, over what stood before

over_twice : (newest : Option ℕ) (t : Bool) (x : ℕ) (old : Option ℕ) → put_over newest (if t then Some x else old) ≡ put_over (put_over newest (if t then Some x else None)) old
over_twice None true x old = refl
over_twice None false x old = refl
over_twice (Some y) t x old = refl

pub stated_over : (b : ℕ) (ps : List (ℕ × ℕ)) (old : Option ℕ) → last_stated b ps old ≡ put_over (put_in b ps) old
stated_over b [] old = refl
stated_over b (p ∷ ps) old =
    stated_over b ps (if p.0 == b then Some p.1 else old)
    ∙ over_twice (put_in b ps) (p.0 == b) p.1 old
    ∙ ap (λ (o : Option ℕ). put_over o old) (sym (stated_over b ps (if p.0 == b then Some p.1 else None)))
