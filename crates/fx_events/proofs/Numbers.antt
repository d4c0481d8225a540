-- The calls after which commits were settled, as they rise with the numbers.
use Rattle.std.proofs.Common.{◌≡◌, ℕ, ◌<◌, ◌≤◌, Bool, true, false, cond, List, [], ◌∷◌, ◌++◌, refl, sym, subst, ◌∙◌, arith}
use Rattle.std.specs.Prelude.{nat_le}
use Rattle.std.proofs.lemmas.Bool.{le-leb, leb-true}
use Rattle.fx_events.specs.Notes.{FollowOn, Mounted, Note, Commits, Raises, Settles, calls_in, last_calls, settled_upto}

-- marks that settle further and further, by more and more calls, from these on
abbrev pub Rise : ℕ → ℕ → List Note → Type 0
Rise number calls [] = Unit {0}
Rise number calls (Commits entry ∷ notes) = Rise number calls notes
Rise number calls (Settles further later ∷ notes) = (number < further) × (calls ≤ later) × (0 < later) × Rise further later notes
Rise number calls (Raises base ∷ notes) = Rise number calls notes

settled_more : (kept : ℕ) (former : List Note) (note : Note) → settled_upto kept (former ++ note ∷ []) ≡ settled_upto (settled_upto kept former) (note ∷ [])
settled_more kept [] note = refl
settled_more kept (Commits entry ∷ former) note = settled_more kept former note
settled_more kept (Settles number calls ∷ former) note = settled_more number former note
settled_more kept (Raises base ∷ former) note = settled_more kept former note

last_more : (before : ℕ) (former : List Note) (note : Note) → last_calls before (former ++ note ∷ []) ≡ last_calls (last_calls before former) (note ∷ [])
last_more before [] note = refl
last_more before (Commits entry ∷ former) note = last_more before former note
last_more before (Settles number calls ∷ former) note = last_more calls former note
last_more before (Raises base ∷ former) note = last_more before former note

pub rise : (mounted : Mounted) (former latter : List Note) → FollowOn mounted former latter → Rise (settled_upto mounted.kept former) (last_calls 0 former) latter
rise mounted former [] f = tt
rise mounted former (Commits entry ∷ latter) f =
    subst (λ n. Rise n (last_calls 0 former) latter) (settled_more mounted.kept former (Commits entry))
    (subst (λ c. Rise (settled_upto mounted.kept (former ++ Commits entry ∷ [])) c latter) (last_more 0 former (Commits entry)) (rise mounted (former ++ Commits entry ∷ []) latter f.1))
rise mounted former (Settles number calls ∷ latter) f = (
  f.0.further,
  f.0.later,
  f.0.some,
  subst (λ n. Rise n calls latter) (settled_more mounted.kept former (Settles number calls))
      (subst (λ c. Rise (settled_upto mounted.kept (former ++ Settles number calls ∷ [])) c latter) (last_more 0 former (Settles number calls)) (rise mounted (former ++ Settles number calls ∷ []) latter f.1)),
)
rise mounted former (Raises base ∷ latter) f =
    subst (λ n. Rise n (last_calls 0 former) latter) (settled_more mounted.kept former (Raises base))
    (subst (λ c. Rise (settled_upto mounted.kept (former ++ Raises base ∷ [])) c latter) (last_more 0 former (Raises base)) (rise mounted (former ++ Raises base ∷ []) latter f.1))

-- what is settled later is settled by no fewer calls than there were
no_fewer : (number calls : ℕ) (notes : List Note) → Rise number calls notes → (m : ℕ) → 0 < calls_in notes m → calls ≤ calls_in notes m
no_fewer number calls [] r m some = absurd (omega arith)
no_fewer number calls (Commits entry ∷ notes) r m some = no_fewer number calls notes r m some
no_fewer number calls (Settles further later ∷ notes) r m some = by (nat_le m further) (λ s. omega (arith, r.1, no_fewer further later notes r.3 m s)) some
  where
    by : (b : Bool) → (0 < calls_in notes m → calls ≤ calls_in notes m) → 0 < cond b later (calls_in notes m) → calls ≤ cond b later (calls_in notes m)
    by true rest s = r.1
    by false rest s = rest s
no_fewer number calls (Raises base ∷ notes) r m some = no_fewer number calls notes r m some

-- where a number is settled, a lower one is settled by no more calls
pub in_order : (number calls : ℕ) (notes : List Note) → Rise number calls notes → (m n : ℕ) → m ≤ n → 0 < calls_in notes n → (0 < calls_in notes m) × (calls_in notes m ≤ calls_in notes n)
in_order number calls [] r m n le some = absurd (omega arith)
in_order number calls (Commits entry ∷ notes) r m n le some = in_order number calls notes r m n le some
in_order number calls (Settles further later ∷ notes) r m n le some = by (nat_le m further) refl (nat_le n further) refl (in_order further later notes r.3 m n le) some
  where
    by : (a : Bool) → nat_le m further ≡ a → (b : Bool) → nat_le n further ≡ b → (0 < calls_in notes n → (0 < calls_in notes m) × (calls_in notes m ≤ calls_in notes n)) → 0 < cond b later (calls_in notes n)
        → (0 < cond a later (calls_in notes m)) × (cond a later (calls_in notes m) ≤ cond b later (calls_in notes n))
    by true d true e rest s = (r.2, omega arith)
    by true d false e rest s = (r.2, no_fewer further later notes r.3 n s)
    by false d true e rest s = absurd (lower (sym d ∙ le-leb m further (omega (arith, leb-true n further e, le))))
      where
        lower : false ≡ true → ⊥
        lower f = cc
    by false d false e rest s = rest s
in_order number calls (Raises base ∷ notes) r m n le some = in_order number calls notes r m n le some
