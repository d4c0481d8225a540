-- A worked row: a file is created, written, removed and trimmed, and nothing is settled. Where its data block is
-- torn, the numbers 3 and 4 do not pass, and 5 does, since the block is not live after it.
use Rattle.std.proofs.Common.{◌≡◌, ℕ, false, ◌==◌, List, [], ◌∷◌, refl, arith, Option, Some, None}
use Rattle.fx_uses.specs.Live.{Txn, live_after}
use Rattle.fx_kept.specs.Kept.{PassesAt, IsKeptUpTo, none_live}
use Rattle.fx_kept.proofs.KeptExists.{fit_passes}

abbrev pub row : List Txn
row = record { number = 1; puts = []; frees = λ b. false }
    ∷ record { number = 2; puts = []; frees = λ b. false }
    ∷ record { number = 3; puts = (100, 7) ∷ []; frees = λ b. false }
    ∷ record { number = 4; puts = []; frees = λ b. false }
    ∷ record { number = 5; puts = []; frees = λ b. 100 == b }
    ∷ []

-- every block is found with another sum
abbrev pub torn : ℕ → Option ℕ
torn b = Some 0

live_at_3 : live_after none_live row 3 100 ≡ Some 7
live_at_3 = refl

live_at_5 : live_after none_live row 5 100 ≡ None
live_at_5 = refl

pub fails_at_3 : PassesAt torn none_live row 3 → ⊥
fails_at_3 passes =
    let e : ◌≡◌ {A = Option ℕ} (Some 0) (Some 7) = passes 100 7 refl (record { number = 3; most = omega arith; put = record { at = 2; txn = record { number = 3; puts = (100, 7) ∷ []; frees = λ b. false }; got = refl; number = refl; written = refl } }) in
    let q : ◌≡◌ {A = ℕ} 0 7 = cc in
    omega (arith, q)

pub kept_at_5 : IsKeptUpTo torn 0 none_live row 5
kept_at_5 = record {
  least = omega arith;
  most = omega arith;
  passes = fit_passes torn none_live row 5 refl;
  greatest = λ j lt le passes. omega (arith, lt, le);
}
