-- How many blocks of a pool lie in buffers, over a take and a give, and that there is a free block where they are not all.
use Rattle.std.proofs.Common.{◌≡◌, ◌≢◌, ℕ, suc, ◌+◌, ◌-◌, ◌*◌, ◌^◌, ◌<◌, ◌≤◌, List, [], ◌∷◌, ◌++◌, length, length-set, take, get_or, set, zero, Option, Some, None, refl, sym, ◌∙◌, subst, ap, inl, inr, arith}
use Rattle.std.specs.Prelude.{sum_by}
use Rattle.std.proofs.lemmas.List.{take_all, take_more}
use Rattle.std.proofs.lemmas.List.Sums.{sum_by-cons, sum_by-set}
use Rattle.fx_pool.specs.Region.{Region, Run, IsSound, IsOut, RunBegins, HasFree, Covers, Begins}
use Rattle.fx_journal.specs.Ring.{run_blocks, blocks_out}

none_or : (o : Option ℕ) → ((j : ℕ) → o ≡ Some j → ⊥) → o ≡ None
none_or None f = refl
none_or (Some j) f = absurd (f j refl)

-- the sum over the first entries grows with their number, and one more entry adds what it has
sum_take_le : (table : List (Option ℕ)) (a b : ℕ) → a ≤ b → sum_by run_blocks (take a table) ≤ sum_by run_blocks (take b table)
sum_take_le [] zero zero h = omega arith
sum_take_le [] zero (suc b) h = omega arith
sum_take_le [] (suc a) zero h = omega arith
sum_take_le [] (suc a) (suc b) h = omega arith
sum_take_le (x ∷ xs) zero b h = omega arith
sum_take_le (x ∷ xs) (suc a) zero h = omega arith
sum_take_le (x ∷ xs) (suc a) (suc b) h = omega (arith, sum_take_le xs a b (omega arith), sum_by-cons run_blocks x (take a xs), sum_by-cons run_blocks x (take b xs))

sum_take_more : (table : List (Option ℕ)) (s k : ℕ) → RunBegins table s k → sum_by run_blocks (take (suc s) table) ≡ sum_by run_blocks (take s table) + 2 ^ k
sum_take_more [] s k h = cc
sum_take_more (x ∷ xs) zero k h = sum_by-cons run_blocks x [] ∙ omega (arith, ap run_blocks h)
sum_take_more (x ∷ xs) (suc s) k h = omega (arith, sum_take_more xs s k h, sum_by-cons run_blocks x (take (suc s) xs), sum_by-cons run_blocks x (take s xs))

-- where no run is free, the blocks below m lie in buffers that begin below m
covered_below : (p : Region) → IsSound p → (HasFree p 0 → ⊥) → (n m : ℕ) → m ≤ n → m ≤ 2 ^ p.order → m ≤ sum_by run_blocks (take m p.out)
covered_below p h none n zero le within = omega arith
covered_below p h none zero (suc m) le within = omega arith
covered_below p h none (suc n) (suc m) le within =
    let w : Covers (Begins p.free p.out) m = h.divided.tiling.covered m (omega arith) in
    elim w.begins [
      | inl free ↦ absurd (none (record { start = w.start; order = w.order; at_least = omega arith; free = free }))
      | inr out ↦ (let low : w.start ≤ m = w.low in
          let high : m < w.start + 2 ^ w.order = w.high in
          let before : w.start ≤ sum_by run_blocks (take w.start p.out) = covered_below p h none n w.start (omega arith) (omega arith) in
          omega (arith, before, high, sum_take_more p.out w.start w.order out, sum_take_le p.out (suc w.start) (suc m) (omega arith)))
    ]

-- so a block is free where the buffers do not take all blocks
pub free_left : (p : Region) → IsSound p → blocks_out p < 2 ^ p.order → (HasFree p 0 → ⊥) → ⊥
free_left p h few none =
    let all : take (2 ^ p.order) p.out ≡ p.out = take_all (2 ^ p.order) p.out (omega (arith, h.out_len)) in
    omega (arith, few, covered_below p h none (2 ^ p.order) (2 ^ p.order) (omega arith) (omega arith), ap (λ (t : List (Option ℕ)). sum_by run_blocks t) all)

-- a buffer of one block that is taken adds one
pub taken : (old new : Region) (b : Run) → IsSound new → IsOut new b → b.order ≡ 0 → ((run : Run) → IsOut old run → run.start ≢ b.start) → new.out ≡ set old.out b.start (Some 0) → blocks_out new ≡ blocks_out old + 1
taken old new b h out single apart e =
    let within : b.start + 2 ^ b.order ≤ 2 ^ new.order = h.divided.tiling.within b.start b.order (inr out) in
    let one : 2 ^ b.order ≡ 1 = ap (λ k. 2 ^ k) single in
    let len : length new.out ≡ length old.out = ap length e ∙ length-set old.out b.start (Some 0) in
    let was : get_or old.out b.start None ≡ None = none_or (get_or old.out b.start None) (λ j at. apart (record { start = b.start; order = j }) at refl) in
    omega (arith, ap (λ (t : List (Option ℕ)). sum_by run_blocks t) e, sum_by-set run_blocks old.out b.start (Some 0) None (omega (arith, h.out_len)), ap run_blocks was)

-- and one that is given takes one away
pub given : (old new : Region) (b : Run) → IsSound old → IsOut old b → b.order ≡ 0 → new.out ≡ set old.out b.start None → blocks_out new + 1 ≡ blocks_out old
given old new b h out single e =
    let within : b.start + 2 ^ b.order ≤ 2 ^ old.order = h.divided.tiling.within b.start b.order (inr out) in
    let one : 2 ^ b.order ≡ 1 = ap (λ k. 2 ^ k) single in
    omega (arith, ap (λ (t : List (Option ℕ)). sum_by run_blocks t) e, sum_by-set run_blocks old.out b.start None None (omega (arith, h.out_len)), ap run_blocks out)
