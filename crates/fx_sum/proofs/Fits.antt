-- A checksum fits a `u64`: both of its sums fit four bytes.
use Rattle.std.proofs.Common.{◌≡◌, ℕ, ◌+◌, ◌%◌, ◌^◌, ◌<◌, List, [], ◌∷◌, arith}
use Rattle.std.specs.Prelude.{fold}
use Rattle.std.proofs.Math.Nat.{mod-lt}
use Rattle.fx_sum.specs.Checksum.{Sums, add_word, sums_of, words, fletch}

-- Both sums fit four bytes.
record Halves (s : Sums) : Type 0 where
  low : s.low < 2 ^ 32
  high : s.high < 2 ^ 32

halves_kept : (s : Sums) (ws : List ℕ) → Halves s → Halves (fold add_word s ws)
halves_kept s [] h = h
halves_kept s (w ∷ ws) h =
    let low = (s.low + w) % 2 ^ 32 in
    halves_kept (add_word s w) ws (record { low = mod-lt (s.low + w) (omega arith); high = mod-lt (s.high + low) (omega arith) })

pub fletch_fits : (start : ℕ) (bytes : List ℕ) → start < 2 ^ 64 → fletch start bytes < 2 ^ 64
fletch_fits start bytes h =
    let begun : Halves (sums_of start) = record { low = mod-lt start (omega arith); high = omega arith } in
    let ended = halves_kept (sums_of start) (words bytes) begun in
    omega (arith, ended.low, ended.high)
