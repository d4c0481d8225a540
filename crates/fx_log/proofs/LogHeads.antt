-- The place after the blocks that were read.
use Rattle.std.proofs.Common.{◌≡◌, ℕ, ◌+◌, List, [], ◌∷◌, length, ap, arith}
use Rattle.fx_jblock.specs.declared.Start.{Start}
use Rattle.fx_journal.specs.declared.stream.StreamBlock.{StreamBlock}
use Rattle.fx_journal.specs.Stream.{IsSeries, place_after}

pub series-next : (generation : ℕ) (start next : Start) (blocks : List StreamBlock) → IsSeries generation start blocks next → next.sequence ≡ start.sequence + length blocks
series-next generation start next [] h = omega (arith, ap (λ (p : Start). p.sequence) h)
series-next generation start next (b ∷ bs) h = omega (arith, series-next generation (place_after start b) next bs h.1)
