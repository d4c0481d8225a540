-- What a pool ends as, once the borrow of a buffer's bytes is over.
use Rattle.std.specs.Prelude.{ℕ, ◌*◌, List, ◌++◌, length, take, drop}
use Rattle.std.specs.Borrow.{Lends, MutBor, Fml, Array, u8}
use Rattle.fx_pool.specs.Region.{Region, Run}
use Rattle.fx_base.specs.declared.block.TheConstants.{BLOCK_BYTES}
use Rattle.fx_pool.specs.contracts.pool.Pool.{the_row}

-- the bytes with ws written over as many of them from place i on
abbrev pub written_over : List ℕ → ℕ → List ℕ → List ℕ
written_over bytes i ws =
    take (length bytes) (take i bytes ++ (ws ++ drop (length ws) (drop i bytes)))

abbrev pub with_bytes : Region → Run → List ℕ → Region
with_bytes p r ws = record p { bytes = written_over p.bytes (BLOCK_BYTES * r.start) ws }

abbrev pub LendsBuffer : MutBor Region → Run → MutBor (List ℕ) → Fml
LendsBuffer p r s = Lends the_row (Array u8 0) p s (with_bytes p.now r)
