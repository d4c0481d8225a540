-- A journal block has 4,096 bytes.
use Rattle.std.proofs.Common.{◌≡◌, ℕ, ◌+◌, ◌-◌, ◌≤◌, List, ◌++◌, length, replicate, refl, sym, ◌∙◌, ap, arith, length-append}
use Rattle.std.proofs.lemmas.List.{length-replicate}
use Rattle.byteorder.specs.Endian.{little_bytes}
use Rattle.fx_sum.specs.Checksum.{fletch}
use Rattle.fx_jblock.specs.Block.{body, Holds, journal_block}

length-body : (s e : ℕ) (text : List ℕ) → length text ≤ 4064 → length (body s e text) ≡ 4088
unfolding body
length-body s e text le =
    let rest : length (text ++ replicate (4064 - length text) 0) ≡ 4064 = omega (arith, length-append text (replicate (4064 - length text) 0), length-replicate {A = ℕ} (4064 - length text) 0) in
    omega (arith, rest)

pub length-held : (block : List ℕ) (s e c : ℕ) (text : List ℕ) → Holds block s e c text → length block ≡ 4096
length-held block s e c text h =
    ap length h.bytes ∙ omega (arith, length-append (body s e text) (little_bytes 8 (fletch c (body s e text))), length-body s e text h.room)
