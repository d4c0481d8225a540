-- What the events do to the uses of blocks.
use Rattle.std.specs.Prelude.{◌≡◌, ℕ, ◌+◌, Bool, true, false, ◌==◌, if◌then◌else◌, nat_le, Some, [], ◌∷◌, ◌++◌}
use Rattle.fx_uses.specs.Live.{Txn, put_in}
use Rattle.fx_uses.specs.Uses.{Use, Free, Drawn, Staged, Live, Freed, Layer, Aside, Laid, Coming, Pinned, BlockUses, last}

-- a function with another value at one place
abbrev pub at_place : {X : Type 0} → ℕ → X → (ℕ → X) → ℕ → X
at_place at x f b = if at == b then x else f b

abbrev pub with_use : BlockUses → ℕ → Use → BlockUses
with_use s at to = record s { uses = at_place at to s.uses }

-- Bytes of this sum were put in the block, which has this use then.
abbrev pub with_put : BlockUses → ℕ → Use → ℕ → BlockUses
with_put s at to sum = record s { uses = at_place at to s.uses; sums = at_place at sum s.sums }

-- The number writes bytes of this sum to a block that it has drawn, for the first time or again. Where
-- that failed the block has nothing staged, whatever stood there before.
abbrev pub with_stage : BlockUses → ℕ → ℕ → ℕ → Bool → BlockUses
with_stage s who at sum true = with_put s at (Staged who) sum
with_stage s who at sum false = with_use s at (Drawn who)

-- ---- a commit

-- The number's staged blocks become live, and live ones that are freed wait until this is settled.
abbrev pub taken_over : ℕ → ℕ → Use → Use
taken_over who n (Staged w) = if w == who then Live n else Staged w
taken_over who n u = u

abbrev pub freed_by : ℕ → Use → Use
freed_by n (Live since) = Freed since n
freed_by n u = u

abbrev pub after_commit : ℕ → Txn → ℕ → Use → Use
after_commit who t b u = taken_over who t.number (if t.frees b then freed_by t.number u else u)

abbrev pub with_committed : BlockUses → ℕ → Txn → BlockUses
with_committed s who t =
    record s { txns = s.txns ++ t ∷ []; uses = λ b. after_commit who t b (s.uses b) }

-- The transaction is the next, and what it writes is just what the number has staged.
pub record IsNextOf (s : BlockUses) (who : ℕ) (t : Txn) : Type 0 where
  pub number : t.number ≡ last s + 1
  pub staged : (b : ℕ) → s.uses b ≡ Staged who → put_in b t.puts ≡ Some (s.sums b)
  pub only : (b x : ℕ) → put_in b t.puts ≡ Some x → s.uses b ≡ Staged who

-- ---- a rollback, a flush and a settling

-- What the number has drawn and staged is free.
abbrev pub given_back : ℕ → Use → Use
given_back who (Drawn w) = if w == who then Free else Drawn w
given_back who (Staged w) = if w == who then Free else Staged w
given_back who u = u

abbrev pub with_rollback : BlockUses → ℕ → BlockUses
with_rollback s who = record s { uses = λ b. given_back who (s.uses b) }

-- What was written is flushed.
abbrev pub with_flushed : BlockUses → BlockUses
with_flushed s = record s { firm = last s }

-- The transactions up to the number are settled: what they freed is free.
abbrev pub let_go : ℕ → Use → Use
let_go n (Freed since until) = if nat_le until n then Free else Freed since until
let_go n u = u

abbrev pub with_settling : BlockUses → ℕ → BlockUses
with_settling s n = record s { settled = n; uses = λ b. let_go n (s.uses b) }

-- A good flush that settles the transactions up to the number.
abbrev pub with_mark : BlockUses → ℕ → BlockUses
with_mark s n = with_settling (with_flushed s) n

-- ---- a checkpoint

-- A block that was set aside is written: where that was good it is laid down.
abbrev pub with_laid : BlockUses → ℕ → ℕ → Bool → BlockUses
with_laid s at sum true = with_put s at Laid sum
with_laid s at sum false = s

-- What was laid down is flushed.
abbrev pub laid_firm : Use → Use
laid_firm Laid = Coming
laid_firm u = u

abbrev pub with_layers_flushed : BlockUses → BlockUses
with_layers_flushed s = record s { firm = last s; uses = λ b. laid_firm (s.uses b) }

-- The new layers, and the old ones that stay, take the place of the old ones. A block of another old
-- layer is free, or kept where a pin has it. No block is laid down and not flushed then: all that the
-- checkpoint wrote well is to be flushed before its superblock is written.
abbrev pub switched : (stays kept : Bool) → Use → Use
switched stays kept Layer = if stays then Layer else (if kept then Pinned else Free)
switched stays kept Coming = Layer
switched stays kept Aside = Free
switched stays kept u = u

abbrev pub with_switch : BlockUses → (stays kept : ℕ → Bool) → BlockUses
with_switch s stays kept = record s { uses = λ b. switched (stays b) (kept b) (s.uses b) }

-- A pin has ended: what was kept for pins alone, and no pin that is left keeps, is free.
abbrev pub pin_ended : (kept : Bool) → Use → Use
pin_ended kept Pinned = if kept then Pinned else Free
pin_ended kept u = u

abbrev pub with_pin_ended : BlockUses → (kept : ℕ → Bool) → BlockUses
with_pin_ended s kept = record s { uses = λ b. pin_ended (kept b) (s.uses b) }

-- A checkpoint that was not settled begins anew.
abbrev pub abandoned : Use → Use
abandoned Aside = Free
abandoned Laid = Free
abandoned u = u

abbrev pub with_anew : BlockUses → BlockUses
with_anew s = record s { uses = λ b. abandoned (s.uses b) }
