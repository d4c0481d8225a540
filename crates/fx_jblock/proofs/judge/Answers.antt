use Rattle.std.proofs.Common.{rules, ◌≡◌, ℕ, List, take, drop, sym, ap, subst, ◌∙◌, arith}
use Rattle.byteorder.specs.Endian.{little_number}
use Rattle.fx_sum.specs.Checksum.{fletch}
use Rattle.fx_jblock.specs.Block.{IsBody, stated_sum, sum_from}
use Rattle.fx_jblock.proofs.Judging.{same_body, continues_body, holds_from}
use Rattle.fx_jblock.proofs.judge.Goals as goal
use Rattle.fx_jblock.proofs.judge.Goals.{then-epoch-floor-via-then-epoch-floor, then-epoch-floor-via-else-epoch-floor+then-generation-epoch}

-- the sum is right, in the words of the block
right : (block before sum : List ℕ) (chain stated after : ℕ) → before ≡ take 4088 block → sum ≡ drop 4088 block → stated ≡ little_number 8 sum → after ≡ fletch chain before → stated ≡ after → stated_sum block ≡ sum_from chain block
right block before sum chain stated after b s st af e = sym (st ∙ ap (little_number 8) s) ∙ e ∙ af ∙ ap (fletch chain) b

at_block : (block before : List ℕ) (s e : ℕ) (text : List ℕ) → before ≡ take 4088 block → IsBody before s e text → IsBody (take 4088 block) s e text
at_block block before s e text b h = subst (λ (x : List ℕ). IsBody x s e text) b h

back : (block before : List ℕ) (s e : ℕ) (text : List ℕ) → before ≡ take 4088 block → IsBody (take 4088 block) s e text → IsBody before s e text
back block before s e text b h = subst (λ (x : List ℕ). IsBody x s e text) (sym b) h

pub returns-in_default : goal.returns-in_default
returns-in_default c =
    let parts = c.split_at.ensures in (
      right c.args.block.now c.split_at.result.0.now c.split_at.result.1.now c.args.chain c.read_u64.result c.fletch-after.result parts.front parts.back c.read_u64.ensures c.fletch-after.ensures c.if-read_u64-after.false,
      λ e text h. c.in_default.ensures e text (back c.args.block.now c.split_at.result.0.now c.args.seq e text parts.front (continues_body c.args.block.now c.args.seq c.args.floor c.args.generation c.args.chain e text (search rules) h)),
    )

pub returns-then-epoch-floor : goal.returns-then-epoch-floor
returns-then-epoch-floor c =
    let parts = c.split_at.ensures in
    let found = c.in-Some.ensures in (
      right c.args.block.now c.split_at.result.0.now c.split_at.result.1.now c.args.chain c.read_u64.result c.fletch-after.result parts.front parts.back c.read_u64.ensures c.fletch-after.ensures c.if-read_u64-after.false,
      λ e text h.
          let one = same_body (take 4088 c.args.block.now) c.args.seq c.in-Some.epoch e found.0 text (search rules) (at_block c.args.block.now c.split_at.result.0.now c.args.seq c.in-Some.epoch found.0 parts.front found.2) (continues_body c.args.block.now c.args.seq c.args.floor c.args.generation c.args.chain e text (search rules) h) in
          elim c.then-epoch-floor.branch [
            | then-epoch-floor-via-then-epoch-floor w ↦ omega (arith, one.0, h.least)
            | then-epoch-floor-via-else-epoch-floor+then-generation-epoch w ↦ omega (arith, one.0, h.most)
          ],
    )

pub returns : goal.returns
returns c =
    let parts = c.split_at.ensures in
    let found = c.in-Some.ensures in
    let sum = right c.args.block.now c.split_at.result.0.now c.split_at.result.1.now c.args.chain c.read_u64.result c.fletch-after.result parts.front parts.back c.read_u64.ensures c.fletch-after.ensures c.if-read_u64-after.false in (
      found.0,
      found.1,
      c.fletch-after.ensures ∙ ap (fletch c.args.chain) parts.front,
      record {
        holds = holds_from c.args.block.now c.args.seq c.in-Some.epoch c.args.chain found.0 c.told-block (λ i. omega (arith, c.fits-block i)) sum (at_block c.args.block.now c.split_at.result.0.now c.args.seq c.in-Some.epoch found.0 parts.front found.2);
        least = c.if-epoch-floor.false;
        most = c.if-generation-epoch.false;
      },
    )
