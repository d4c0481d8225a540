use Rattle.std.proofs.Common.{rules, ◌≡◌, ℕ, ◌-◌, List, length, take, drop, true, refl, sym, ap, ◌∙◌, arith}
use Rattle.std.proofs.lemmas.List.{take_rest}
use Rattle.byteorder.specs.Endian.{little_number}
use Rattle.fx_sum.specs.Checksum.{fletch}
use Rattle.fx_super.specs.Super.{KeepsRules, fields_of}
use Rattle.fx_super.proofs.Judging.{Looked, magic_in_front, version_in_front, wrong_sum, wrong_magic, other_version, no_fields, no_rules, block_made}
use Rattle.fx_super.proofs.decode.judge.Goals as goal

-- what was read, in the words of the block
looked : (block body end after : List ℕ) (stated sum magic version : ℕ) → body ≡ take 4088 block → end ≡ drop 4088 block → stated ≡ little_number 8 end → sum ≡ fletch 0 body → magic ≡ little_number 8 body → version ≡ little_number 4 (take (length body - 8) (drop 8 body)) → after ≡ take (length body - 12) (drop 12 body) → Looked block stated sum magic version after
looked block body end after stated sum magic version b e st s m v a =
    record {
      stated_is = st ∙ ap (little_number 8) e;
      sum_is = s ∙ ap (fletch 0) b;
      magic_is = m ∙ ap (little_number 8) b ∙ magic_in_front block;
      version_is = v ∙ ap (little_number 4) (take_rest body 8 ∙ ap (drop 8) b) ∙ version_in_front block;
      after_is = a ∙ take_rest body 12 ∙ ap (drop 12) b;
    }

pub returns-then-read_u64-fletch : goal.returns-then-read_u64-fletch
returns-then-read_u64-fletch c =
    wrong_sum c.args.block.now c.read_u64.result c.fletch.result (c.read_u64.ensures ∙ ap (little_number 8) c.split_at.ensures.back) (c.fletch.ensures ∙ ap (fletch 0) c.split_at.ensures.front) c.if-read_u64-fletch.true

pub returns-then-read_u64-ne-MAGIC : goal.returns-then-read_u64-ne-MAGIC
returns-then-read_u64-ne-MAGIC c =
    wrong_magic c.args.block.now c.read_u64-2.result (c.read_u64-2.ensures ∙ ap (little_number 8) c.split_at.ensures.front ∙ magic_in_front c.args.block.now) c.if-read_u64-ne-MAGIC.true

pub returns-then-version-ne-VERSION : goal.returns-then-version-ne-VERSION
returns-then-version-ne-VERSION c =
    let l = looked c.args.block.now c.split_at.result.0.now c.split_at.result.1.now (take (length c.split_at.result.0.now - 12) (drop 12 c.split_at.result.0.now)) c.read_u64.result c.fletch.result c.read_u64-2.result c.read_u32-version.result c.split_at.ensures.front c.split_at.ensures.back c.read_u64.ensures c.fletch.ensures c.read_u64-2.ensures c.read_u32-version.ensures refl in
    other_version c.args.block.now c.read_u64.result c.fletch.result c.read_u64-2.result c.read_u32-version.result (take (length c.split_at.result.0.now - 12) (drop 12 c.split_at.result.0.now)) l c.if-read_u64-fletch.false c.if-read_u64-ne-MAGIC.false c.if-version-ne-VERSION.true

pub returns-in_default : goal.returns-in_default
returns-in_default c =
    let l = looked c.args.block.now c.split_at.result.0.now c.split_at.result.1.now (take (length c.split_at.result.0.now - 12) (drop 12 c.split_at.result.0.now)) c.read_u64.result c.fletch.result c.read_u64-2.result c.read_u32-version.result c.split_at.ensures.front c.split_at.ensures.back c.read_u64.ensures c.fletch.ensures c.read_u64-2.ensures c.read_u32-version.ensures refl in
    no_fields c.args.block.now c.read_u64.result c.fletch.result c.read_u64-2.result c.read_u32-version.result (take (length c.split_at.result.0.now - 12) (drop 12 c.split_at.result.0.now)) l c.if-version-ne-VERSION.false c.in_default.ensures

pub returns-then-keeps_rules : goal.returns-then-keeps_rules
returns-then-keeps_rules c =
    let l = looked c.args.block.now c.split_at.result.0.now c.split_at.result.1.now (take (length c.split_at.result.0.now - 12) (drop 12 c.split_at.result.0.now)) c.read_u64.result c.fletch.result c.read_u64-2.result c.read_u32-version.result c.split_at.ensures.front c.split_at.ensures.back c.read_u64.ensures c.fletch.ensures c.read_u64-2.ensures c.read_u32-version.ensures refl in
    let found = c.in-Some.ensures in
    let rules : KeepsRules (fields_of c.in-Some.fields) = c.keeps_rules.ensures.0 (search rules) in
    block_made c.args.block.now c.read_u64.result c.fletch.result c.read_u64-2.result c.read_u32-version.result (take (length c.split_at.result.0.now - 12) (drop 12 c.split_at.result.0.now)) (fields_of c.in-Some.fields) c.told-block (λ i. omega (arith, c.fits-block i)) l c.if-read_u64-fletch.false c.if-read_u64-ne-MAGIC.false (c.if-version-ne-VERSION.false ∙ sym found.0) found.1 rules

pub returns : goal.returns
returns c =
    let l = looked c.args.block.now c.split_at.result.0.now c.split_at.result.1.now (take (length c.split_at.result.0.now - 12) (drop 12 c.split_at.result.0.now)) c.read_u64.result c.fletch.result c.read_u64-2.result c.read_u32-version.result c.split_at.ensures.front c.split_at.ensures.back c.read_u64.ensures c.fletch.ensures c.read_u64-2.ensures c.read_u32-version.ensures refl in
    let found = c.in-Some.ensures in
    no_rules c.args.block.now c.read_u64.result c.fletch.result c.read_u64-2.result c.read_u32-version.result (take (length c.split_at.result.0.now - 12) (drop 12 c.split_at.result.0.now)) (fields_of c.in-Some.fields) l c.if-version-ne-VERSION.false found.0 found.1 (λ k. let yes : c.keeps_rules.result ≡ true = c.keeps_rules.ensures.1 k in cc)
