use Rattle.std.proofs.Common.{rules, ◌≡◌, true, arith}
use Rattle.fx_item.specs.Item.{items_of}
use Rattle.fx_layfile.specs.Block.{IsFramed}
use Rattle.fx_layfile.specs.declared.block.TheConstants.{DATA_MAGIC}
use Rattle.fx_layfile.proofs.Decoded.{data_framed, data_tests, data_decoded}
use Rattle.fx_layfile.proofs.decoding.decode_data.Goals as goal
use Rattle.fx_layfile.proofs.decoding.decode_data.Goals.{then-zero-ne0-via-then-zero-ne0, then-zero-ne0-via-else-zero-ne0+then-count-eq0, then-zero-ne0-via-else-zero-ne0+else-count-eq0+then-used-gt-ROOM_BYTES}

pub returns-in_default : goal.returns-in_default
returns-in_default c = λ items h. c.in_default.ensures _ _ _ _ (data_framed c.args.block.now c.args.tree items h)

pub returns-then-zero-ne0 : goal.returns-then-zero-ne0
returns-then-zero-ne0 c = λ items h.
    let f : IsFramed c.args.block.now DATA_MAGIC c.in-Some.count c.in-Some.used c.in-Some.zero c.in-Some.raw.now = c.in-Some.ensures in
    let t = data_tests c.args.block.now c.args.tree c.in-Some.count c.in-Some.used c.in-Some.zero c.in-Some.raw.now items f h in
    elim c.then-zero-ne0.branch [
      | then-zero-ne0-via-then-zero-ne0 w ↦ w.if-zero-ne0.true t.0
      | then-zero-ne0-via-else-zero-ne0+then-count-eq0 w ↦ omega (arith, t.1)
      | then-zero-ne0-via-else-zero-ne0+else-count-eq0+then-used-gt-ROOM_BYTES w ↦ omega (arith, t.2)
    ]

pub returns-then-not-is_zero : goal.returns-then-not-is_zero
returns-then-not-is_zero c = λ items h.
    let f : IsFramed c.args.block.now DATA_MAGIC c.in-Some.count c.in-Some.used c.in-Some.zero c.in-Some.raw.now = c.in-Some.ensures in
    let t = data_tests c.args.block.now c.args.tree c.in-Some.count c.in-Some.used c.in-Some.zero c.in-Some.raw.now items f h in
    let yes : c.is_zero.result ≡ true = c.is_zero.ensures.1 (t.3 c.split_at.result.1.now c.split_at.ensures.back) in
    cc

pub returns : goal.returns
returns c =
    let f : IsFramed c.args.block.now DATA_MAGIC c.in-Some.count c.in-Some.used c.in-Some.zero c.in-Some.raw.now = c.in-Some.ensures in
    data_decoded c.take_items.result c.args.block.now c.args.tree c.in-Some.count c.in-Some.used c.in-Some.zero c.in-Some.raw.now c.split_at.result.0.now c.split_at.result.1.now (items_of c.args.items.now.items) (items_of c.take_items.new.items.items) f
    (search rules) (omega arith) (search rules) c.split_at.ensures.front c.split_at.ensures.back (c.is_zero.ensures.0 (search rules)) c.take_items.ensures
