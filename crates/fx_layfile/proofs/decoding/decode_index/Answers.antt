use Rattle.std.proofs.Common.{rules, ◌≡◌, true, arith}
use Rattle.fx_layfile.specs.Block.{IsFramed}
use Rattle.fx_layfile.specs.declared.block.TheConstants.{INDEX_MAGIC}
use Rattle.fx_layfile.proofs.Decoded.{index_framed, index_made, index_tests}
use Rattle.fx_layfile.proofs.decoding.decode_index.Goals as goal
use Rattle.fx_layfile.proofs.decoding.decode_index.Goals.{then-owner-tree-via-then-owner-tree, then-owner-tree-via-else-owner-tree+then-count-eq0, then-owner-tree-via-else-owner-tree+else-count-eq0+then-count-gt-INDEX_NAMES}

pub returns-in_default : goal.returns-in_default
returns-in_default c = λ next names h. c.in_default.ensures _ _ _ _ (index_framed c.args.block.now c.args.tree next names h)

pub returns-then-owner-tree : goal.returns-then-owner-tree
returns-then-owner-tree c = λ next names h.
    let f : IsFramed c.args.block.now INDEX_MAGIC c.in-Some.next c.in-Some.count c.in-Some.owner c.in-Some.raw.now = c.in-Some.ensures in
    let t = index_tests c.args.block.now c.args.tree c.in-Some.next c.in-Some.count c.in-Some.owner next c.in-Some.raw.now names f h in
    elim c.then-owner-tree.branch [
      | then-owner-tree-via-then-owner-tree w ↦ w.if-owner-tree.true t.0
      | then-owner-tree-via-else-owner-tree+then-count-eq0 w ↦ omega (arith, t.1)
      | then-owner-tree-via-else-owner-tree+else-count-eq0+then-count-gt-INDEX_NAMES w ↦ omega (arith, t.2)
    ]

pub returns-then-not-is_zero : goal.returns-then-not-is_zero
returns-then-not-is_zero c = λ next names h.
    let f : IsFramed c.args.block.now INDEX_MAGIC c.in-Some.next c.in-Some.count c.in-Some.owner c.in-Some.raw.now = c.in-Some.ensures in
    let t = index_tests c.args.block.now c.args.tree c.in-Some.next c.in-Some.count c.in-Some.owner next c.in-Some.raw.now names f h in
    let yes : c.is_zero.result ≡ true = c.is_zero.ensures.1 (t.3 c.split_at.result.1.now c.split_at.ensures.back) in
    cc

pub returns : goal.returns
returns c =
    let f : IsFramed c.args.block.now INDEX_MAGIC c.in-Some.next c.in-Some.count c.in-Some.owner c.in-Some.raw.now = c.in-Some.ensures in
    index_made c.args.block.now c.args.tree c.in-Some.next c.in-Some.count c.in-Some.owner c.in-Some.raw.now c.split_at.result.0.now c.split_at.result.1.now c.in_ok-names.names f
    (search rules) (omega arith) (search rules) c.split_at.ensures.front c.split_at.ensures.back (c.is_zero.ensures.0 (search rules)) c.in_ok-names.ensures.bytes c.in_ok-names.ensures.fits
