use Rattle.std.proofs.Common.{◌≡◌, ℕ, List, length, ap, subst, ◌∙◌}
use Rattle.fx_audit.specs.Audited.{plain_image}
use Rattle.fx_audit.specs.Claims.{FindsFirst, is_bad_block}
use Rattle.fx_audit.proofs.BadBlocks.{first_by, least_found, none_found}
use Rattle.fx_audit.proofs.blocks.unsound_block.Goals as goal

pub first_bad-requires-clause-files : goal.first_bad-requires-clause-files
first_bad-requires-clause-files c = ap length c.deref.ensures.value ∙ c.in_ok-files.ensures.len

pub first_bad-requires-clause-taken : goal.first_bad-requires-clause-taken
first_bad-requires-clause-taken c = ap length c.deref-2.ensures.value ∙ c.in_ok-taken.ensures.len

pub first_bad-requires-clause-layers : goal.first_bad-requires-clause-layers
first_bad-requires-clause-layers c = ap length c.deref-3.ensures.value ∙ c.in_ok-layers.ensures.len

pub returns-clause-none : goal.returns-clause-none
returns-clause-none c = none_found (plain_image c.args.image.now) c.requires c.in_ok-files.files.items c.in_ok-taken.taken.items c.in_ok-layers.layers.items c.in_ok-files.ensures.counts c.in_ok-taken.ensures.counts c.in_ok-layers.ensures.counts c.first_bad.result
    (first_by c.args.image.now.ring c.args.image.now.disk c.first_bad.result c.deref.ensures.value c.deref-2.ensures.value c.deref-3.ensures.value c.first_bad.ensures)

pub returns-clause-least : goal.returns-clause-least
returns-clause-least c = least_found (plain_image c.args.image.now) c.requires c.in_ok-files.files.items c.in_ok-taken.taken.items c.in_ok-layers.layers.items c.in_ok-files.ensures.counts c.in_ok-taken.ensures.counts c.in_ok-layers.ensures.counts c.first_bad.result
    (first_by c.args.image.now.ring c.args.image.now.disk c.first_bad.result c.deref.ensures.value c.deref-2.ensures.value c.deref-3.ensures.value c.first_bad.ensures)
