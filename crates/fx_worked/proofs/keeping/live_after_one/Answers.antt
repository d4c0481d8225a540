use Rattle.std.proofs.Common.{sym, ap, ◌∙◌}
use Rattle.fx_item.specs.Item.{items_of}
use Rattle.fx_verify.specs.Kept.{last_stated, written_by}
use Rattle.fx_worked.proofs.Stated.{stated-taken, stated-untaken}
use Rattle.fx_worked.proofs.keeping.live_after_one.Goals as goal

pub returns-then-is_taken : goal.returns-then-is_taken
returns-then-is_taken c =
    stated-taken (items_of c.args.items.now) c.args.block c.left_unfreed-left.result c.stated.result (sym (c.if-is_taken.ensures)) c.stated.ensures
    ∙ ap (λ o. last_stated c.args.block (written_by (items_of c.args.items.now)) o) c.left_unfreed-left.ensures

pub returns : goal.returns
returns c =
    stated-untaken (items_of c.args.items.now) c.args.block c.left_unfreed-left.result (sym (c.if-is_taken.ensures))
    ∙ ap (λ o. last_stated c.args.block (written_by (items_of c.args.items.now)) o) c.left_unfreed-left.ensures
