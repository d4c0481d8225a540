use Rattle.std.proofs.Common.{◌≡◌, Bool, subst, sym, ap, ◌∙◌}
use Rattle.std.specs.Prelude.{option_copied, option_map}
use Rattle.fx_item.specs.Item.{PlainItem, item_of, key_of}
use Rattle.fx_item.specs.Look.{FindsFrom}
use Rattle.fx_item.specs.Overlay.{says}
use Rattle.fx_item.specs.Place.{Place, begins}
use Rattle.fx_dir.proofs.Sampled.{ends_by, found_before, found_behind, found_first, skipped}
use Rattle.fx_dir.proofs.sample.earlier.Goals as goal

-- a test of the code, at the place that is meant
test : (x : PlainItem) (p q : Place) (b t : Bool) → b ≡ ends_by x p → p ≡ q → b ≡ t → ends_by x q ≡ t
test x p q b t e same is = ap (ends_by x) (sym same) ∙ sym e ∙ is

pub returns-then-ends_by : goal.returns-then-ends_by
returns-then-ends_by c = λ xs f. skipped xs (item_of c.args.item.now) (begins (key_of c.args.key.now)) (option_map item_of (option_copied c.args.best))
    (test (item_of c.args.item.now) _ (begins (key_of c.args.key.now)) _ _ c.ends_by.ensures c.begins.ensures c.if-ends_by.true) f

pub returns-in_default : goal.returns-in_default
returns-in_default c = λ xs f. found_first xs (item_of c.args.item.now) (begins (key_of c.args.key.now)) c.requires
    (test (item_of c.args.item.now) _ (begins (key_of c.args.key.now)) _ _ c.ends_by.ensures c.begins.ensures c.if-ends_by.false)
    (subst (λ b. FindsFrom (says xs) (begins (key_of c.args.key.now)) (option_map item_of (option_copied b))) c.in_default.is f)

pub returns-then-ends_by-2 : goal.returns-then-ends_by-2
returns-then-ends_by-2 c = λ xs f. found_before xs (item_of c.args.item.now) (item_of c.in-Some.found.now) (begins (key_of c.args.key.now)) c.requires
    (test (item_of c.args.item.now) _ (begins (key_of c.args.key.now)) _ _ c.ends_by.ensures c.begins.ensures c.if-ends_by.false)
    (test (item_of c.args.item.now) _ (begins (key_of c.in-Some.found.now.key)) _ _ c.ends_by-2.ensures c.begins-2.ensures c.if-ends_by-2.true)
    (subst (λ b. FindsFrom (says xs) (begins (key_of c.args.key.now)) (option_map item_of (option_copied b))) c.in-Some.is f)

pub returns : goal.returns
returns c = λ xs f. found_behind xs (item_of c.args.item.now) (item_of c.in-Some.found.now) (begins (key_of c.args.key.now)) c.requires
    (test (item_of c.args.item.now) _ (begins (key_of c.args.key.now)) _ _ c.ends_by.ensures c.begins.ensures c.if-ends_by.false)
    (test (item_of c.args.item.now) _ (begins (key_of c.in-Some.found.now.key)) _ _ c.ends_by-2.ensures c.begins-2.ensures c.if-ends_by-2.false)
    (subst (λ b. FindsFrom (says xs) (begins (key_of c.args.key.now)) (option_map item_of (option_copied b))) c.in-Some.is f)
