use Rattle.std.proofs.Common.{refl, inl, inr}
use Rattle.fx_item.specs.Item.{key_of}
use Rattle.fx_item.specs.Place.{begins, ends}
use Rattle.fx_item.proofs.PlaceOrder.{tested_above, tested_upto}
use Rattle.fx_extmerge.proofs.merger.meet_items.Goals as goal

pub returns-then-ends_by : goal.returns-then-ends_by
returns-then-ends_by c = inl (tested_upto (ends (key_of c.args.newer.now.key)) (begins (key_of c.args.older.now.key)) _ _ _ _ c.if-ends_by.true c.ends_by.ensures refl refl c.begins.ensures)

pub returns-then-ends_by-2 : goal.returns-then-ends_by-2
returns-then-ends_by-2 c = inr (tested_upto (ends (key_of c.args.older.now.key)) (begins (key_of c.args.newer.now.key)) _ _ _ _ c.if-ends_by-2.true c.ends_by-2.ensures refl refl c.begins-2.ensures)

pub left_of-requires-clause-reaches : goal.left_of-requires-clause-reaches
left_of-requires-clause-reaches c = tested_above (ends (key_of c.args.older.now.key)) (begins (key_of c.args.newer.now.key)) _ _ _ _ c.if-ends_by-2.false c.ends_by-2.ensures refl refl c.begins-2.ensures

pub right_of-requires-clause-reaches : goal.right_of-requires-clause-reaches
right_of-requires-clause-reaches c = tested_above (ends (key_of c.args.newer.now.key)) (begins (key_of c.args.older.now.key)) _ _ _ _ c.if-ends_by.false c.ends_by.ensures refl refl c.begins.ensures
