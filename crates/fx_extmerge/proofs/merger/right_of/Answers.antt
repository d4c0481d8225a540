use Rattle.std.proofs.Common.{ap}
use Rattle.fx_item.specs.Item.{item_of}
use Rattle.fx_item.specs.Place.{Below, ends}
use Rattle.fx_item.proofs.PlaceOrder.{tested_above}
use Rattle.fx_extmerge.proofs.Pieces.{right_piece}
use Rattle.fx_extmerge.proofs.merger.right_of.Goals as goal

pub returns : goal.returns
returns c =
    let n = item_of c.args.newer.now in
    let o = item_of c.args.older.now in
    let below : Below (ends n.key) (ends o.key) = tested_above (ends o.key) (ends n.key) _ _ _ _ c.if-is_le.false c.is_le.ensures c.compare.ensures c.ends-end.ensures c.ends-begin.ensures in
    right_piece n o c.requires.good (item_of c.in_ok-piece.piece) _ _ c.requires.reaches below c.in_ok-piece.ensures (ap (λ p. p.number) c.ends-begin.ensures) (ap (λ p. p.number) c.ends-end.ensures)
