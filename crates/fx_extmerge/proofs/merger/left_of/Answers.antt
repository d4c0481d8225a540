use Rattle.std.proofs.Common.{ap}
use Rattle.fx_item.specs.Item.{item_of}
use Rattle.fx_item.specs.Place.{Below, begins}
use Rattle.fx_item.proofs.PlaceOrder.{tested_above}
use Rattle.fx_extmerge.proofs.Pieces.{left_piece}
use Rattle.fx_extmerge.proofs.merger.left_of.Goals as goal

pub returns : goal.returns
returns c =
    let n = item_of c.args.newer.now in
    let o = item_of c.args.older.now in
    let below : Below (begins o.key) (begins n.key) = tested_above (begins n.key) (begins o.key) _ _ _ _ c.if-is_le.false c.is_le.ensures c.compare.ensures c.begins-end.ensures c.begins-begin.ensures in
    left_piece n o c.requires.good (item_of c.in_ok-piece.piece) _ _ below c.requires.reaches c.in_ok-piece.ensures (ap (λ p. p.number) c.begins-begin.ensures) (ap (λ p. p.number) c.begins-end.ensures)
