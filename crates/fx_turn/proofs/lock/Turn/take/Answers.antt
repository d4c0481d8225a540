use Rattle.std.proofs.Common.{rules, sym, ap, ◌∙◌, ◌∷◌, Some}
use Rattle.atomic_table.specs.Table.{rest}
use Rattle.fx_turn.proofs.Takes.{takes_keeps}
use Rattle.fx_turn.proofs.lock.Turn.take.Goals as goal

pub compare_exchange-found-requires : goal.compare_exchange-found-requires
compare_exchange-found-requires g c = (search rules, search rules, takes_keeps g.T.Growing.log g.T.Growing.counts g.T.Growing.parts _ _ _ _ (search rules) (search rules))

pub exchange-requires : goal.exchange-requires
exchange-requires g c = let t = c.compare_exchange-found.ensures.2.0 c.if-found-eq-FREE.true in let e = ap (λ m. m.1) t.1 in
    (search rules, (Some t.0, e ∙ ap (λ l. (0, Some t.0) ∷ rest l) (sym e)))
