use Rattle.std.proofs.Common.{rules, sym, ap, ◌∙◌, ◌≡◌, ◌<◌, Some, subst, [], ◌∷◌}
use mathlib.Core.List.{IsPrefix}
use Rattle.atomic_table.specs.Table.{rest}
use Rattle.std.specs.FinMap.{get}
use Rattle.fx_turn.specs.Parts.{Has, KeepsOthers}
use Rattle.fx_turn.specs.Views.{pass_of}
use Rattle.fx_turn.proofs.Frees.{frees_keeps}
use Rattle.fx_turn.proofs.Maps.{kept_mine}
use Rattle.fx_turn.proofs.lock.Turn.give.Goals as goal

pub store-requires : goal.store-requires
store-requires g c = let log = g.T.Growing.log in let seat = c.held.inside.seat in let x = c.args.taken.value in
    let same : c.exchange-vacant.new.seat.me.0 ≡ seat.me.0 = ap (λ m. m.0) c.exchange-vacant.ensures.3 in
    let out : c.exchange-vacant.new.seat.me.1 ≡ (0, Some x) ∷ [] = ap (λ m. m.1) c.exchange-vacant.ensures.3 ∙ ap (λ l. (0, Some x) ∷ rest l) c.held.invariant.0 in (
      search rules,
      search rules,
      frees_keeps log g.T.Growing.counts g.T.Growing.parts _ _ _ c.exchange-vacant.new.seat.me x (search rules) out (ap (λ v. v.holds) same ∙ c.held.invariant.1)
          (subst (λ v. IsPrefix v.taken_log (log x)) (sym same) (subst (λ k. IsPrefix k.log (log x)) (sym c.held.view_is) c.requires.log))
          (subst (λ v. KeepsOthers v.taken_parts v.mine (g.T.Growing.parts x)) (sym same) (subst (λ k. KeepsOthers k.parts k.pass.mine (g.T.Growing.parts x)) (sym c.held.view_is) c.requires.others)),
    )

pub invariant_of-result : goal.invariant_of-result
invariant_of-result g c = let seat = c.held.inside.seat in let x = c.args.taken.value in
    let same : c.exchange-vacant.new.seat.me.0 ≡ seat.me.0 = ap (λ m. m.0) c.exchange-vacant.ensures.3 in
    let out : c.exchange-vacant.new.seat.me.1 ≡ (0, Some x) ∷ [] = ap (λ m. m.1) c.exchange-vacant.ensures.3 ∙ ap (λ l. (0, Some x) ∷ rest l) c.held.invariant.0 in
    let e = c.store.ensures.2 x out in
    (c.store.new.seat.me.0, c.into_badge.ensures.2, ap (λ m. m.0.holds) e, subst (λ m. 0 < m.0.shares) (sym e) (subst (λ v. 0 < v.shares) (sym same) c.held.invariant.2))

pub returns-clause-kept : goal.returns-clause-kept
returns-clause-kept g c = λ q h. let seat = c.held.inside.seat in let x = c.args.taken.value in
    let same : c.exchange-vacant.new.seat.me.0 ≡ seat.me.0 = ap (λ m. m.0) c.exchange-vacant.ensures.3 in
    let out : c.exchange-vacant.new.seat.me.1 ≡ (0, Some x) ∷ [] = ap (λ m. m.1) c.exchange-vacant.ensures.3 ∙ ap (λ l. (0, Some x) ∷ rest l) c.held.invariant.0 in
    let e = c.store.ensures.2 x out in let has = subst (λ v. Has v.mine q) (sym same) (subst (λ k. Has k.pass.mine q) (sym c.held.view_is) h) in
    ap (λ vs. get (pass_of c.into_badge.result.table_id vs).mine q) c.into_badge.ensures.2 ∙ (ap (λ m. get m.0.mine q) e ∙ kept_mine c.exchange-vacant.new.seat.me.0.taken_parts c.exchange-vacant.new.seat.me.0.mine (g.T.Growing.parts x) q has)
