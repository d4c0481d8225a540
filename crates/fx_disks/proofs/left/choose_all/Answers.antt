use Rattle.std.proofs.Common.{◌≡◌, ◌<◌, ◌+◌, ℕ, true, false, length, map, take, List, sym, ◌∙◌, arith, get_or, subst}
use Rattle.std.proofs.lemmas.List.{get_or_default}
use Rattle.fx_disks.specs.Calls.{call_of}
use Rattle.fx_disks.specs.Left.{AreChosen}
use Rattle.fx_disks.specs.declared.pick.Pick.{Pick}
use Rattle.fx_disks.proofs.Choosing.{AreChosen-more, AreChosen-refused, take-more}
use Rattle.fx_disks.proofs.left.choose_all.Goals as goal

pub returns-then-not-choose-clause-refused : goal.returns-then-not-choose-clause-refused
returns-then-not-choose-clause-refused c =
    let h = rw c.if-not-choose.true at c.choose.ensures.chooses in
    let lt : c.loop-pick.pick-index < length c.args.picks.now = omega arith in
    λ _ entry e all. AreChosen-refused _ _ c.loop-pick.pick-index _ _ c.args.picks.now _ lt (get_or_default c.args.picks.now c.loop-pick.pick-index _ _ lt) c.loop-pick.invariant.chosen h entry (e ∙ sym c.loop-pick.invariant.len) all

pub loop-pick-preserved : goal.loop-pick-preserved
loop-pick-preserved c =
    let h = rw c.if-not-choose.false at c.choose.ensures.chooses in
    let lt : c.loop-pick.pick-index < length c.args.picks.now = omega arith in
    record {
      len = c.choose.ensures.len ∙ c.loop-pick.invariant.len;
      chosen =
          subst (λ (ps : List Pick). AreChosen (map call_of c.args.calls.now) c.args.moment c.choose.new.chosen.items ps) (sym (take-more c.args.picks.now c.loop-pick.pick-index _ lt))
          (AreChosen-more _ _ _ _ _ _ c.loop-pick.invariant.chosen h);
    }
