use Rattle.std.proofs.Common.{◌≡◌, ℕ, ◌-◌, length, true, false, rules, subst}
use Rattle.fx_item.specs.Overlay.{live_in}
use Rattle.fx_node.specs.Held.{AreFirstNames, AreFirstRuns}
use Rattle.fx_node.specs.Portions.{AllNames, SomeNames}
use Rattle.fx_node.proofs.reaping.part_of.Goals as goal

pub returns-then-not-first-clause-takes : goal.returns-then-not-first-clause-takes
returns-then-not-first-clause-takes g c =
    let some : c.in_ok-first.first.all ≡ false = search rules in
    SomeNames (subst (AreFirstNames (live_in (g.L.Look.said c.args.look.now)) c.args.at 256 c.in_ok-first.first.names.items) some c.in_ok-first.ensures.first) c.new.ensures.items

pub returns-clause-takes : goal.returns-clause-takes
returns-clause-takes g c =
    let all : c.in_ok-first.first.all ≡ true = search rules in
    let size : c.len.result ≡ length c.in_ok-first.first.names.items = search rules in
    AllNames c.in_ok-rest.rest.all
    (subst (AreFirstNames (live_in (g.L.Look.said c.args.look.now)) c.args.at 256 c.in_ok-first.first.names.items) all c.in_ok-first.ensures.first)
    (subst (λ (n : ℕ). AreFirstRuns (live_in (g.L.Look.said c.args.look.now)) c.args.at (256 - n) c.in_ok-rest.rest.runs.items c.in_ok-rest.rest.all) size c.in_ok-rest.ensures.first)
