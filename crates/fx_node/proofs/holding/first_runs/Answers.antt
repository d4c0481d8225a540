use Rattle.std.proofs.Common.{◌≡◌, ◌≤◌, length, rules}
use Rattle.fx_node.proofs.Runs.{run_step, runs_end}
use Rattle.fx_node.proofs.holding.first_runs.Goals as goal

pub runs-preserved : goal.runs-preserved
runs-preserved g c = record {
  before = run_step c.runs.invariant.before c.in_ok-run.field-0 c.in_ok-run.ensures.next c.in-Some.run' c.push.new.self.items c.in-Some.is c.in_ok-push.ensures.items;
  few = search rules;
}

pub returns-clause-first : goal.returns-clause-first
returns-clause-first g c =
    let few : length c.runs.runs.items ≤ c.args.most = c.runs.invariant.few in
    let full : length c.runs.runs.items ≡ c.args.most = search rules in
    runs_end c.runs.invariant.before c.in_ok-next.next c.in_ok-next.ensures.next c.args.most c.is_none.result full c.is_none.ensures
