use Rattle.std.proofs.Common.{◌≡◌, ◌+◌, ◌≤◌}
use Rattle.fx_script.specs.Script.{tasks_from, script_of, counted}
use Rattle.fx_script.proofs.script.check_lines.Given as goal

abbrev pub invariant-loop-line : goal.invariant-loop-line
invariant-loop-line l = record {
  tasks : counted l.count (tasks_from l.many (l.count + 1) l.line-iterator) ≡ counted 0 (script_of l.many l.text);
  few : l.count ≤ 65536;
}
