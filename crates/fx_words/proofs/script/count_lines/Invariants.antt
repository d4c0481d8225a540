use Rattle.std.proofs.Common.{◌≡◌, ◌+◌, ◌≤◌}
use Rattle.fx_words.specs.FullScript.{full_counted, full_script_of, full_tasks_from}
use Rattle.fx_words.proofs.script.count_lines.Given as goal

abbrev pub invariant-loop-line : goal.invariant-loop-line
invariant-loop-line l = record {
  tasks : full_counted l.count (full_tasks_from l.built l.many (l.count + 1) l.line-iterator) ≡ full_counted 0 (full_script_of l.built l.many l.text);
  few : l.count ≤ 65536;
}
