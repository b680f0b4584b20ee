use Rattle.std.proofs.Common.{◌≡◌, ◌≤◌, ◌++◌, take, drop}
use Rattle.page_spec.specs.Show as spec
use Rattle.render.proofs.html.push_escaped.Given as goal

abbrev pub invariant-loop-i : goal.invariant-loop-i
invariant-loop-i l = record {
  within : l.start ≤ l.i;
  so_far : l.out.items ++ drop l.start (take l.i l.text) ≡ l.initial.out.items ++ spec.escaped (take l.i l.text);
}
