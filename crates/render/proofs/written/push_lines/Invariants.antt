use Rattle.std.proofs.Common.{◌≡◌, ◌++◌, drop}
use Rattle.page_spec.specs.Written as spec
use Rattle.render.proofs.written.push_lines.Given as goal

abbrev pub invariant-loop-i : goal.invariant-loop-i
invariant-loop-i l = l.out.items ++ spec.in_lines (drop l.i l.text) ≡ l.initial.out.items ++ spec.in_lines l.text
