use Rattle.std.proofs.Common.{◌≡◌, ◌++◌, take}
use Rattle.page_spec.specs.Written as spec
use Rattle.render.proofs.written.push_json.Given as goal

abbrev pub invariant-loop-byte : goal.invariant-loop-byte
invariant-loop-byte l = l.out.items ≡ l.initial.out.items ++ spec.in_json (take l.byte-index l.text)
