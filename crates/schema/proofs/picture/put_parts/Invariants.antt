use Rattle.std.proofs.Common.{◌≡◌, ◌++◌, take}
use Rattle.std.specs.List.{flat_map}
use Rattle.schema.specs.Lines.{row_statements}
use Rattle.schema.proofs.picture.put_parts.Given as goal

abbrev pub invariant-loop-function : goal.invariant-loop-function
invariant-loop-function l = l.out.items ≡ l.initial.out.items ++ flat_map (row_statements l.edges) (take l.function-index l.functions)
