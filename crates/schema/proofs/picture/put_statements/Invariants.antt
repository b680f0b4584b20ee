use Rattle.std.proofs.Common.{◌≡◌, ◌++◌, take}
use Rattle.std.specs.List.{flat_map}
use Rattle.schema.specs.Lines.{row_statement}
use Rattle.schema.proofs.picture.put_statements.Given as goal

abbrev pub invariant-loop-edge : goal.invariant-loop-edge
invariant-loop-edge l = l.out.items ≡ l.initial.out.items ++ flat_map (row_statement l.function) (take l.edge-index l.edges)
