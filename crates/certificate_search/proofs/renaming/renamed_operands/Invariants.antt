use Rattle.std.proofs.Common.{◌≡◌, take}
use Rattle.std.specs.Prelude.{map}
use Rattle.struql_ast.specs.Reading.{operand_of}
use Rattle.constraint_spec.specs.Use.{rename_operand, name_for}
use Rattle.certificate_search.proofs.renaming.renamed_operands.Given as goal

abbrev pub invariant-loop-operand : goal.invariant-loop-operand
invariant-loop-operand l = map operand_of l.all.items ≡ map (rename_operand (name_for l.variables l.names)) (map operand_of (take l.operand-index l.operands))
