use Rattle.std.proofs.Common.{take, map}
use Rattle.std.specs.Prelude.{Contains}
use Rattle.std.specs.List.{flat_map}
use Rattle.query_spec.specs.Mentions.{operand_names}
use Rattle.struql_ast.specs.Reading.{operand_of}
use Rattle.site_lookups.proofs.wanted.is_in_any.Given as goal

abbrev pub invariant-loop-operand : goal.invariant-loop-operand
invariant-loop-operand l = Contains (flat_map operand_names (map operand_of (take l.operand-index l.operands))) l.variable.name → ⊥
