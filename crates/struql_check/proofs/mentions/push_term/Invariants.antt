use Rattle.std.proofs.Common.{◌≡◌, ◌++◌, take}
use Rattle.std.specs.List.{flat_map}
use Rattle.struql_check.specs.Scope.{operand_mentions}
use Rattle.struql_check.specs.declared.mentions.Role.TheVariants.{Other}
use Rattle.struql_check.proofs.mentions.push_term.Given as goal

abbrev pub invariant-loop-operand : goal.invariant-loop-operand
invariant-loop-operand l = l.found.items ≡ l.initial.found.items ++ flat_map (operand_mentions Other) (take l.operand-index l.operand-items)
