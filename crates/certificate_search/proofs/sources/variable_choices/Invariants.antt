use Rattle.std.proofs.Common.{◌≡◌, ◌∷◌, take}
use Rattle.std.specs.Prelude.{map}
use Rattle.query_spec.specs.declared.Variable.{Variable}
use Rattle.query_spec.specs.Query.{variable}
use Rattle.struql_ast.specs.Reading.{operand_of}
use Rattle.certificate_search.proofs.sources.variable_choices.Given as goal

abbrev pub invariant-loop-target : goal.invariant-loop-target
invariant-loop-target l = map operand_of l.all.items ≡ variable l.name ∷ map (λ (v : Variable). variable v.name) (take l.target-index l.target-items)
