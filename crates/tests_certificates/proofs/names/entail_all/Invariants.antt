use Rattle.std.proofs.Common.{◌≡◌, drop}
use Rattle.std.specs.Prelude.{map}
use Rattle.std.specs.List.{list_all}
use Rattle.query_spec.specs.Query.{Condition}
use Rattle.struql_ast.specs.Reading.{condition_of}
use Rattle.constraint_spec.specs.Use.{rename, name_for}
use Rattle.constraint_recheck.specs.Entails.{entails}
use Rattle.tests_certificates.proofs.names.entail_all.Given as goal

abbrev pub invariant-loop-condition : goal.invariant-loop-condition
invariant-loop-condition g l =
    let passes = λ (d : Condition). entails (g.J.Judge.tests l.judge) l.version (map condition_of l.given) (rename (name_for l.variables l.names) d) in
    list_all passes (map condition_of (drop l.condition-index l.conditions)) ≡ list_all passes (map condition_of l.conditions)
