use Rattle.std.proofs.Common.{◌≡◌, drop}
use Rattle.std.specs.Prelude.{map}
use Rattle.std.specs.List.{list_all}
use Rattle.struql_ast.specs.Reading.{condition_of}
use Rattle.constraint_recheck.specs.Search.{due_condition}
use Rattle.certificate_search.proofs.due.fit_conditions.Given as goal

abbrev pub invariant-loop-place : goal.invariant-loop-place
invariant-loop-place g l =
    let fits = due_condition l.search.variables.now (g.J.Judge.tests l.search.judge.now) l.search.version (map condition_of l.search.given.now) l.names in
    list_all fits (map condition_of (drop l.place l.search.conditions.now)) ≡ list_all fits (map condition_of l.search.conditions.now)
