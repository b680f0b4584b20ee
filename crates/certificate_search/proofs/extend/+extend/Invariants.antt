use Rattle.std.proofs.Common.{◌≡◌, ◌+◌, drop, length}
use Rattle.std.specs.Prelude.{map, option_copied, option_map}
use Rattle.struql_ast.specs.Reading.{condition_of, term_of, link_of}
use Rattle.constraint_recheck.specs.Options.{first_of, tried_until}
use Rattle.constraint_recheck.specs.Search.{may_go_on}
use Rattle.certificate_search.proofs.Extending.{extend_by, by_tried}
use Rattle.certificate_search.proofs.extend.+extend.Given as goal

abbrev pub invariant-loop-target : goal.invariant-loop-target
invariant-loop-target g l =
    let test =
    may_go_on l.search.variables.now (g.J.Judge.tests l.search.judge.now) l.search.version (map condition_of l.search.given.now)
    (map condition_of l.search.conditions.now) (link_of l.search.link.now) (term_of l.search.source.now) (option_map term_of (option_copied l.search.target)) in
    let targets = l.search.targets.now in
    let goes = extend_by test targets l.rest l.variable l.initial.names.items in
    let tries = by_tried test targets l.rest l.variable l.initial.names.items in
    (l.names.items ≡ l.initial.names.items)
    × (first_of goes (drop l.target-index targets) ≡ first_of goes targets)
    × (l.initial.budget + tried_until goes tries (drop l.target-index targets) ≡ l.budget + tried_until goes tries targets)

abbrev pub decreases-extend : goal.decreases-extend
decreases-extend g l = length l.left.now
