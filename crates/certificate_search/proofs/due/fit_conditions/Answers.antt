use Rattle.std.proofs.Common.{get_or, ap, sym, ◌∙◌}
use Rattle.std.specs.Prelude.{map}
use Rattle.query_spec.specs.Mentions.{names}
use Rattle.struql_ast.specs.Reading.{condition_of}
use Rattle.constraint_recheck.specs.Search.{depth, due_condition}
use Rattle.certificate_search.proofs.RenamedSteps.{mapped_at, all_false, all_true}
use Rattle.certificate_search.proofs.due.fit_conditions.Goals as goal

pub fits_condition-requires : goal.fits_condition-requires
fits_condition-requires g c =
    ap (λ ds. get_or ds c.loop-place.place 0) c.requires
    ∙ mapped_at (λ d. depth c.args.search.now.variables.now (names d)) condition_of c.args.search.now.conditions.now c.loop-place.place c.condition-item.result 0 c.loop-place-test.true c.condition-item.is

pub returns-then-not-branch : goal.returns-then-not-branch
returns-then-not-branch g c =
    let s = c.args.search.now in
    let fits = due_condition s.variables.now (g.J.Judge.tests s.judge.now) s.version (map condition_of s.given.now) c.args.names.now in
    let e = all_false fits condition_of s.conditions.now c.loop-place.place c.condition-item.result c.loop-place-test.true c.condition-item.is (cc c.in_ok-fits_condition.ensures) in
    sym e ∙ c.loop-place.invariant

pub loop-place-preserved : goal.loop-place-preserved
loop-place-preserved g c =
    let s = c.args.search.now in
    let fits = due_condition s.variables.now (g.J.Judge.tests s.judge.now) s.version (map condition_of s.given.now) c.args.names.now in
    let e = all_true fits condition_of s.conditions.now c.loop-place.place c.condition-item.result c.loop-place-test.true c.condition-item.is (cc c.in_ok-fits_condition.ensures) in
    sym e ∙ c.loop-place.invariant
