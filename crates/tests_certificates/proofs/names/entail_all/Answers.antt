use Rattle.std.proofs.Common.{sym, ◌∙◌}
use Rattle.std.specs.Prelude.{map}
use Rattle.query_spec.specs.Query.{Condition}
use Rattle.struql_ast.specs.Reading.{condition_of}
use Rattle.constraint_spec.specs.Use.{rename, name_for}
use Rattle.constraint_recheck.specs.Entails.{entails}
use Rattle.tests_certificates.proofs.Steps.{all_false, all_true}
use Rattle.tests_certificates.proofs.names.entail_all.Goals as goal

pub returns-then-not-branch : goal.returns-then-not-branch
returns-then-not-branch g c =
    let passes = λ (d : Condition). entails (g.J.Judge.tests c.args.judge.now) c.args.version (map condition_of c.args.given.now) (rename (name_for c.args.variables.now c.args.names.now) d) in
    let e = all_false passes condition_of c.args.conditions.now c.loop-condition.condition-index c.condition-item.result c.loop-condition-test.true c.condition-item.is (cc c.in_ok-entail.ensures) in
    sym e ∙ c.loop-condition.invariant

pub loop-condition-preserved : goal.loop-condition-preserved
loop-condition-preserved g c =
    let passes = λ (d : Condition). entails (g.J.Judge.tests c.args.judge.now) c.args.version (map condition_of c.args.given.now) (rename (name_for c.args.variables.now c.args.names.now) d) in
    let e = all_true passes condition_of c.args.conditions.now c.loop-condition.condition-index c.condition-item.result c.loop-condition-test.true c.condition-item.is (cc c.in_ok-entail.ensures) in
    sym e ∙ c.loop-condition.invariant
