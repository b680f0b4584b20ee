use Rattle.std.proofs.Common.{refl}
use Rattle.query_spec.proofs.VariableNumbers.{names_equal, names_differ}
use Rattle.skolem.proofs.Declared.{declared_here, undeclared_more, undeclared_all}
use Rattle.skolem.proofs.bound.is_declared.Goals as goal

pub returns-then-eq : goal.returns-then-eq
returns-then-eq c = (λ t. declared_here c.args.variables.now c.args.name.now c.loop-variable.variable-index c.variable-item.result c.loop-variable-test.true c.variable-item.is (names_equal _ _ _ c.eq.ensures c.if-eq.true), λ k. refl)

pub loop-variable-preserved : goal.loop-variable-preserved
loop-variable-preserved c = undeclared_more c.args.variables.now c.args.name.now c.loop-variable.variable-index c.variable-item.result c.loop-variable-test.true c.variable-item.is (names_differ _ _ _ c.eq.ensures c.if-eq.false) c.loop-variable.invariant

pub returns : goal.returns
returns c = (λ t. cc, λ k. absurd (undeclared_all c.args.variables.now c.args.name.now c.loop-variable.variable-index c.loop-variable-test.false c.loop-variable.invariant k))
