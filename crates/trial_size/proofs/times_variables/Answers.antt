use Rattle.std.proofs.Common.{arith, ◌*◌, ℕ, subst, take}
use Rattle.std.specs.Prelude.{map}
use Rattle.query_spec.specs.declared.Variable.{Variable}
use Rattle.struql_ast.specs.Reading.{condition_of}
use Rattle.counterexample_spec.specs.Trial.{product, free_ways}
use Rattle.trial_size.specs.Cut.{IsCut}
use Rattle.trial_size.proofs.Cut.{one_more, all_there}
use Rattle.trial_size.proofs.times_variables.Goals as goal

pub loop-variable-preserved : goal.loop-variable-preserved
loop-variable-preserved c = λ n cut.
    let f : Variable → ℕ = free_ways c.args.graph.now (map condition_of c.args.conditions.now) in
    one_more f c.args.variables.now n c.loop-variable.variable-index c.variable-item.result c.times-rows.result (omega arith) c.variable-item.is
    (subst (λ (w : ℕ). IsCut (n * product (map f (take c.loop-variable.variable-index c.args.variables.now)) * w) c.times-rows.result) c.free.ensures
    (c.times-rows.ensures (n * product (map f (take c.loop-variable.variable-index c.args.variables.now))) (c.loop-variable.invariant n cut)))

pub returns : goal.returns
returns c = λ n cut.
    let f : Variable → ℕ = free_ways c.args.graph.now (map condition_of c.args.conditions.now) in
    all_there f c.args.variables.now n c.loop-variable.variable-index c.loop-variable.rows (omega arith) (c.loop-variable.invariant n cut)
