use Rattle.std.proofs.Common.{arith, List, subst, ◌≡◌}
use Rattle.std.specs.Prelude.{Err}
use Rattle.std.proofs.lemmas.Result.{err_from_is_err_and}
use Rattle.query_spec.specs.Query.{Condition as PlainCondition}
use Rattle.query_spec.specs.Rows.{value_in}
use Rattle.counterexample_spec.specs.Frozen.{all_asked}
use Rattle.refute_site.specs.Adding.{building_all, AddsAll}
use Rattle.refute_site.specs.Patterns.{copy_of}
use Rattle.refute_site.proofs.Stated.{condition_added, condition_stopped, conditions_added}
use Rattle.refute_site.proofs.conditions.add_conditions.Goals as goal

pub loop-k-preserved : goal.loop-k-preserved
loop-k-preserved c =
    condition_added (value_in c.args.pattern.now.chain.now.variables c.args.values.now) (copy_of c.args.pattern.now.copy) c.args.pattern.now.repeats c.conditions-conditions.result.now c.loop-k.k c.index-conditions-k.result (omega arith) c.index-conditions-k.is c.args.builder.now c.loop-k.builder c.add_condition.new.builder c.loop-k.invariant c.in_ok-add_condition.ensures

pub returns-in_err-add_condition : goal.returns-in_err-add_condition
returns-in_err-add_condition c =
    let p = err_from_is_err_and c.from_residual.result c.from_residual.ensures.1 in
    rw (p.1, p.2)
    (subst (λ (cs : List PlainCondition). AddsAll (all_asked (value_in c.args.pattern.now.chain.now.variables c.args.values.now) (copy_of c.args.pattern.now.copy) c.args.pattern.now.repeats 0 cs) c.args.builder.now c.add_condition.new.builder (Err c.in_err-add_condition.field-0.0)) c.conditions-conditions.ensures
    (condition_stopped (value_in c.args.pattern.now.chain.now.variables c.args.values.now) (copy_of c.args.pattern.now.copy) c.args.pattern.now.repeats c.conditions-conditions.result.now c.loop-k.k c.index-conditions-k.result (omega arith) c.index-conditions-k.is c.args.builder.now c.loop-k.builder c.add_condition.new.builder c.in_err-add_condition.field-0.0 c.loop-k.invariant c.in_err-add_condition.ensures))

pub returns : goal.returns
returns c =
    subst (λ (cs : List PlainCondition). c.loop-k.builder ≡ building_all (all_asked (value_in c.args.pattern.now.chain.now.variables c.args.values.now) (copy_of c.args.pattern.now.copy) c.args.pattern.now.repeats 0 cs) c.args.builder.now) c.conditions-conditions.ensures
    (conditions_added (value_in c.args.pattern.now.chain.now.variables c.args.values.now) (copy_of c.args.pattern.now.copy) c.args.pattern.now.repeats c.conditions-conditions.result.now c.loop-k.k c.args.builder.now c.loop-k.builder (omega arith) c.loop-k.invariant)
