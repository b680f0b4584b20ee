use Rattle.std.proofs.Common.{◌≡◌, ◌++◌, ◌∷◌, [], List, arith, subst}
use Rattle.std.specs.Prelude.{MatchOption}
use Rattle.std.proofs.lemmas.Grind.{common_steps}
use Rattle.sd_value.specs.declared.Value.{Value}
use Rattle.query_spec.specs.Rows.{value_in}
use Rattle.struql_ast.specs.Reading.{target_of}
use Rattle.site_spec.specs.Site.{IsTargetUnder}
use Rattle.sd_value.proofs.Gathering.{gathered_next, gathered_skip, gathered_end}
use Rattle.site_lookups.proofs.Free.{target_some, target_none, only_target, is_only_target}
use Rattle.site_lookups.proofs.all_rows.targets_under.Goals as goal
use Rattle.site_lookups.proofs.all_rows.targets_under.Goals.{in-Some+in_ok-push, in_default}

pub loop-row-preserved : goal.loop-row-preserved
loop-row-preserved c =
    let t = target_of c.args.target.now in
    let s = value_in c.args.variables.now c.row-item.result in
    let answer : MatchOption c.in_ok-value.field-0 ((v : Value) → IsTargetUnder s t v → ⊥) (λ v. IsTargetUnder s t v) = subst (λ (row : List Value). MatchOption c.in_ok-value.field-0 ((v : Value) → IsTargetUnder (value_in c.args.variables.now row) t v → ⊥) (λ v. IsTargetUnder (value_in c.args.variables.now row) t v)) c.values.ensures c.in_ok-value.ensures in
    elim c.match-branch-2.branch [
      | in-Some+in_ok-push w ↦
          let pushed : c.match-branch-2.values.items ≡ c.loop-row.values.items ++ w.in-Some.value ∷ [] = grind (arith, common_steps) in
          let here = target_some t s c.in_ok-value.field-0 w.in-Some.value w.in-Some.is answer in
          rw pushed (gathered_next (λ (row : List Value) (v : Value). IsTargetUnder (value_in c.args.variables.now row) (target_of c.args.target.now) v) c.args.rows.now c.loop-row.row-index c.row-item.result c.loop-row.values.items (w.in-Some.value ∷ []) c.loop-row-test.true c.row-item.is c.loop-row.invariant
          (λ v h. only_target t s w.in-Some.value v here h) (λ v h. is_only_target t s w.in-Some.value v here h))
      | in_default w ↦
          let same : c.match-branch-2.values.items ≡ c.loop-row.values.items = grind (arith, common_steps) in
          rw same (gathered_skip (λ (row : List Value) (v : Value). IsTargetUnder (value_in c.args.variables.now row) (target_of c.args.target.now) v) c.args.rows.now c.loop-row.row-index c.row-item.result c.loop-row.values.items c.loop-row-test.true c.row-item.is c.loop-row.invariant (target_none t s c.in_ok-value.field-0 w.in_default.is answer))
    ]

pub returns : goal.returns
returns c = gathered_end (λ (row : List Value) (v : Value). IsTargetUnder (value_in c.args.variables.now row) (target_of c.args.target.now) v) c.args.rows.now c.loop-row.row-index c.loop-row.values.items c.loop-row-test.false c.loop-row.invariant
