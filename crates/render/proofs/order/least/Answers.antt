use Rattle.std.proofs.Common.{List, ◌+◌, Some, subst, sym, ap, ◌∙◌, take, arith}
use Rattle.std.specs.Prelude.{true}
use Rattle.std.proofs.lemmas.List.{take_all}
use Rattle.sd_value.specs.declared.Value.{Value}
use Rattle.sort_keys.specs.Keys.{key_cmp, lesser}
use Rattle.sort_keys.specs.declared.key.Key.{Key}
use Rattle.render.specs.Rows.{IsLeastKey}
use Rattle.render.proofs.Keys.{least_more}
use Rattle.render.proofs.order.least.Goals as goal

pub loop-value-preserved : goal.loop-value-preserved
loop-value-preserved c =
    let b = true in
    let is = c.lesser-least.ensures ∙ ap (λ (k : Key). lesser key_cmp c.loop-value.least (Some k)) c.in_ok-key.ensures in
    subst (IsLeastKey b (take (c.loop-value.value-index + 1) c.args.values.now)) (sym is)
    (least_more b c.args.values.now c.loop-value.value-index c.value-item.result c.loop-value.least c.loop-value-test.true c.value-item.is c.loop-value.invariant)

pub returns : goal.returns
returns c =
    subst (λ (l : List Value). IsLeastKey true l c.loop-value.least) (take_all c.loop-value.value-index c.args.values.now (omega arith)) c.loop-value.invariant
