use Rattle.std.proofs.Common.{◌≡◌, ◌<◌, ◌∙◌, Some, length, arith, ap, sym}
use Rattle.std.proofs.lemmas.Option.{slice_get-get_or}
use Rattle.struql_ast.specs.Reading.{condition_of}
use Rattle.query_parts.proofs.Same.{condition_decides}
use Rattle.planned_goals.proofs.Same.{same_images, same_more}
use Rattle.planned_goals.proofs.plans.are_same_conditions.Goals as goal

pub loop-i-preserved : goal.loop-i-preserved
loop-i-preserved c =
    let long : length c.args.some.now ≡ length c.args.others.now = cc in
    let within : c.loop-i.i < length c.args.others.now = omega (arith, long, c.loop-i-test.true) in
    let p = c.index-some-i.result in
    let q = c.index-others-i.result in
    same_more condition_of c.args.some.now c.args.others.now c.loop-i.i p q
    (slice_get-get_or c.args.some.now c.loop-i.i p c.loop-i-test.true ∙ ap Some (sym c.index-some-i.is))
    (slice_get-get_or c.args.others.now c.loop-i.i q within ∙ ap Some (sym c.index-others-i.is))
    ((condition_decides (condition_of p) (condition_of q)).0 (sym c.same_conditions.ensures ∙ c.if-not-same_conditions.false)) c.loop-i.invariant

pub returns : goal.returns
returns c told =
    let long : length c.args.some.now ≡ length c.args.others.now = cc in
    same_images condition_of _ _ long (λ k a b within s t. let before : k < c.loop-i.i = omega (arith, within, c.loop-i-test.false) in c.loop-i.invariant k a b before s t)
