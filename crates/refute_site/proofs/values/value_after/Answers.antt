use Rattle.std.proofs.Common.{◌≡◌}
use Rattle.std.proofs.lemmas.Result.{IfOk-weaker}
use Rattle.counterexample_spec.specs.Values.{own, value_after}
use Rattle.refute_site.specs.Patterns.{pattern_of}
use Rattle.refute_site.proofs.Chosen.{from_given, from_tested, from_own}
use Rattle.refute_site.proofs.values.value_after.Goals as goal

pub returns-in-Some : goal.returns-in-Some
returns-in-Some c =
    from_given (pattern_of c.args.pattern.now) c.args.pattern.now.chain.now.variables c.requires c.args.known.now c.args.variable.now c.in_ok-value.field-0 c.in-Some.value c.in_ok-value.ensures c.in-Some.is

pub returns-in-Some-2 : goal.returns-in-Some-2
returns-in-Some-2 c =
    from_tested (pattern_of c.args.pattern.now) c.args.pattern.now.chain.now.variables c.requires c.args.known.now c.args.variable.now c.in_ok-value.field-0 c.in_ok-value-2.field-0 c.in-Some-2.value c.in_ok-value.ensures c.in_default.is c.in_ok-value-2.ensures c.in-Some-2.is

pub returns : goal.returns
returns c =
    IfOk-weaker c.own.result (λ v. v ≡ own (pattern_of c.args.pattern.now) c.args.variable.now) (λ v. v ≡ value_after (pattern_of c.args.pattern.now) c.args.known.now c.args.variable.now)
    (λ v e. from_own (pattern_of c.args.pattern.now) c.args.pattern.now.chain.now.variables c.requires c.args.known.now c.args.variable.now c.in_ok-value.field-0 c.in_ok-value-2.field-0 v c.in_ok-value.ensures c.in_default.is c.in_ok-value-2.ensures c.in_default-2.is e)
    c.own.ensures
