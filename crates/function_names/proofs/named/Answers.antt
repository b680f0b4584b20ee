use Rattle.std.proofs.Common.{ap, sym, ◌∙◌, arith}
use Rattle.function_spec.specs.declared.Function.TheVariants.{Lower}
use Rattle.function_names.specs.Names.{name_of}
use Rattle.function_names.proofs.Places.{place}
use Rattle.function_names.proofs.named.Goals as goal

pub returns : goal.returns
returns c = λ f e. let at = place f in c.loop-function.invariant at.0 Lower (omega (arith, at.1, c.loop-function-test.false)) (e ∙ ap name_of (sym at.2))
