use Rattle.std.proofs.Common.{◌∙◌, sym}
use Rattle.struql_ast.specs.Reading.{condition_of}
use Rattle.constraint_recheck.specs.Entails.{negates}
use Rattle.entailment.proofs.Lists.{any_mapped}
use Rattle.entailment.proofs.entails.has_negated.Goals as goal

pub returns : goal.returns
returns g c = c.some_negated.ensures ∙ sym (any_mapped (negates (g.J.Judge.tests c.args.judge.now) c.args.version (condition_of c.args.condition.now)) condition_of c.args.conditions.now)
