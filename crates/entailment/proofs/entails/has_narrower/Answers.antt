use Rattle.std.proofs.Common.{◌∙◌, sym}
use Rattle.struql_ast.specs.Reading.{operand_of, condition_of}
use Rattle.rpe.specs.Reading.{regex_of}
use Rattle.constraint_recheck.specs.Entails.{narrower}
use Rattle.entailment.proofs.Lists.{any_mapped}
use Rattle.entailment.proofs.entails.has_narrower.Goals as goal

pub returns : goal.returns
returns g c = c.some_narrower.ensures ∙ sym (any_mapped (narrower (g.J.Judge.tests c.args.judge.now) c.args.version (operand_of c.args.one.now) (regex_of c.args.expression.now) (operand_of c.args.other.now)) condition_of c.args.conditions.now)
