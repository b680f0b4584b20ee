use Rattle.std.proofs.Common.{◌∙◌, sym}
use Rattle.struql_ast.specs.Reading.{operand_of, condition_of}
use Rattle.constraint_recheck.specs.Entails.{fewer}
use Rattle.entailment.proofs.Lists.{any_mapped}
use Rattle.entailment.proofs.entails.has_fewer.Goals as goal

pub returns : goal.returns
returns g c = c.some_fewer.ensures ∙ sym (any_mapped (fewer (g.J.Judge.tests c.args.judge.now) c.args.version (operand_of c.args.operand.now) c.args.values.now) condition_of c.args.conditions.now)
