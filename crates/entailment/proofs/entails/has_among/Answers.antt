use Rattle.std.proofs.Common.{◌∙◌, sym}
use Rattle.struql_ast.specs.Reading.{operand_of, condition_of}
use Rattle.constraint_recheck.specs.Entails.{fixes, among}
use Rattle.entailment.proofs.Lists.{any_mapped}
use Rattle.entailment.proofs.entails.has_among.Goals as goal

pub returns : goal.returns
returns g c = c.some_among.ensures ∙ sym (any_mapped (fixes (among (g.J.Judge.tests c.args.judge.now) c.args.version c.args.values.now) (operand_of c.args.operand.now)) condition_of c.args.conditions.now)
