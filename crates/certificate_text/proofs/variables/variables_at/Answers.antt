use Rattle.certificate_text.proofs.VariableLists.{at_number}
use Rattle.certificate_text.proofs.variables.variables_at.Goals as goal

pub returns : goal.returns
returns c = at_number c.args.all.now c.args.number c.index-all-number.result c.if-number-eq0.false c.if-number-all.false c.index-all-number.is
