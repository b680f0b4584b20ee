use Rattle.rpe.specs.Reading.{regex_of}
use Rattle.inclusion.proofs.Kept.{found_scanned}
use Rattle.inclusion.proofs.known_expressions.add.Goals as goal

pub returns-else-not-is_among-clause-there : goal.returns-else-not-is_among-clause-there
returns-else-not-is_among-clause-there c =
    found_scanned c.args.all.now.items c.deref.result.now (regex_of c.args.expression.now) c.is_among.result c.deref.ensures.value c.is_among.ensures c.if-not-is_among.false
