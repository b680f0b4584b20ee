use Rattle.std.proofs.Common.{ap}
use Rattle.rpe.specs.Reading.{regex_of}
use Rattle.inclusion.proofs.Right.{labels_are}
use Rattle.inclusion.proofs.table.is_included.Goals as goal

pub returns-in-Label-other : goal.returns-in-Label-other
returns-in-Label-other c =
    labels_are (regex_of c.args.one.now) (regex_of c.args.other.now) c.in-Label.l c.in-Label-other.m c.eq.result (ap regex_of c.in-Label.is) (ap regex_of c.in-Label-other.is) c.eq.ensures
