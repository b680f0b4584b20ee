use Rattle.render.proofs.Tests.{marks_from}
use Rattle.render.proofs.page.mark.Goals as goal

pub returns-clause-marks : goal.returns-clause-marks
returns-clause-marks c = marks_from c.args.value c.args.as_known c.args.known.now c.insert.new.self c.in_ok-insert.ensures.updates.0
