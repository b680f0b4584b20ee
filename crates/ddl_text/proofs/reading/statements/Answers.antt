use Rattle.ddl_text.proofs.Whole.{is_spelled, is_only, is_fault, is_none, is_never_past}
use Rattle.ddl_text.proofs.reading.statements.Goals as goal

pub returns-in-Ok-clause-exact : goal.returns-in-Ok-clause-exact
returns-in-Ok-clause-exact c = is_spelled c.args.tokens.now c.in-Ok.statements.items c.in-Ok.ensures

pub returns-in-Ok-clause-only : goal.returns-in-Ok-clause-only
returns-in-Ok-clause-only c = is_only c.args.tokens.now c.in-Ok.statements.items c.in-Ok.ensures

pub returns-in-Err-Expected-clause-exact : goal.returns-in-Err-Expected-clause-exact
returns-in-Err-Expected-clause-exact c =
    (c.in-Err-Expected.rest.now, is_fault c.args.tokens.now c.in-Err-Expected.rest.now (rw c.in-Err-Expected.field-0-is at c.in-Err-Expected.ensures), c.place_of.ensures)

pub returns-in-Err-Expected-clause-only : goal.returns-in-Err-Expected-clause-only
returns-in-Err-Expected-clause-only c = is_none c.args.tokens.now c.in-Err-Expected.rest.now (rw c.in-Err-Expected.field-0-is at c.in-Err-Expected.ensures)

pub returns-in-Err-TooDeep-clause-exact : goal.returns-in-Err-TooDeep-clause-exact
returns-in-Err-TooDeep-clause-exact c = absurd (is_never_past c.args.tokens.now c.in-Err-TooDeep.rest.now (rw c.in-Err-TooDeep.field-0-is at c.in-Err-TooDeep.ensures))

pub returns-in-Err-TooDeep-clause-only : goal.returns-in-Err-TooDeep-clause-only
returns-in-Err-TooDeep-clause-only c = absurd (is_never_past c.args.tokens.now c.in-Err-TooDeep.rest.now (rw c.in-Err-TooDeep.field-0-is at c.in-Err-TooDeep.ensures))
