use Rattle.edit_reader.proofs.Whole.{is_spelled, is_fault, is_never_past}
use Rattle.edit_reader.proofs.reading.spelled.Goals as goal

pub returns-in-Ok : goal.returns-in-Ok
returns-in-Ok c = is_spelled c.args.tokens.now c.in-Ok.edit c.in-Ok.ensures

pub returns-in-Err-Expected : goal.returns-in-Err-Expected
returns-in-Err-Expected c = (
  c.in-Err-Expected.rest.now,
  is_fault c.args.tokens.now c.in-Err-Expected.rest.now
      (rw c.in-Err-Expected.field-0-is at c.in-Err-Expected.ensures),
  c.place_of.ensures,
)

pub returns-in-Err-TooDeep : goal.returns-in-Err-TooDeep
returns-in-Err-TooDeep c = absurd (is_never_past c.args.tokens.now c.in-Err-TooDeep.rest.now
    (rw c.in-Err-TooDeep.field-0-is at c.in-Err-TooDeep.ensures))
