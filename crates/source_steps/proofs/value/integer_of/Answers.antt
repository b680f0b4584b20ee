use Rattle.std.proofs.Common.{refl, false}
use Rattle.source_steps.proofs.Integers.{not_begun, not_text, not_parsed}
use Rattle.source_steps.proofs.value.integer_of.Goals as goal

pub returns-then-not-may_be_integer : goal.returns-then-not-may_be_integer
returns-then-not-may_be_integer c = rw (not_begun c.args.field.now false c.if-not-may_be_integer.ensures refl) refl

pub returns-in_default : goal.returns-in_default
returns-in_default c = rw (not_text c.args.field.now c.in_default.ensures.cases.0) refl

pub returns-in_default-parse : goal.returns-in_default-parse
returns-in_default-parse c = rw (not_parsed c.args.field.now c.in_default-parse.field-0 (rw c.in-Ok.ensures.cases.0 at c.in_default-parse.ensures.value.0)) refl
