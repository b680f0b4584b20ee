use Rattle.source_steps.proofs.Integers.{has_value}
use Rattle.source_steps.proofs.fields_have_values.Goals as goal

pub returns : goal.returns
returns c = has_value
