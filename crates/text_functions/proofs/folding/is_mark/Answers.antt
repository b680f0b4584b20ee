use Rattle.std.proofs.Common.{rules}
use Rattle.function_spec.specs.Folding.{is_mark}
use Rattle.text_functions.proofs.folding.is_mark.Goals as goal

pub returns : goal.returns
unfolding is_mark
returns c = search rules
