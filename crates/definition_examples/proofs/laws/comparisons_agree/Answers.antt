use Rattle.definition_examples.proofs.Agreement.{agree}
use Rattle.definition_examples.proofs.laws.comparisons_agree.Goals as goal

pub returns : goal.returns
returns c = agree
