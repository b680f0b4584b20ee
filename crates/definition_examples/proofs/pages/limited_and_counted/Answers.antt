use Rattle.definition_examples.proofs.Keys.{first_alone, limit_past_all, two_of_them}
use Rattle.definition_examples.proofs.pages.limited_and_counted.Goals as goal

pub returns : goal.returns
returns c = record { first = first_alone; past_all = limit_past_all; counted = two_of_them }
