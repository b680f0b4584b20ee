use Rattle.walks.specs.JoinsLaws.{joins_of_expression}
use Rattle.walks.proofs.automata_join_what_expressions_join.Goals as goal

pub returns : goal.returns
returns c = joins_of_expression
