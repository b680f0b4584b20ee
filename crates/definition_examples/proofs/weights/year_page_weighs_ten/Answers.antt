use Rattle.definition_examples.proofs.Charged.{weighs_ten, within_ten, not_eleven}
use Rattle.definition_examples.proofs.weights.year_page_weighs_ten.Goals as goal

pub returns : goal.returns
returns c = record { weight = weighs_ten; ten = within_ten; not_eleven = not_eleven }
