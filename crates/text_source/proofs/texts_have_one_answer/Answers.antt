use Rattle.text_source.specs.Once.{has_one_answer}
use Rattle.text_source.proofs.texts_have_one_answer.Goals as goal

pub returns : goal.returns
returns c = has_one_answer
