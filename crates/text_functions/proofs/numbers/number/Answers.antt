use Rattle.text_functions.proofs.Digits.{spelled_is_text}
use Rattle.text_functions.proofs.numbers.number.Goals as goal

pub returns-in_default : goal.returns-in_default
returns-in_default c = λ z spelled fits. c.in_default.ensures.cases.0 (spelled_is_text c.args.text.now z spelled)
