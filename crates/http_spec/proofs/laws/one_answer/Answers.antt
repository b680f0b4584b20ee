use Rattle.http_spec.proofs.OnceLemmas.{answers_once, open_answers_once}
use Rattle.http_spec.proofs.laws.one_answer.Goals as goal

pub returns-clause-open : goal.returns-clause-open
returns-clause-open g c = λ once limit stream a b x y. open_answers_once g.P.SomePages.page once limit stream a b x y

pub returns-clause-ended : goal.returns-clause-ended
returns-clause-ended g c = λ once limit stream a b x y. answers_once g.P.SomePages.page once limit stream a b x y
