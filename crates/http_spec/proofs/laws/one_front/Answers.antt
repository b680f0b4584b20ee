use Rattle.http_spec.proofs.HeadLemmas.{blank_apart, begins_with_token}
use Rattle.http_spec.proofs.laws.one_front.Goals as goal

pub returns-clause-apart : goal.returns-clause-apart
returns-clause-apart c = blank_apart

pub returns-clause-begins : goal.returns-clause-begins
returns-clause-begins c = begins_with_token
