use Rattle.text_claims.proofs.markup.step.Goals as goal

pub returns-in-Value : goal.returns-in-Value
returns-in-Value c = rw c.in-Value.is (c.step_in_value.ensures c.args.later.now)
