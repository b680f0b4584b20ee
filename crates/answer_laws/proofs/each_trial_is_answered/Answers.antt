use Rattle.answer_laws.proofs.Trials.{trial_answer}
use Rattle.answer_laws.proofs.each_trial_is_answered.Goals as goal

pub returns : goal.returns
returns c = trial_answer
