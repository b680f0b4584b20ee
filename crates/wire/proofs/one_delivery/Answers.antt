use Rattle.wire.proofs.AccountLemmas.{gain_told}
use Rattle.wire.proofs.one_delivery.Goals as goal

pub returns : goal.returns
returns c = λ a replies. gain_told a replies
