use Rattle.query_scoping.proofs.Whole.{all_safe}
use Rattle.query_scoping.proofs.faultless_is_safe.Goals as goal

pub returns : goal.returns
returns c = all_safe
