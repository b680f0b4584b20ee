use Rattle.std.specs.Prelude.{Contains}
use Rattle.constraint_recheck.proofs.Recheck.{recheck_decides}
use Rattle.constraint_recheck.proofs.certificates_are_decided.Goals as goal

pub returns : goal.returns
returns c = λ E tests are q ks k x. recheck_decides (Contains E) tests are q ks k x
