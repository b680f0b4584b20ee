use Rattle.std.specs.Prelude.{Contains}
use Rattle.constraint_recheck.proofs.Entails.{entails_decides}
use Rattle.constraint_recheck.proofs.entailment_is_decided.Goals as goal

pub returns : goal.returns
returns c = λ E tests are version S ks k kc. entails_decides (Contains E) tests are version S ks k kc
