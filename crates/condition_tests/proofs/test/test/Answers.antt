use Rattle.condition_tests.proofs.Decided.{decides_one, decides_two}
use Rattle.condition_tests.proofs.test.test.Goals as goal

pub returns-in_ok-has-in-Some : goal.returns-in_ok-has-in-Some
returns-in_ok-has-in-Some g c = rw c.in-One.is (decides_one (g.S.Store.graph c.args.store.now) c.args.version _ _ _ _ _ c.in-Some.ensures c.in_ok-has-in-Some.ensures)

pub returns-in_ok-relates-in-Some-Some : goal.returns-in_ok-relates-in-Some-Some
returns-in_ok-relates-in-Some-Some g c = rw c.in-Two.is (decides_two (g.S.Store.graph c.args.store.now) c.args.version _ _ _ _ _ _ _ c.in-Some-Some.ensures c.in-Some-Some.ensures' c.in_ok-relates-in-Some-Some.ensures)
