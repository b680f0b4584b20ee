use Rattle.condition_tests.proofs.Numbers.{order_by_first}
use Rattle.condition_tests.proofs.compare.text_to_number.Goals as goal

pub returns-in-Some : goal.returns-in-Some
returns-in-Some c = order_by_first c.args.version c.args.text.now c.in-Some.m (rw c.in-Some.is at c.in_ok-m.ensures) c.args.n.now _ c.compare_numbers.ensures
