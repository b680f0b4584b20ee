use Rattle.condition_tests.proofs.Numbers.{order_by_second}
use Rattle.condition_tests.proofs.compare.number_to_text.Goals as goal

pub returns-in-Some : goal.returns-in-Some
returns-in-Some c = order_by_second c.args.version c.args.text.now c.in-Some.n (rw c.in-Some.is at c.in_ok-n.ensures) c.args.m.now _ c.compare_numbers.ensures
