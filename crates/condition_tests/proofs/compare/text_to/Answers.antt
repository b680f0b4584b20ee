use Rattle.condition_tests.proofs.compare.text_to.Goals as goal

pub returns-in_ok-order-in-Int : goal.returns-in_ok-order-in-Int
returns-in_ok-order-in-Int c = rw c.in-Int.is c.in_ok-order-in-Int.ensures
