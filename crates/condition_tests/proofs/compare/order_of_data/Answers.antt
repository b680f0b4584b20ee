use Rattle.condition_tests.proofs.compare.order_of_data.Goals as goal

pub returns-in_ok-order-in-Int : goal.returns-in_ok-order-in-Int
returns-in_ok-order-in-Int c = rw c.in-Int.is c.in_ok-order-in-Int.ensures

pub returns-in_ok-order-in-Text : goal.returns-in_ok-order-in-Text
returns-in_ok-order-in-Text c = rw c.in-Text.is c.in_ok-order-in-Text.ensures
