use Rattle.condition_tests.proofs.compare.number_to.Goals as goal

pub returns-in_ok-order-in-Text : goal.returns-in_ok-order-in-Text
returns-in_ok-order-in-Text c = rw c.in-Text.is c.in_ok-order-in-Text.ensures
