use Rattle.std.proofs.Common.{take}
use Rattle.std.specs.Prelude.{IsTrue, All, ◌||◌}
use Rattle.page_spec.specs.Address.{is_letter, is_digit}
use Rattle.address.proofs.named.are_in_names.Given as goal

abbrev pub invariant-loop-b : goal.invariant-loop-b
invariant-loop-b l = All (λ c. IsTrue (is_letter c || is_digit c)) (take l.b-index l.text)
