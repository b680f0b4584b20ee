use Rattle.std.proofs.Common.{rules}
use Rattle.std.specs.Int.{w64}
use Rattle.std.specs.Int.RustNames.{FitsSigned}
use Rattle.text_functions.proofs.Telling.{checked_none, checked_some, of_one}
use Rattle.text_functions.proofs.arithmetic.checked_value.Goals as goal

pub returns-in-None : goal.returns-in-None
returns-in-None c = λ z h. checked_none c.args.n z c.in-None.is h

pub returns-in-Some : goal.returns-in-Some
returns-in-Some c =
    let fits : FitsSigned w64 c.in-Some.n = search rules in
    λ z h. checked_some c.args.n c.in-Some.n z c.int_value.result c.in-Some.is h (of_one c.in-Some.n c.int_value.result fits c.int_value.ensures)
