use Rattle.std.proofs.Common.{arith}
use Rattle.std.proofs.lemmas.Int.{ints, to_z-of_z}
use Rattle.text_functions.proofs.quotients.wide_remainder.Goals as goal

pub returns-then-b-lt0 : goal.returns-then-b-lt0
returns-then-b-lt0 c = grind (arith, ints, to_z-of_z, c.rem_euclid.ensures.value)
