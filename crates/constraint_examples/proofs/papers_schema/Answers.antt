use Rattle.std.proofs.Common.{refl, arith}
use Rattle.std.proofs.lemmas.Fmt.{decimal_digit}
use Rattle.constraint_examples.proofs.papers_schema.Goals as goal

pub returns : goal.returns
returns c = rw (decimal_digit 1 (omega arith), decimal_digit 2 (omega arith)) refl
