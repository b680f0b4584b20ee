use Rattle.text_functions.proofs.Marks.{numeral_told}
use Rattle.text_functions.proofs.decimals.is_numeral.Goals as goal

pub returns : goal.returns
returns c = numeral_told c.args.text.now c.are_digits.result c.is_empty.result c.are_digits.ensures c.is_empty.ensures c.if-is_empty.false
