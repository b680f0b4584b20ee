use Rattle.text_functions.proofs.Found.{cut_at_first}
use Rattle.text_functions.proofs.cuts.cut.Goals as goal

pub returns : goal.returns
returns c = cut_at_first c.args.by.now c.args.text.now c.split_once.result c.split_once.ensures.cases
