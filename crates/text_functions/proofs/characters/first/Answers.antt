use Rattle.std.proofs.Common.{◌∙◌}
use Rattle.text_functions.proofs.Passing.{no_longer, boundary, front_is}
use Rattle.text_functions.proofs.characters.first.Goals as goal

pub overflow_sub-text : goal.overflow_sub-text
overflow_sub-text c = no_longer _ _ c.args.n c.utf8.text c.rest-after.ensures

pub split_at-requires : goal.split_at-requires
split_at-requires c = boundary _ _ c.args.n c.utf8.text c.rest-after.ensures c.rest-after.utf8

pub returns : goal.returns
returns c = c.split_at.ensures.front ∙ front_is _ _ c.args.n c.utf8.text c.rest-after.ensures
