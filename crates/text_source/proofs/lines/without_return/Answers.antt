use Rattle.std.proofs.Common.{◌∙◌, ◌++◌, ◌∷◌, [], sym, ap}
use Rattle.text_source.specs.Cuts.{without_return}
use Rattle.text_source.proofs.Blanks.{return_last, other_last}
use Rattle.text_source.proofs.lines.without_return.Goals as goal

pub returns-then-b-eq13 : goal.returns-then-b-eq13
returns-then-b-eq13 c = rw (c.in-Some.ensures.cases.0, c.if-b-eq13.true) (sym (return_last c.in-Some.front.now))

pub returns-else-b-eq13 : goal.returns-else-b-eq13
returns-else-b-eq13 c = rw c.in-Some.ensures.cases.0 (sym (other_last c.in-Some.front.now c.in-Some.b.now c.if-b-eq13.false))
