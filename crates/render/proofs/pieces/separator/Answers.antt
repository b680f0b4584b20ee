use Rattle.std.proofs.Common.{subst, IfOk}
use Rattle.render.specs.Room.{Adds}
use Rattle.render.proofs.Joins.{separated}
use Rattle.render.proofs.pieces.separator.Goals as goal

pub returns-in-Some : goal.returns-in-Some
returns-in-Some c = subst (λ t. IfOk c.add_copy.result (λ x. Adds c.args.out.now c.add_copy.new.out t)) (separated c.args.delimiter.now c.in-Some.text c.args.number c.in-Some.is c.if-number-gt0.true) c.add_copy.ensures
