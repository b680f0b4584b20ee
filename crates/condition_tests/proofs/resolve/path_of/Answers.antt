use Rattle.condition_tests.proofs.Atoms.{path_atom}
use Rattle.condition_tests.proofs.resolve.path_of.Goals as goal

pub returns-in_ok-relation-in-Expression-clause-atom : goal.returns-in_ok-relation-in-Expression-clause-atom
returns-in_ok-relation-in-Expression-clause-atom c = rw c.in-Expression.is (λ version. path_atom version c.args.variables.now _ _ _ _ _ _ c.in_ok-first.ensures.place c.in_ok-last.ensures.place c.in_ok-relation-in-Expression.ensures)
