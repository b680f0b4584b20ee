use Rattle.condition_tests.proofs.Atoms.{one_of_atom}
use Rattle.condition_tests.proofs.resolve.atom_of.Goals as goal

pub returns-in_ok-copied_list-in-OneOf-clause-atom : goal.returns-in_ok-copied_list-in-OneOf-clause-atom
returns-in_ok-copied_list-in-OneOf-clause-atom c =
    rw c.in-OneOf.is (λ version. one_of_atom version c.args.variables.now _ _ _ _ c.in_ok-place-in-OneOf.ensures.place
    (rw (c.in_ok-copied_list-in-OneOf.ensures, c.items.ensures) at c.of-constants.ensures))
