use Rattle.std.proofs.Common.{◌≤◌, length, subst}
use Rattle.struql_check.proofs.Exactly.{chain_few, chain_past}
use Rattle.struql_check.proofs.passes.first_of_chain.Goals as goal

pub returns-in-Few : goal.returns-in-Few
returns-in-Few c = λ ms are.
    let few = rw c.in-Few.is at are in
    chain_few ms (subst (λ l. length l ≤ 32) few.0 few.1)

pub returns-in-Many : goal.returns-in-Many
returns-in-Many c = λ ms are. chain_past ms _ (rw c.in-Many.is at are)
