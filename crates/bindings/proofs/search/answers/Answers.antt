use Rattle.bindings.proofs.Found.{none_outside}
use Rattle.bindings.proofs.search.answers.Goals as goal

pub returns-then-not-are_in_domains : goal.returns-then-not-are_in_domains
returns-then-not-are_in_domains g c =
    rw c.new.ensures.items (none_outside (g.S.Store.graph c.args.store.now) c.args.version c.args.arcs.now c.args.goals.now c.args.bound.items
    (λ inside. let says = c.are_in_domains.ensures in let yes = says.1 (rw c.as_slice.ensures.value inside) in let never = c.if-not-are_in_domains.true in cc))
