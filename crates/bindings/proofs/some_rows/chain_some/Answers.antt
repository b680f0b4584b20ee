use Rattle.bindings.proofs.Rows.{some_listed, no_answer}
use Rattle.bindings.proofs.Told.{none_of}
use Rattle.bindings.proofs.some_rows.chain_some.Goals as goal

pub returns : goal.returns
returns g c =
    some_listed (g.S.Store.graph c.args.store.now) c.args.chain.now c.args.goals.now c.requires.resolved c.args.wanted.now c.args.bound.items c.in_ok-found.found.items c.requires.as_long
    (rw (c.version.ensures, c.requires.arcs, c.as_mut_slice.ensures.value) at c.in_ok-found.ensures)

pub returns-then-not-are_in_domains : goal.returns-then-not-are_in_domains
returns-then-not-are_in_domains g c =
    rw c.new.ensures.items (none_of c.args.wanted.now _ (λ t a. no_answer (g.S.Store.graph c.args.store.now) c.args.chain.now c.args.goals.now c.requires.resolved c.args.bound.items
    (λ inside.
    let says = rw (c.requires.arcs, c.as_slice.ensures.value) at c.are_in_domains.ensures in
    let yes = says.1 inside in let never = c.if-not-are_in_domains.true in cc) (record { row = t; is_answer = a })))
