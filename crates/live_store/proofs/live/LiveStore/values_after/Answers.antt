use Rattle.std.proofs.Common.{arith, ◌∙◌, ap, sym, subst, nat_lt, ◌-◌, ◌+◌}
use Rattle.std.specs.Prelude.{◌&&◌, IsTrue}
use Rattle.sd_value.specs.Order.{value_cmp}
use Rattle.graph_spec.specs.DataGraph.{IsValueOf}
use Rattle.graph_spec.specs.Orders.{step_cmp}
use Rattle.graph_spec.specs.Steps.{IsCountOf, IsStepTo}
use Rattle.live_store.specs.Counts.{one_if}
use Rattle.live_store.proofs.Moves.{to_bound}
use Rattle.live_store.proofs.ValueLaws.{IsAtomOf, one_itself, degree_moved, atoms_counted, atom_before, atoms_moved, values_counted}
use Rattle.live_store.proofs.live.LiveStore.values_after.Goals as goal

pub recount-left-requires-clause-there : goal.recount-left-requires-clause-there
recount-left-requires-clause-there c = (degree_moved c.args.self.now.graph c.args.self.now.graph c.args.edge.now c.args.was c.args.was
    (one_itself c.args.self.now.graph c.args.edge.now c.args.was c.requires.there) c.requires.there
    c.degree_incoming-degree.result c.degree_incoming-degree.ensures).0

pub recount-left-requires-clause-small : goal.recount-left-requires-clause-small
recount-left-requires-clause-small c =
    let most = to_bound c.args.self.now.graph c.counts-before.ensures.well_formed c.args.edge.now.to
    c.degree_incoming-degree.result c.degree_incoming-degree.ensures in
    omega (arith, most, c.counts-before.ensures.told.edge_count, c.counts-before.ensures.small.edges)

pub overflow_sub-before_atoms : goal.overflow_sub-before_atoms
overflow_sub-before_atoms c =
    let most = (atoms_counted c.args.self.now.graph c.counts-before.ensures.well_formed c.counts-before.result.sizes.values
    c.counts-before.ensures.told.value_count).0 in
    omega (arith, most, c.counts-before.ensures.told.node_count)

pub recount-atoms-requires-clause-there : goal.recount-atoms-requires-clause-there
recount-atoms-requires-clause-there c =
    let atoms = subst (λ n. IsCountOf value_cmp (IsAtomOf c.args.self.now.graph) (c.counts-before.result.sizes.values - n))
    (sym c.counts-before.ensures.told.node_count)
    (atoms_counted c.args.self.now.graph c.counts-before.ensures.well_formed c.counts-before.result.sizes.values
    c.counts-before.ensures.told.value_count).1 in
    λ t. atom_before c.args.self.now.graph c.counts-before.ensures.well_formed c.args.edge.now.to c.is_atom-atom.result
    c.is_atom-atom.ensures (c.counts-before.result.sizes.values - c.counts-before.result.sizes.nodes) c.degree_incoming-degree.result atoms
    c.degree_incoming-degree.ensures (subst IsTrue c.both-was_atom.ensures t)

pub returns : goal.returns
returns c =
    let atoms = subst (λ n. IsCountOf value_cmp (IsAtomOf c.args.self.now.graph) (c.counts-before.result.sizes.values - n))
    (sym c.counts-before.ensures.told.node_count)
    (atoms_counted c.args.self.now.graph c.counts-before.ensures.well_formed c.counts-before.result.sizes.values
    c.counts-before.ensures.told.value_count).1 in
    λ H formed one same.
    let after = subst (IsCountOf step_cmp (IsStepTo H c.args.edge.now.to)) (sym c.recount-left.ensures)
    (degree_moved c.args.self.now.graph H c.args.edge.now c.args.was c.args.is one c.requires.there
    c.degree_incoming-degree.result c.degree_incoming-degree.ensures).1 in
    let moved = atoms_moved c.args.self.now.graph H c.args.edge.now c.args.was c.args.is one c.requires.there
    c.counts-before.ensures.well_formed formed c.is_atom-atom.result c.is_atom-atom.ensures
    (c.counts-before.result.sizes.values - c.counts-before.result.sizes.nodes) c.degree_incoming-degree.result c.recount-left.result
    atoms c.degree_incoming-degree.ensures after in
    let atoms_is = c.recount-atoms.ensures ∙ ap (λ b. c.counts-before.result.sizes.values - c.counts-before.result.sizes.nodes - one_if b
    + one_if c.both.result) c.both-was_atom.ensures ∙ ap (λ b. c.counts-before.result.sizes.values - c.counts-before.result.sizes.nodes
    - one_if (c.is_atom-atom.result && nat_lt 0 c.degree_incoming-degree.result) + one_if b) c.both.ensures in
    subst (IsCountOf value_cmp (IsValueOf H)) (ap (λ k. c.recount-atoms.result + k) same)
    (values_counted H formed c.recount-atoms.result (subst (IsCountOf value_cmp (IsAtomOf H)) (sym atoms_is) moved))
