use Rattle.std.proofs.Common.{arith, ◌∙◌, ap, sym, subst, length, ◌-◌, ◌+◌}
use Rattle.std.specs.Prelude.{Contains}
use Rattle.sd_value.specs.Order.{value_cmp}
use Rattle.graph_spec.specs.DataGraph.{IsValueOf}
use Rattle.graph_spec.specs.Orders.{member_cmp, member_cmp-total, member_cmp-exact}
use Rattle.graph_spec.specs.Steps.{IsCountOf}
use Rattle.live_store.specs.Counts.{one_if}
use Rattle.live_store.proofs.CountLaws.{moved, itself, length_moved}
use Rattle.live_store.proofs.ValueLaws.{IsAtomOf, atoms_counted, atoms_same, labels_same, values_counted}
use Rattle.live_store.proofs.live.LiveStore.told_with_member.Goals as goal

pub recount-members-requires-clause-there : goal.recount-members-requires-clause-there
recount-members-requires-clause-there c =
    (moved member_cmp member_cmp-total member_cmp-exact {Q = Contains c.args.self.now.graph.members}
    {Q' = Contains c.args.self.now.graph.members} c.args.member.now c.counts-before.result.members
    (subst (IsCountOf member_cmp (Contains c.args.self.now.graph.members)) (sym c.counts-before.ensures.told.member_count)
    (itself member_cmp member_cmp-total member_cmp-exact c.args.self.now.graph.members
    c.counts-before.ensures.well_formed.members_ascend))
    (λ k other. (λ h. h, λ h. h)) c.args.was c.args.was c.requires.there c.requires.there).0

pub overflow_sub-before_atoms : goal.overflow_sub-before_atoms
overflow_sub-before_atoms c =
    let most = (atoms_counted c.args.self.now.graph c.counts-before.ensures.well_formed c.counts-before.result.sizes.values
    c.counts-before.ensures.told.value_count).0 in
    omega (arith, most, c.counts-before.ensures.told.node_count)

pub returns : goal.returns
returns c = λ H formed one nodes edges.
    let atoms = subst (λ n. IsCountOf value_cmp (IsAtomOf c.args.self.now.graph) (c.counts-before.result.sizes.values - n))
    (sym c.counts-before.ensures.told.node_count)
    (atoms_counted c.args.self.now.graph c.counts-before.ensures.well_formed c.counts-before.result.sizes.values
    c.counts-before.ensures.told.value_count).1 in
    record {
      node_count = sym nodes;
      edge_count = c.counts-before.ensures.told.edge_count ∙ ap length (sym edges);
      value_count = subst (IsCountOf value_cmp (IsValueOf H)) (ap
          (λ k. c.counts-before.result.sizes.values - c.counts-before.result.sizes.nodes + k) nodes)
          (values_counted H formed (c.counts-before.result.sizes.values - c.counts-before.result.sizes.nodes)
          (atoms_same c.args.self.now.graph H edges (c.counts-before.result.sizes.values - c.counts-before.result.sizes.nodes) atoms));
      label_count = labels_same c.args.self.now.graph H edges c.counts-before.result.sizes.labels c.counts-before.ensures.told.label_count;
      member_count = c.recount-members.ensures ∙ ap (λ n. n - one_if c.args.was + one_if c.args.is) c.counts-before.ensures.told.member_count
          ∙ length_moved member_cmp member_cmp-total member_cmp-exact c.args.self.now.graph.members H.members
          c.args.member.now c.args.was c.args.is c.counts-before.ensures.well_formed.members_ascend formed.members_ascend
          c.requires.there one.there one.others;
    }
