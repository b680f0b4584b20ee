use Rattle.std.proofs.Common.{◌∙◌, ap, sym, subst, length, ◌-◌, ◌+◌}
use Rattle.std.specs.Prelude.{Contains}
use Rattle.graph_spec.specs.Orders.{edge_cmp, edge_cmp-total, edge_cmp-exact}
use Rattle.graph_spec.specs.Steps.{IsCountOf}
use Rattle.live_store.specs.Counts.{one_if}
use Rattle.live_store.proofs.CountLaws.{moved, itself, length_moved}
use Rattle.live_store.proofs.live.LiveStore.told_with_edge.Goals as goal

pub recount-edges-requires-clause-there : goal.recount-edges-requires-clause-there
recount-edges-requires-clause-there c =
    (moved edge_cmp edge_cmp-total edge_cmp-exact {Q = Contains c.args.self.now.graph.edges}
    {Q' = Contains c.args.self.now.graph.edges} c.args.edge.now c.counts-before.result.sizes.edges
    (subst (IsCountOf edge_cmp (Contains c.args.self.now.graph.edges)) (sym c.counts-before.ensures.told.edge_count)
    (itself edge_cmp edge_cmp-total edge_cmp-exact c.args.self.now.graph.edges c.counts-before.ensures.well_formed.edges_ascend))
    (λ k other. (λ h. h, λ h. h)) c.args.was c.args.was c.requires.there c.requires.there).0

pub returns : goal.returns
returns c = λ H formed one nodes members. record {
  node_count = sym nodes;
  edge_count = c.recount-edges.ensures ∙ ap (λ n. n - one_if c.args.was + one_if c.args.is) c.counts-before.ensures.told.edge_count
      ∙ length_moved edge_cmp edge_cmp-total edge_cmp-exact c.args.self.now.graph.edges H.edges c.args.edge.now c.args.was
      c.args.is c.counts-before.ensures.well_formed.edges_ascend formed.edges_ascend c.requires.there one.there one.others;
  value_count = c.values_after-values.ensures H formed one nodes;
  label_count = c.labels_after-labels.ensures H one;
  member_count = c.counts-before.ensures.told.member_count ∙ ap length (sym members);
}
