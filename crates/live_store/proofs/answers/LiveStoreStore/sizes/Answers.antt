use Rattle.std.proofs.Common.{◌∙◌, ap, subst, length}
use Rattle.sd_value.specs.Order.{bytes_cmp, value_cmp}
use Rattle.graph_spec.specs.DataGraph.{IsValueOf, IsLabelOf, IsWellFormed}
use Rattle.graph_spec.specs.Steps.{IsCountOf}
use Rattle.sd_graph.specs.Statement.{Building}
use Rattle.live_store.proofs.answers.LiveStoreStore.sizes.Goals as goal

pub returns : goal.returns
returns c =
    let told = c.self.invariant.reported in
    record {
      nodes = told.node_count ∙ ap (λ (b : Building). length b.graph.nodes) c.self.view_is;
      edges = told.edge_count ∙ ap (λ (b : Building). length b.graph.edges) c.self.view_is;
      values = subst (λ (b : Building). IsCountOf value_cmp (IsValueOf b.graph) c.self.inside.told.sizes.values) c.self.view_is
          told.value_count;
      labels = subst (λ (b : Building). IsCountOf bytes_cmp (IsLabelOf b.graph) c.self.inside.told.sizes.labels) c.self.view_is
          told.label_count;
      well_formed = subst (λ (b : Building). IsWellFormed b.graph) c.self.view_is c.self.invariant.layers.whole;
    }
