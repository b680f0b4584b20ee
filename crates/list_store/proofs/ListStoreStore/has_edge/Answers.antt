use Rattle.std.proofs.Common.{ap, ◌∙◌, subst, sym}
use Rattle.graph_spec.specs.DataGraph.{DataGraph}
use Rattle.list_lookup.specs.Picked.{HasOne}
use Rattle.edge_queries.specs.Places.{at_edge}
use Rattle.edge_queries.specs.Listed.{edge_found}
use Rattle.list_store.proofs.ListStoreStore.has_edge.Goals as goal

pub returns : goal.returns
returns c =
    let same = c.edges.ensures.value ∙ ap (λ (G : DataGraph). G.edges) c.self.view_is in
    let found = edge_found c.args.self.now c.args.from.now c.args.label.now c.args.to.now in
    (λ yes. found.0 (subst (HasOne (at_edge c.args.from.now c.args.label.now c.args.to.now)) same (c.any.ensures.0 yes)), λ has. c.any.ensures.1 (subst (HasOne (at_edge c.args.from.now c.args.label.now c.args.to.now)) (sym same) (found.1 has)))
