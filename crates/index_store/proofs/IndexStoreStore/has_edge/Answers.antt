use Rattle.std.proofs.Common.{subst, sym}
use Rattle.list_lookup.specs.Picked.{HasOne, IsPlaced}
use Rattle.edge_queries.specs.Places.{at_edge}
use Rattle.edge_queries.specs.Listed.{edge_found}
use Rattle.index_store.proofs.SpanLaws.{placed_edge_out, edge_among}
use Rattle.index_store.proofs.IndexStoreStore.has_edge.Goals as goal

pub has-requires : goal.has-requires
has-requires c =
    subst (IsPlaced (at_edge c.args.from.now c.args.label.now c.args.to.now)) (sym c.edges_from.ensures.edges)
    (placed_edge_out c.args.from.now c.args.label.now c.args.to.now c.args.self.now.edges c.edges_from.ensures.well_formed.edges_ascend)

pub returns : goal.returns
returns c =
    let same = c.edges_from.ensures.edges in
    let found = edge_found c.args.self.now c.args.from.now c.args.label.now c.args.to.now in
    let among = edge_among c.args.from.now c.args.label.now c.args.to.now c.args.self.now.edges in (
      λ yes. found.0 (among.0 (subst (HasOne (at_edge c.args.from.now c.args.label.now c.args.to.now)) same (c.has.ensures.0 yes))),
      λ has. c.has.ensures.1 (subst (HasOne (at_edge c.args.from.now c.args.label.now c.args.to.now)) (sym same) (among.1 (found.1 has))),
    )
