use Rattle.std.proofs.Common.{ap, ◌∙◌, sym, subst}
use Rattle.list_lookup.specs.Picked.{in_place, IsPlaced}
use Rattle.edge_queries.specs.Places.{at_start, at_label}
use Rattle.index_store.proofs.SpanLaws.{placed_out, then_in_place}
use Rattle.index_store.proofs.IndexStore.edges_out.Goals as goal

pub part-requires : goal.part-requires
part-requires c = subst (IsPlaced (at_label c.args.label.now)) (sym c.edges_from.ensures.edges) (placed_out c.args.from.now c.args.label.now c.args.self.now.edges c.edges_from.ensures.well_formed.edges_ascend)

pub returns-clause-edges : goal.returns-clause-edges
returns-clause-edges c = c.part.ensures ∙ ap (in_place (at_label c.args.label.now)) c.edges_from.ensures.edges ∙ then_in_place (at_start c.args.from.now) (at_label c.args.label.now) c.args.self.now.edges
