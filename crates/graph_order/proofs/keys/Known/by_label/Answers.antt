use Rattle.std.proofs.Common.{◌≡◌, ◌∙◌, ap, sym, subst, List}
use Rattle.graph_spec.specs.DataGraph.{node}
use Rattle.graph_spec.specs.declared.Edge.{Edge}
use Rattle.list_lookup.specs.Picked.{IsPlaced, in_place}
use Rattle.edge_queries.specs.Places.{at_start_label}
use Rattle.edge_queries.specs.Listed.{placed-start_label}
use Rattle.graph_order.specs.Keys.{EndWithin}
use Rattle.graph_order.proofs.Ends.{placed_ends}
use Rattle.graph_order.proofs.Keyed.{by_label_is}
use Rattle.graph_order.proofs.keys.Known.by_label.Goals as goal

pub part-edges-requires : goal.part-edges-requires
part-edges-requires c =
    let n = c.in_ok-copy.field-0 in
    subst (λ (es : List Edge). IsPlaced (at_start_label (node n) c.args.label.now) es) (sym c.edges.ensures.value)
    (placed-start_label (node n) c.args.label.now c.args.self.now.graph.now.edges c.edges.ensures.well_formed.edges_ascend)

pub least-requires-clause-edges : goal.least-requires-clause-edges
least-requires-clause-edges c =
    let n = c.in_ok-copy.field-0 in
    let G = c.args.self.now.graph.now in
    subst (EndWithin G) (sym (c.part-edges.ensures ∙ ap (in_place (at_start_label (node n) c.args.label.now)) c.edges.ensures.value))
    (placed_ends G c.edges.ensures.well_formed c.args.label.now n)

pub returns : goal.returns
returns c =
    let k = c.args.self.now in
    let n = c.in_ok-copy.field-0 in
    let placed : c.part-edges.result.now ≡ in_place (at_start_label (node n) c.args.label.now) k.graph.now.edges =
    c.part-edges.ensures ∙ ap (in_place (at_start_label (node n) c.args.label.now)) c.edges.ensures.value in
    by_label_is k.by_fold k.graph.now k.word.now c.args.label.now n c.args.name.now c.in_ok-copy.ensures c.part-edges.result.now placed c.least.result c.least.ensures
