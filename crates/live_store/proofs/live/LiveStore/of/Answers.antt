use Rattle.std.proofs.Common.{◌≡◌, ◌∙◌, ap, sym, subst, List, [], length}
use Rattle.sd_value.specs.Order.{bytes_cmp, value_cmp}
use Rattle.graph_spec.specs.DataGraph.{DataGraph, Name, IsWellFormed, IsValueOf, IsLabelOf}
use Rattle.graph_spec.specs.Statement.{empty_graph}
use Rattle.graph_spec.specs.Steps.{IsCountOf}
use Rattle.sd_graph.specs.ProgramLimits.{program_limits}
use Rattle.live_store.specs.Live.{changed, Layers, IsLive}
use Rattle.live_store.proofs.Edits.{layers_first}
use Rattle.live_store.proofs.live.LiveStore.of.Goals as goal

first : (G B C D : DataGraph) (nodes : List Name) → IsWellFormed G → B ≡ G → C ≡ empty_graph → D ≡ empty_graph
    → nodes ≡ [] → Layers B C D nodes G
first G B C D nodes well base came gone bare =
    subst (λ ns. Layers B C D ns G) (sym bare)
    (subst (λ X. Layers B C X [] G) (sym gone)
    (subst (λ X. Layers B X empty_graph [] G) (sym came)
    (subst (λ X. Layers X empty_graph empty_graph [] G) (sym base)
    (layers_first G well))))

pub invariant_of-result : goal.invariant_of-result
invariant_of-result c =
    let same : changed c.in_ok-base.base c.new.result c.new-2.result c.new-3.result.keys ≡ c.args.graph =
    λ i. changed (c.in_ok-base.ensures i) (c.new.ensures i) (c.new-2.ensures i) (c.new-3.ensures.empty i) in
    subst (λ G. IsLive (record { limits = program_limits; graph = G }) c.in_ok-base.base c.new.result c.new-2.result
    c.new-3.result.keys (record { sizes = c.sizes-sizes.result; members = length c.member_pairs.result.now })) (sym same)
    (record {
      layers = first c.args.graph c.in_ok-base.base c.new.result c.new-2.result c.new-3.result.keys
          c.edges-edges.ensures.well_formed c.in_ok-base.ensures c.new.ensures c.new-2.ensures c.new-3.ensures.empty;
      reported = record {
        node_count = c.sizes-sizes.ensures.nodes ∙ ap (λ (G : DataGraph). length G.nodes) c.in_ok-base.ensures;
        edge_count = c.sizes-sizes.ensures.edges ∙ ap (λ (G : DataGraph). length G.edges) c.in_ok-base.ensures;
        value_count = subst (λ (G : DataGraph). IsCountOf value_cmp (IsValueOf G) c.sizes-sizes.result.values)
            c.in_ok-base.ensures c.sizes-sizes.ensures.values;
        label_count = subst (λ (G : DataGraph). IsCountOf bytes_cmp (IsLabelOf G) c.sizes-sizes.result.labels)
            c.in_ok-base.ensures c.sizes-sizes.ensures.labels;
        member_count = ap length c.member_pairs.ensures.value;
      };
      within = c.member_pairs.ensures.within;
    })
