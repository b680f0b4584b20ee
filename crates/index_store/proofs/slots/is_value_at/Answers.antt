use Rattle.std.proofs.Common.{arith, ap, sym, ◌∙◌, subst, ◌≡◌, ◌<◌, length}
use Rattle.std.specs.Prelude.{◌-◌, ℕ, List, slice_index_or}
use Rattle.std.specs.Ordering.{eq_by_cmp}
use Rattle.sd_value.specs.Order.{value_cmp}
use Rattle.sd_value.specs.OrderLaws.{same_bytes}
use Rattle.sd_value.specs.declared.Value.TheVariants.{Data}
use Rattle.graph_spec.specs.DataGraph.{Name, node}
use Rattle.graph_spec.specs.declared.Edge.{Edge}
use Rattle.index_store.proofs.ValueLaws.{node_value_at, end_value_at, same_value}
use Rattle.index_store.proofs.slots.is_value_at.Goals as goal

pub returns-in-Data-Node : goal.returns-in-Data-Node
returns-in-Data-Node c = λ yes.
    let is : c.args.value.now ≡ node c.in-Data-Node.name = c.in-Data-Node.is ∙ ap Data (rw c.in-Data-Node.is at c.in-Data-Node.field-0-is) in
    let same : c.index-nodes-place.result ≡ c.in-Data-Node.name = same_bytes c.index-nodes-place.result c.in-Data-Node.name (sym c.eq.ensures ∙ yes) in
    node_value_at c.args.graph.now c.args.place c.index-nodes-place.result (subst (λ (ns : List Name). c.args.place < length ns) c.nodes-nodes.ensures.value c.if-place-nodes.true)
    (subst (λ (ns : List Name). c.index-nodes-place.result ≡ slice_index_or ns c.args.place c.index-nodes-place.result) c.nodes-nodes.ensures.value c.index-nodes-place.is)
    ∙ ap node same ∙ sym is

pub returns-else-place-nodes : goal.returns-else-place-nodes
returns-else-place-nodes c = λ yes. let e = c.index-edges-place.result in let long = ap length c.nodes-nodes.ensures.value in
    end_value_at c.args.graph.now c.args.place e (omega (arith, long, c.if-place-nodes.false)) c.requires
    (subst (λ (n : ℕ). e ≡ slice_index_or c.args.graph.now.edges (c.args.place - n) e) long
    (subst (λ (es : List Edge). e ≡ slice_index_or es (c.args.place - length c.nodes-nodes.result.now) e) c.edges.ensures.value c.index-edges-place.is))
    ∙ same_value e.to c.args.value.now (ap (λ (d : Edge). eq_by_cmp value_cmp d.to c.args.value.now) c.index-edges-place.is ∙ sym c.eq-else-place-nodes.ensures ∙ yes)
