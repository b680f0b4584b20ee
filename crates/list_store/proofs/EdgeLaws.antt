-- Edges to one value differ in their labels or their starts.
use Rattle.std.specs.Prelude.{◌≡◌}
use Rattle.std.specs.declared.cmp.Ordering.TheVariants.{Less, Equal}
use Rattle.std.proofs.Common.{sym, ap, ◌∙◌, subst}
use Rattle.sd_value.specs.AscendingLaws.{not_below_itself}
use Rattle.sd_value.specs.declared.Value.{Value}
use Rattle.sd_value.specs.OrderLaws.{bytes_cmp-exact, value_cmp-exact, both_tie}
use Rattle.graph_spec.specs.DataGraph.{Name, node}
use Rattle.graph_spec.specs.Orders.{edge_cmp, edge_cmp-total}
use Rattle.graph_spec.specs.declared.Edge.{Edge}
use Rattle.graph_spec.specs.declared.Step.{Step}
use Rattle.edge_queries.specs.Places.{at_end, at_end_label, step_to}

named : (m n : Name) → node m ≡ node n → m ≡ n
named m n e = cc

not_one : (x y : Edge) → x.from ≡ y.from → x.label ≡ y.label → x.to ≡ y.to → edge_cmp x y ≡ Less → ⊥
not_one x y from label to less =
    let same : x ≡ y = λ i. record { from = from i; label = label i; to = to i } in
    not_below_itself edge_cmp-total y (subst (λ e. edge_cmp e y ≡ Less) same less)

pub steps_apart : (v : Value) (x y : Edge) → at_end v x ≡ Equal → at_end v y ≡ Equal → edge_cmp x y ≡ Less → step_to x ≡ step_to y → ⊥
steps_apart v x y h k less same =
    not_one x y (named x.from y.from (ap (λ (s : Step). s.end) same)) (ap (λ (s : Step). s.label) same) (value_cmp-exact x.to v h ∙ sym (value_cmp-exact y.to v k)) less

pub starts_apart : (v : Value) (label : Name) (x y : Edge) → at_end_label v label x ≡ Equal → at_end_label v label y ≡ Equal → edge_cmp x y ≡ Less → node x.from ≡ node y.from → ⊥
starts_apart v label x y h k less same =
    let p = both_tie (at_end v x) _ h in
    let q = both_tie (at_end v y) _ k in
    not_one x y (named x.from y.from same) (bytes_cmp-exact x.label label p.1 ∙ sym (bytes_cmp-exact y.label label q.1)) (value_cmp-exact x.to v p.0 ∙ sym (value_cmp-exact y.to v q.0)) less
