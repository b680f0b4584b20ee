use Rattle.live_layers.proofs.GroupLaws.{grouped_none}
use Rattle.sd_value.specs.Order.{bytes_cmp, value_cmp}
use Rattle.graph_spec.specs.declared.Edge.{Edge}
use Rattle.live_layers.proofs.orders.Orders.new.Goals as goal

pub returns : goal.returns
returns c = record {
  by_start = grouped_none bytes_cmp (λ (e : Edge). e.from) c.new.result c.new.ensures;
  by_end = grouped_none value_cmp (λ (e : Edge). e.to) c.new-2.result c.new-2.ensures;
  by_label = grouped_none bytes_cmp (λ (e : Edge). e.label) c.new-3.result c.new-3.ensures;
}
