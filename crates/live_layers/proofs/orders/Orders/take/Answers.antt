use Rattle.sd_value.specs.Order.{bytes_cmp, value_cmp}
use Rattle.sd_value.specs.OrderLaws.{bytes_cmp-total, bytes_cmp-exact, value_cmp-total, value_cmp-exact}
use Rattle.graph_spec.specs.declared.Edge.{Edge}
use Rattle.graph_spec.specs.Orders.{edge_cmp, edge_cmp-total, edge_cmp-exact}
use Rattle.live_layers.proofs.GroupLaws.{grouped_without}
use Rattle.live_layers.proofs.orders.Orders.take.Goals as goal

pub returns : goal.returns
returns c = λ es near none. record {
  by_start = grouped_without bytes_cmp bytes_cmp-total bytes_cmp-exact edge_cmp edge_cmp-total edge_cmp-exact
      (λ (e : Edge). e.from) c.args.edge.now es c.args.self.now.by_start c.take.new.self near.by_start none c.take.ensures.ascend c.take.ensures.here
      c.take.ensures.others;
  by_end = grouped_without value_cmp value_cmp-total value_cmp-exact edge_cmp edge_cmp-total edge_cmp-exact
      (λ (e : Edge). e.to) c.args.edge.now es c.args.self.now.by_end c.take-2.new.self near.by_end none c.take-2.ensures.ascend c.take-2.ensures.here
      c.take-2.ensures.others;
  by_label = grouped_without bytes_cmp bytes_cmp-total bytes_cmp-exact edge_cmp edge_cmp-total edge_cmp-exact
      (λ (e : Edge). e.label) c.args.edge.now es c.args.self.now.by_label c.take-3.new.self near.by_label none c.take-3.ensures.ascend c.take-3.ensures.here
      c.take-3.ensures.others;
}
