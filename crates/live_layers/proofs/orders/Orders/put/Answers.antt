use Rattle.std.proofs.Common.{List}
use Rattle.live_layers.specs.Grouped.{AreOrders, AreNear}
use Rattle.sd_value.specs.Order.{bytes_cmp, value_cmp}
use Rattle.sd_value.specs.OrderLaws.{bytes_cmp-total, bytes_cmp-exact, value_cmp-total, value_cmp-exact}
use Rattle.graph_spec.specs.declared.Edge.{Edge}
use Rattle.graph_spec.specs.Orders.{edge_cmp, edge_cmp-total, edge_cmp-exact}
use Rattle.live_layers.proofs.GroupLaws.{on_err, grouped_with, near_with, near_same, near_itself}
use Rattle.live_layers.proofs.orders.Orders.put.Goals as goal

pub returns-in_err-put-clause-some : goal.returns-in_err-put-clause-some
returns-in_err-put-clause-some c = on_err {P = (es : List Edge) → AreOrders es c.args.self.now → AreNear c.args.edge.now es
    (record { by_start = c.put.new.self; by_end = c.args.self.now.by_end; by_label = c.args.self.now.by_label })} _ (λ es was. record {
      by_start = near_same bytes_cmp bytes_cmp-total bytes_cmp-exact edge_cmp edge_cmp-total edge_cmp-exact (λ (e : Edge). e.from)
          c.args.edge.now es c.args.self.now.by_start c.put.new.self was.by_start c.put.ensures.others c.in_err-put.ensures.kept;
      by_end = near_itself value_cmp value_cmp-total value_cmp-exact edge_cmp edge_cmp-total edge_cmp-exact (λ (e : Edge). e.to)
          c.args.edge.now es c.args.self.now.by_end was.by_end;
      by_label = near_itself bytes_cmp bytes_cmp-total bytes_cmp-exact edge_cmp edge_cmp-total edge_cmp-exact (λ (e : Edge). e.label)
          c.args.edge.now es c.args.self.now.by_label was.by_label;
    })

pub returns-in_err-put-2-clause-some : goal.returns-in_err-put-2-clause-some
returns-in_err-put-2-clause-some c = on_err {P = (es : List Edge) → AreOrders es c.args.self.now → AreNear c.args.edge.now es
    (record { by_start = c.put.new.self; by_end = c.put-2.new.self; by_label = c.args.self.now.by_label })} _ (λ es was. record {
      by_start = near_with bytes_cmp bytes_cmp-total bytes_cmp-exact edge_cmp edge_cmp-total edge_cmp-exact (λ (e : Edge). e.from)
          c.args.edge.now es c.put.new.self (grouped_with bytes_cmp bytes_cmp-total bytes_cmp-exact edge_cmp edge_cmp-total edge_cmp-exact
          (λ (e : Edge). e.from) c.args.edge.now es c.args.self.now.by_start c.put.new.self was.by_start c.in_ok-put.ensures.here c.put.ensures.others);
      by_end = near_same value_cmp value_cmp-total value_cmp-exact edge_cmp edge_cmp-total edge_cmp-exact (λ (e : Edge). e.to)
          c.args.edge.now es c.args.self.now.by_end c.put-2.new.self was.by_end c.put-2.ensures.others c.in_err-put-2.ensures.kept;
      by_label = near_itself bytes_cmp bytes_cmp-total bytes_cmp-exact edge_cmp edge_cmp-total edge_cmp-exact (λ (e : Edge). e.label)
          c.args.edge.now es c.args.self.now.by_label was.by_label;
    })

pub returns-in_err-put-3-clause-some : goal.returns-in_err-put-3-clause-some
returns-in_err-put-3-clause-some c = on_err {P = (es : List Edge) → AreOrders es c.args.self.now → AreNear c.args.edge.now es
    (record { by_start = c.put.new.self; by_end = c.put-2.new.self; by_label = c.put-3.new.self })} _ (λ es was. record {
      by_start = near_with bytes_cmp bytes_cmp-total bytes_cmp-exact edge_cmp edge_cmp-total edge_cmp-exact (λ (e : Edge). e.from)
          c.args.edge.now es c.put.new.self (grouped_with bytes_cmp bytes_cmp-total bytes_cmp-exact edge_cmp edge_cmp-total edge_cmp-exact
          (λ (e : Edge). e.from) c.args.edge.now es c.args.self.now.by_start c.put.new.self was.by_start c.in_ok-put.ensures.here c.put.ensures.others);
      by_end = near_with value_cmp value_cmp-total value_cmp-exact edge_cmp edge_cmp-total edge_cmp-exact (λ (e : Edge). e.to)
          c.args.edge.now es c.put-2.new.self (grouped_with value_cmp value_cmp-total value_cmp-exact edge_cmp edge_cmp-total edge_cmp-exact
          (λ (e : Edge). e.to) c.args.edge.now es c.args.self.now.by_end c.put-2.new.self was.by_end c.in_ok-put-2.ensures.here c.put-2.ensures.others);
      by_label = near_same bytes_cmp bytes_cmp-total bytes_cmp-exact edge_cmp edge_cmp-total edge_cmp-exact (λ (e : Edge). e.label)
          c.args.edge.now es c.args.self.now.by_label c.put-3.new.self was.by_label c.put-3.ensures.others c.in_err-put-3.ensures.kept;
    })

pub returns-clause-all : goal.returns-clause-all
returns-clause-all c = λ es was. record {
  by_start = grouped_with bytes_cmp bytes_cmp-total bytes_cmp-exact edge_cmp edge_cmp-total edge_cmp-exact
      (λ (e : Edge). e.from) c.args.edge.now es c.args.self.now.by_start c.put.new.self was.by_start c.in_ok-put.ensures.here c.put.ensures.others;
  by_end = grouped_with value_cmp value_cmp-total value_cmp-exact edge_cmp edge_cmp-total edge_cmp-exact
      (λ (e : Edge). e.to) c.args.edge.now es c.args.self.now.by_end c.put-2.new.self was.by_end c.in_ok-put-2.ensures.here c.put-2.ensures.others;
  by_label = grouped_with bytes_cmp bytes_cmp-total bytes_cmp-exact edge_cmp edge_cmp-total edge_cmp-exact
      (λ (e : Edge). e.label) c.args.edge.now es c.args.self.now.by_label c.put-3.new.self was.by_label c.in_ok-put-3.ensures.here c.put-3.ensures.others;
}
